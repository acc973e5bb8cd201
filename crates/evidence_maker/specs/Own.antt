-- Rules that read declared relations of their own namespaces.
use Rattle.std.specs.Prelude.{◌≡◌, ℕ, List, Some, Contains}
use Rattle.tuple_text.specs.Sets.{SetValue}
use Rattle.rewrites.specs.Expression.{Expression, own_relations}
use Rattle.namespaces.specs.Lookup.{Rule, Lookup, rule_of}
use Rattle.strata.specs.Meaning.{with_relation}
use Rattle.judgement.specs.Judgement.{IsUndeclared}

-- the relations of f's own namespace that the expression names are declared
abbrev pub OwnDeclared : Lookup → SetValue → Expression → Type 0
OwnDeclared rules g e = (q : List ℕ) → Contains (own_relations e) q → ¬ IsUndeclared rules (with_relation g q)

-- the same of each rule
abbrev pub HasOwnRelations : Lookup → Type 0
HasOwnRelations rules = (g : SetValue) (r : Rule) → rule_of rules g ≡ Some r → OwnDeclared rules g r.expression
