-- The relations that have a rule at a timestamp are named by the declarations.
use Rattle.std.proofs.Common.{◌≡◌, ℕ, nat_le, List, [], ◌∷◌, Bool, true, false, if◌then◌else◌, Option, None, Some, option_map, refl, sym, subst}
use Rattle.std.specs.Prelude.{Contains}
use Rattle.std.specs.List.{flat_map}
use Rattle.std.specs.Option.{option_or}
use Rattle.std.specs.Str.{bytes_eq}
use Rattle.std.proofs.lemmas.List.Elements.{Contains-append_left, Contains-append_right}
use Rattle.tuple_text.specs.Tuples.{TupleValue, FactValue}
use Rattle.namespaces.specs.Declaration.{Relation, Declaration}
use Rattle.namespaces.specs.Lookup.{Rule, as_rule, rule_of, rule_at, relation_at, relation_named, relation_names, in_force}
use Rattle.rewrites.proofs.Names.{one_name}
use Rattle.strata.specs.Meaning.{Member, HasLeastRound}
use Rattle.strata.specs.Strata.{HasValidStrata, HasNames}
use Rattle.strata.proofs.LeastRound.{supported_law}
use Rattle.strata.proofs.Lists.{Contains-here, Contains-there}

abbrev declared_names : List Declaration → List (List ℕ)
declared_names ds = flat_map (λ (d : Declaration). relation_names d.relations) ds

named_in : (name : List ℕ) (rs : List Relation) (x : Relation) → relation_named name rs ≡ Some x → Contains (relation_names rs) name
named_in name [] x h = absurd cc
named_in name (r ∷ rs) x h = by_test (bytes_eq name r.name) refl h (named_in name rs x)
  where
    by_test : (b : Bool) → bytes_eq name r.name ≡ b → (if b then Some r else relation_named name rs) ≡ Some x
        → (relation_named name rs ≡ Some x → Contains (relation_names rs) name) → Contains (r.name ∷ relation_names rs) name
    by_test true same e further = subst (Contains (r.name ∷ relation_names rs)) (sym (one_name name r.name same)) (Contains-here r.name (relation_names rs))
    by_test false other e further = Contains-there r.name (relation_names rs) name (further e)

named_by : (at : ℕ) (namespace relation : List ℕ) (d : Declaration) (x : Relation) → in_force at namespace relation d ≡ Some x → Contains (relation_names d.relations) relation
named_by at namespace relation d x h = by_tests (nat_le d.at at) (bytes_eq namespace d.name) h
  where
    by_tests : (a b : Bool) → (if a then (if b then relation_named relation d.relations else None) else None) ≡ Some x → Contains (relation_names d.relations) relation
    by_tests true true e = named_in relation d.relations x e
    by_tests true false e = absurd cc
    by_tests false b e = absurd cc

named_at : (ds : List Declaration) (at : ℕ) (namespace relation : List ℕ) (x : Relation) → relation_at ds at namespace relation ≡ Some x → Contains (declared_names ds) relation
named_at [] at namespace relation x h = absurd cc
named_at (d ∷ ds) at namespace relation x h = by_later (relation_at ds at namespace relation) (named_at ds at namespace relation) h
  where
    by_later : (o : Option Relation) → ((y : Relation) → o ≡ Some y → Contains (declared_names ds) relation)
        → option_or o (in_force at namespace relation d) ≡ Some x → Contains (declared_names (d ∷ ds)) relation
    by_later (Some y) later e = Contains-append_right (relation_names d.relations) (declared_names ds) relation (later y refl)
    by_later None later e = Contains-append_left (relation_names d.relations) (declared_names ds) relation (named_by at namespace relation d x e)

has_declared_names : (ds : List Declaration) (at : ℕ) → HasNames (rule_at ds at) (declared_names ds)
has_declared_names ds at namespace relation r h = by_relation (relation_at ds at namespace relation) refl h
  where
    by_relation : (o : Option Relation) → relation_at ds at namespace relation ≡ o → option_map as_rule o ≡ Some r → Contains (declared_names ds) relation
    by_relation None is e = absurd cc
    by_relation (Some x) is e = named_at ds at namespace relation x is

pub supported_at_each_time_law : (ds : List Declaration) (at : ℕ) (store : List TupleValue) → HasValidStrata (rule_at ds at) store
    → (f : FactValue) (r : Rule) → rule_of (rule_at ds at) f.set ≡ Some r → Member (rule_at ds at) store f → HasLeastRound (rule_at ds at) store f r
supported_at_each_time_law ds at store valid = supported_law (rule_at ds at) store valid (declared_names ds) (has_declared_names ds at)
