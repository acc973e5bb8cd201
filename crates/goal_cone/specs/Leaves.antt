-- The leaves of rules, each once, where these stand.
use Rattle.std.specs.Prelude.{◌≡◌, ◌++◌, ◌∷◌, [], ℕ, List, Option, None, Some, Contains, map, slice_get, unwrap_or}
use Rattle.namespaces.specs.Declaration.{Declaration}
use Rattle.namespaces.specs.Lookup.{expression_in}
use Rattle.rewrites.specs.Expression.{Expression}
use Rattle.rewrites.specs.Leaves.{leaves_in}
use Rattle.rewrites.specs.Parts.{computed_names, part_expression, parts_shown}
use Rattle.rewrites.specs.Plain.{IsThinned, leaves}
use Rattle.rewrites.specs.declared.parts.Part.{Part}
use Rattle.rewrites.specs.declared.parts.Through.{Through}
use Rattle.wide_rules.specs.Declaring.{HaveDeclaring}
use Rattle.goal_cone.specs.declared.leaves.PlacedLeaves.{PlacedLeaves}
use Rattle.goal_cone.specs.declared.leaves.ReadPart.{ReadPart}

-- the declarations, and the leaves that were found of their rules, by numbers
pub record LeavesValue : Type 0 where
  pub declarations : List Declaration
  pub found : List (List Expression)

-- those of a number; where there is none, none
abbrev pub numbered : ℕ → List (List Expression) → List Expression
numbered n found = unwrap_or (slice_get found n) []

abbrev leaves_or_none : Option Expression → List Expression
leaves_or_none None = []
leaves_or_none (Some e) = leaves e

-- expressions have the leaves of a rule, and no more of them
abbrev pub HaveLeavesOf : List Expression → Option Expression → Type 0
HaveLeavesOf es o = IsThinned (leaves_in es) (leaves_or_none o)

-- parts as expressions, without what is noted of them
abbrev pub read_shown : List ReadPart → List Expression
read_shown rs = parts_shown (map (λ r. r.part) rs)

-- of a part that reads through a tupleset the namespaces are noted that declare what it reads, and maybe others
abbrev pub IsNoted : List Declaration → ReadPart → Type 0
IsNoted declarations r = (through : Through) → r.part ≡ Part.Through through
    → HaveDeclaring declarations (computed_names through) r.declaring

-- the leaves of the rule at their place, and what is noted of each part
pub record IsPlaced (declarations : List Declaration) (p : PlacedLeaves) : Type 0 where
  pub leaves : HaveLeavesOf (read_shown p.parts.items) (expression_in p.place declarations)
  pub noted : (r : ReadPart) → Contains p.parts.items r → IsNoted declarations r

-- so it is of each
abbrev pub ArePlaced : List Declaration → List PlacedLeaves → Type 0
ArePlaced declarations placed = (p : PlacedLeaves) → Contains placed p → IsPlaced declarations p

-- ---- as they are put together

-- a part got one more leaf, or had it
abbrev pub Grows : Part → Part → Expression → Type 0
Grows old new e = IsThinned (leaves (part_expression new)) (leaves (part_expression old) ++ e ∷ [])
