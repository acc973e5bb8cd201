-- A rule by its parts. A part is a rule without children, or the union of what some relations give through one
-- tupleset.
use Rattle.std.specs.Prelude.{◌≡◌, ℕ, List, ◌++◌, map, slice_get, unwrap_or, string_bytes, Option}
use Rattle.std.specs.Option.{ForSome}
use Rattle.rewrites.specs.Alike.{IsAlike}
use Rattle.rewrites.specs.Expression.{Expression, tuple_to, union, inter, minus, no_child, children}
use Rattle.rewrites.specs.Joints.{JoinAlike}
use Rattle.rewrites.specs.View.{expression_of}
use Rattle.rewrites.specs.declared.plain.Joint.{Joint}
use Rattle.rewrites.specs.declared.parts.Through.{Through}
use Rattle.rewrites.specs.declared.parts.Part.{Part}
use Rattle.rewrites.specs.declared.parts.Node.{Node, fold-Node}
use Rattle.rewrites.specs.declared.parts.Node.TheOpen.{Node-F}
use Rattle.rewrites.specs.declared.parts.PartedRule.{PartedRule}

-- the names of the relations that are read through a tupleset
abbrev pub computed_names : Through → List (List ℕ)
computed_names t = map (λ e. string_bytes e.0) t.computed.entries

-- what each of them gives
abbrev pub each_shown : Through → List Expression
each_shown t = map (λ e. tuple_to (string_bytes t.tupleset) (string_bytes e.0)) t.computed.entries

abbrev pub through_expression : Through → Expression
through_expression t = union (children (each_shown t))

abbrev pub throughs_shown : List Through → List Expression
throughs_shown ts = map through_expression ts

abbrev pub part_expression : Part → Expression
part_expression (Part.Leaf r) = expression_of r
part_expression (Part.Through t) = through_expression t

abbrev pub parts_shown : List Part → List Expression
parts_shown ps = map part_expression ps

-- the part of a number; where there is none, a union of nothing
abbrev pub part_at : List Expression → ℕ → Expression
part_at parts n = unwrap_or (slice_get parts n) (union no_child)

-- one level, with each node inside already seen as its expression
abbrev pub node_step : List Expression → Node-F Expression → Expression
node_step parts (Node-F.Part n) = part_at parts n
node_step parts (Node-F.Union es) = union (children es.items)
node_step parts (Node-F.Inter es) = inter (children es.items)
node_step parts (Node-F.Minus a b) = minus a.value b.value

abbrev pub node_expression : List Expression → Node → Expression
node_expression parts = fold-Node Expression (node_step parts)

abbrev pub nodes_shown : List Expression → List Node → List Expression
nodes_shown parts ns = map (node_expression parts) ns

abbrev pub rule_shown : PartedRule → Expression
rule_shown r = node_expression (parts_shown r.parts.items) r.top

-- a rule by its parts, where there is one, says what an expression says
abbrev pub ArePartsOf : Option PartedRule → Expression → Type 0
ArePartsOf o e = ForSome o (λ r. IsAlike (rule_shown r) e)

-- ---- as parts are numbered

-- the new list goes on from the old one
abbrev pub IsGrown : List Expression → List Expression → Type 0
IsGrown old new = (added : List Expression) × (new ≡ old ++ added)

-- the node says what an expression says, whatever parts follow
abbrev pub SaysWith : List Expression → Node → Expression → Type 0
SaysWith parts n e = (more : List Expression) → IsAlike (node_expression (parts ++ more) n) e

-- parts were added, and with them the node says what an expression says
pub record Says (old new : List Expression) (n : Node) (e : Expression) : Type 0 where
  pub grown : IsGrown old new
  pub alike : SaysWith new n e

-- parts were added, and one of them is the expression
pub record HasPart (old new : List Expression) (n : ℕ) (e : Expression) : Type 0 where
  pub grown : IsGrown old new
  pub stands : (more : List Expression) → part_at (new ++ more) n ≡ e

-- parts were added, and with them nodes join to what some expressions join to
pub record AllSay (joint : Joint) (old new : List Expression) (ns : List Node) (es : List Expression) : Type 0 where
  pub grown : IsGrown old new
  pub alike : (more : List Expression) → JoinAlike joint (nodes_shown (new ++ more) ns) es
