-- Jumps from a touch back to an earlier one of the same tuple. No public clause cites this module.
use Rattle.std.specs.Prelude.{◌≡◌, ◌≤◌, ◌+◌, ◌-◌, ◌^◌, min, ℕ, zero, suc, List, length, slice_get, Option, None, Some, nat_eq, option_and_then, if◌then◌else◌}
use Rattle.version_chains.specs.declared.node.Links.{Links}
use Rattle.version_chains.specs.declared.node.Node.{Node}

-- the node at a place, which counts from 1
abbrev pub StandsAt : List Node → ℕ → Node → Type 0
StandsAt nodes place n = (i : ℕ) × (place ≡ suc i) × (slice_get nodes i ≡ Some n)

-- the place of a touch of this tuple, at the index or before it
abbrev pub IsBack : List Node → ℕ → ℕ → ℕ → Type 0
IsBack nodes tuple index place = (j : ℕ) × (n : Node) × (place ≡ suc j) × (j ≤ index) × (slice_get nodes j ≡ Some n) × (n.tuple ≡ tuple)

-- each jump leads to a touch of the same tuple
abbrev pub AreJumps : List Node → Type 0
AreJumps nodes = (i : ℕ) (n : Node) → slice_get nodes i ≡ Some n → IsBack nodes n.tuple i n.jump

-- the node at a place, where there is one
abbrev pub node_at : List Node → ℕ → Option Node
node_at nodes zero = None
node_at nodes (suc i) = slice_get nodes i

-- the place where a jump from a jump's end leads, where the two are equally long
abbrev pub jump_on : Node → Node → Option ℕ
jump_on n first = if nat_eq n.rank first.rank then Some first.jump else None

abbrev pub second_jump : List Node → Node → Option ℕ
second_jump nodes n = option_and_then (jump_on n) (node_at nodes n.jump)

-- the links behind a touch: as far as it leads by two jumps that are equally long, else to that touch
abbrev pub links_on : ℕ → Node → Option ℕ → Links
links_on older n None = record { jump = older; rank = 1; depth = min (n.depth + 1) (2 ^ 16 - 1) }
links_on older n (Some place) =
    record { jump = place; rank = min (n.rank + 1) (2 ^ 8 - 1); depth = min (n.depth + 1) (2 ^ 16 - 1) }

-- the links of a touch whose tuple was touched before at the place `older`; the first touch of a tuple jumps to itself
abbrev pub links_behind : List Node → ℕ → Option Node → Links
links_behind nodes older None = record { jump = length nodes + 1; rank = 0; depth = 0 }
links_behind nodes older (Some n) = links_on older n (second_jump nodes n)
