use Rattle.std.proofs.Common.{◌≡◌, ◌<◌, ◌≤◌, ℕ, Some}
use Rattle.std.specs.Prelude.{slice_get}
use Rattle.namespaces.specs.Numbers.{Has}
use Rattle.userset_index.proofs.moments.lasting.Given as goal

-- of the slots so far those are there that last
abbrev pub invariant-loop-slot : goal.invariant-loop-slot
invariant-loop-slot l = (k v : ℕ) → k < l.slot → slice_get l.untils k ≡ Some v → l.at ≤ v → Has l.numbers k
