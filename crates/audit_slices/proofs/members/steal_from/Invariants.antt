use Rattle.std.proofs.Common.{◌≡◌, ℕ, map}
use Rattle.slice_yard.specs.declared.slices.Slice.{Slice}
use Rattle.slice_yard.specs.Lane.{thief_place}
use Rattle.slice_yard.specs.Shared.{thieves_sum}
use Rattle.audit_slices.proofs.members.steal_from.Given as goal

abbrev pub invariant-loop-thief : goal.invariant-loop-thief
invariant-loop-thief l = record {
  places : map thief_place l.thieves ≡ map thief_place l.initial.thieves;
  sums : (h : Slice → ℕ) → thieves_sum h l.thieves ≡ thieves_sum h l.initial.thieves;
}
