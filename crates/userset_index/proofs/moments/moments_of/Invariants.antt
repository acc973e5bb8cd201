use Rattle.std.proofs.Common.{◌≡◌, ◌<◌, ℕ, Some, length}
use Rattle.std.specs.Prelude.{slice_get}
use Rattle.userset_index.specs.Moments.{IsHeld}
use Rattle.userset_index.specs.declared.moments.Stay.{Stay}
use Rattle.userset_index.proofs.moments.moments_of.Given as goal

-- the stays so far are held
abbrev pub invariant-loop-stay : goal.invariant-loop-stay
invariant-loop-stay l = record {
  room : length l.sweep.untils.items ≡ 256;
  held : (k : ℕ) (s : Stay) → k < l.stay-index → slice_get l.stays k ≡ Some s → IsHeld l.sweep s;
}
