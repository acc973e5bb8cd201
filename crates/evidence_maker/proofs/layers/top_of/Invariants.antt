use Rattle.std.proofs.Common.{◌≡◌, ℕ, ◌≤◌, ◌<◌, Some, slice_get}
use Rattle.evidence_maker.proofs.layers.top_of.Given as goal

abbrev pub invariant-loop-place : goal.invariant-loop-place
invariant-loop-place l = (k s : ℕ) → k < l.place → slice_get l.strata k ≡ Some (Some s) → s ≤ l.top
