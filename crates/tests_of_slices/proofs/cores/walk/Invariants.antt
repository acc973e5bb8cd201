use Rattle.std.proofs.Common.{◌≡◌, length}
use Rattle.slice_core.specs.Machine.{state_of}
use Rattle.tests_of_slices.proofs.cores.walk.Given as goal

abbrev pub invariant-loop-event : goal.invariant-loop-event
invariant-loop-event l = record {
  hands : length (state_of l.core).hands ≡ 2;
  lanes : length (state_of l.core).lanes ≡ length (state_of l.fn.core).lanes;
}
