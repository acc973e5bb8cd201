use Rattle.std.proofs.Common.{◌≡◌, Some}
use Rattle.std.specs.Prelude.{slice_get}
use Rattle.tuple_text.specs.Tuples.{TupleValue}
use Rattle.version_chains.specs.Given.{IsWalkUntil}
use Rattle.version_chains.proofs.arena.Arena.is_live.Given as goal

abbrev pub invariant-loop-place : goal.invariant-loop-place
invariant-loop-place l = (t : TupleValue) → slice_get l.self.tuples l.number ≡ Some t → IsWalkUntil t l.at l.self.touches l.place

abbrev pub decreases-loop-place : goal.decreases-loop-place
decreases-loop-place l = l.place
