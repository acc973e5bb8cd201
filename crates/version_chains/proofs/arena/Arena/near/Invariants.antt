use Rattle.std.proofs.Common.{◌≡◌, ◌-◌, Some}
use Rattle.std.specs.Prelude.{slice_get}
use Rattle.tuple_text.specs.Tuples.{TupleValue}
use Rattle.version_chains.specs.Given.{newest_of}
use Rattle.version_chains.proofs.arena.Arena.near.Given as goal

abbrev pub invariant-loop-back : goal.invariant-loop-back
invariant-loop-back l =
    (t : TupleValue) → slice_get l.self.tuples l.number ≡ Some t → newest_of t l.self.touches (l.count - l.back) ≡ newest_of t l.self.touches l.count
