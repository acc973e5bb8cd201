use Rattle.std.proofs.Common.{◌≡◌, All}
use Rattle.std.specs.Prelude.{vec_len}
use Rattle.slice_yard.specs.Yard.{IsEmptyLane}
use Rattle.slice_yard.proofs.yard.empty_lanes.Given as goal

abbrev pub invariant-loop : goal.invariant-loop
invariant-loop l = (vec_len l.lanes ≡ l.counter) × All (IsEmptyLane l.room) l.lanes.items
