use Rattle.std.proofs.Common.{◌≡◌, [], map}
use Rattle.slice_core.specs.Named.{named_from}
use Rattle.slice_core.specs.Places.{numbers_of}
use Rattle.slice_core.proofs.machine.opening_lanes.Given as goal

abbrev pub invariant-loop : goal.invariant-loop
invariant-loop l = map (λ d. d.items) l.lanes.items ≡ named_from (λ _. []) 0 l.counter

abbrev pub invariant-loop-k : goal.invariant-loop-k
invariant-loop-k l = map (λ d. d.items) l.lanes.items ≡ named_from (numbers_of l.k l.count) 0 l.count
