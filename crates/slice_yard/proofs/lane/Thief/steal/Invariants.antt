use Rattle.std.proofs.Common.{◌≡◌}
use Rattle.crossbeam_deque.specs.Handles.{view, stealer_deque}
use Rattle.slice_yard.proofs.lane.Thief.steal.Given as goal

abbrev pub invariant-loop : goal.invariant-loop
invariant-loop l = (view l.self.pass ≡ view l.initial.self.pass) × (stealer_deque l.self.deque ≡ stealer_deque l.initial.self.deque) × (l.self.lane ≡ l.initial.self.lane)
