use Rattle.std.proofs.Common.{◌≡◌}
use Rattle.audit_slices.proofs.board.BoardDesk.show_rest.Given as goal

abbrev pub invariant-loop-place : goal.invariant-loop-place
invariant-loop-place g l = g.W.Watch.mark l.watch ≡ g.W.Watch.mark l.fn.watch
