use Rattle.std.proofs.Common.{◌≡◌, ◌-◌, ◌+◌}
use Rattle.marks.specs.Links.{first_from, longest, probe_in, stops}
use Rattle.marks.proofs.table.probe.Given as goal

abbrev pub invariant-loop-step : goal.invariant-loop-step
invariant-loop-step l = first_from (stops l.marks l.mark) l.slots (longest - l.step) (l.start + l.step) ≡ probe_in longest l.marks l.slots l.mark
