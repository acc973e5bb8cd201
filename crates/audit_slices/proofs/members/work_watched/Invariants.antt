use Rattle.std.proofs.Common.{◌≡◌}
use Rattle.audit_slices.specs.Members.{HasWorked}
use Rattle.audit_slices.proofs.members.work_watched.Given as goal

abbrev pub invariant-loop : goal.invariant-loop
invariant-loop g l = record {
  worked : HasWorked (g.C.Check.gives l.check) l.initial.member l.member;
  mark : g.W.Watch.mark l.watch ≡ g.W.Watch.mark l.initial.watch;
}
