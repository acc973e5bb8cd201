use Rattle.audit_slices.specs.Members.{HasWorked}
use Rattle.audit_slices.proofs.members.work.Given as goal

abbrev pub invariant-loop : goal.invariant-loop
invariant-loop g l = HasWorked (g.C.Check.gives l.check) l.initial.member l.member
