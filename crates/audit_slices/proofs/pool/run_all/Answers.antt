use Rattle.std.proofs.Common.{subst, sym}
use Rattle.audit_slices.specs.Members.{MayWork}
use Rattle.audit_slices.proofs.MemberLemmas.{each_worked, worked_as}
use Rattle.audit_slices.proofs.pool.run_all.Goals as goal

pub for_each_mut-requires-clause-accepts : goal.for_each_mut-requires-clause-accepts
for_each_mut-requires-clause-accepts g c κs within = λ i p lt is. (
  c.requires.names,
  subst (MayWork (g.C.Check.entries c.args.check.now) (g.C.Check.gives c.args.check.now)) (sym is) (c.requires.may i p.now lt),
)

pub returns : goal.returns
returns g c =
    let P = g.C.Check.gives c.args.check.now in
    record {
      worked = each_worked P c.args.members.now c.for_each_mut.new.s c.for_each_mut.auto.s (λ i d lt.
          let call = (c.for_each_mut.ensures i d lt).1 in
          worked_as P call.argument_is call.left call.call);
    }
