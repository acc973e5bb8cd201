use Rattle.audit_slices.proofs.ReportLemmas.{given_more}
use Rattle.audit_slices.proofs.checks.Check.check_run.Goals as goal

pub loop-k-preserved : goal.loop-k-preserved
loop-k-preserved g c = given_more (g.Self.Check.gives c.args.self.now) c.args.from c.loop-k.k c.loop-k.reports.items c.push.new.self.items c.in_ok-check.field-0 c.loop-k.invariant c.in_ok-check.ensures c.in_ok-push.ensures.items
