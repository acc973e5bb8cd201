use Rattle.std.proofs.Common.{◌∙◌}
use Rattle.audit_slices.proofs.ReportLemmas.{given_more}
use Rattle.audit.specs.MadeAudit.{IsFoundMade}
use Rattle.audit.proofs.made_audit.MakingCheckCheck.check_run.Goals as goal

pub loop-k-preserved : goal.loop-k-preserved
loop-k-preserved g c =
    record {
      maker = c.in_ok-found.ensures.maker ∙ c.loop-k.invariant.maker;
      found =
          given_more (IsFoundMade c.args.self.now.trace.now) c.args.from c.loop-k.k c.loop-k.reports.items
          c.push.new.self.items c.in_ok-found.found c.loop-k.invariant.found
          c.in_ok-found.ensures.found c.in_ok-push.ensures.items;
    }
