use Rattle.std.proofs.Common.{subst}
use Rattle.audit.specs.Devices.{reads, writes}
use Rattle.carry_laws.specs.Asked.{all_known}
use Rattle.runs.specs.Kept.{KeptValue, log_behind}
use Rattle.follow.specs.Handing.{RunEnds, RunWentOut}
use Rattle.follow.specs.Running.{Run}
use Rattle.follow.proofs.carried.follow_first.Goals as goal

pub returns-clause-run : goal.returns-clause-run
returns-clause-run g c =
    subst (λ (k : KeptValue). Run (log_behind k) (RunEnds k all_known) (RunWentOut k all_known)
    (reads g.A.Source.given g.A.Source.ends g.A.Source.failures g.A.Read.remaining c.args.trace.now c.follow_run.new.trace)
    (writes g.W.Sink.taken g.W.Sink.flushes g.W.Sink.failures g.W.Sink.idle g.W.Write.contents c.args.out.now c.follow_run.new.out)
    c.follow_run.result) c.new-log.ensures c.follow_run.ensures.run
