use Rattle.std.proofs.Common.{arith, codes}
use Rattle.audit.specs.Devices.{writer}
use Rattle.new_enemy.proofs.FileRuns.{runs_done}
use Rattle.new_enemy.proofs.run.history_in_path.Goals as goal

pub returns-in-Err-clause-runs : goal.returns-in-Err-clause-runs
returns-in-Err-clause-runs g c =
    runs_done (codes "history") c.nothing-in-Err.result 2
    (writer g.W.Sink.taken g.W.Sink.flushes g.W.Sink.failures g.W.Sink.idle g.W.Write.contents c.args.out.now)
    c.nothing-in-Err.ensures (omega arith) (omega arith)

pub returns-in_default-clause-runs : goal.returns-in_default-clause-runs
returns-in_default-clause-runs g c =
    runs_done (codes "history") c.nothing-in_default.result 5
    (writer g.W.Sink.taken g.W.Sink.flushes g.W.Sink.failures g.W.Sink.idle g.W.Write.contents c.args.out.now)
    c.nothing-in_default.ensures (omega arith) (omega arith)
