use Rattle.evidence_check.proofs.BehindLemmas.{behind_by_lines, judged_behind, refused_behind}
use Rattle.evidence_check.proofs.behind.judge_evidence_behind.Goals as goal

pub returns-in-Ok-2-clause-exact : goal.returns-in-Ok-2-clause-exact
returns-in-Ok-2-clause-exact g c =
    judged_behind _ _ _ _ c.args.trace.now c.in-Ok.judging c.read.new.value c.in-Ok.ensures _ c.in_ok-read.ensures.exact _ c.into_judgements.result c.in-Ok-2.is c.into_judgements.ensures

pub returns-in-Err-clause-exact : goal.returns-in-Err-clause-exact
returns-in-Err-clause-exact g c =
    rw c.cause.ensures (refused_behind _ _ _ _ c.args.trace.now c.in-Ok.judging c.read.new.value c.in-Ok.ensures _ c.in_ok-read.ensures.exact c.in-Err.refused c.in-Err.is)

pub returns-in-Err-clause-refused : goal.returns-in-Err-clause-refused
returns-in-Err-clause-refused g c = rw c.cause.ensures (behind_by_lines _ c.in-Err.refused c.in-Err.is c.in_ok-read.ensures.refused)
