use Rattle.std.proofs.Common.{◌∙◌, Err, ap}
use Rattle.json_lines.specs.declared.lines.InputFault.{InputFault}
use Rattle.audit.proofs.JoinedLemmas.{behind_stopped}
use Rattle.audit.proofs.joined.judgements_behind.Goals as goal

pub returns-in-Err : goal.returns-in-Err
returns-in-Err g c =
    let read = c.judge_evidence_behind.ensures.read.asked in
    behind_stopped c.args.trace.now c.args.rest _ read.most read.known c.in-Err.stop c.from-in-Err.result c.from-in-Err.ensures
    (λ is. read.long (c.in-Err.is ∙ ap (λ (x : InputFault). Err x) is))
    (λ is. read.failed (c.in-Err.is ∙ ap (λ (x : InputFault). Err x) is))
    (λ other. read.kept (λ is. other (cc (c.in-Err.is, is))))
