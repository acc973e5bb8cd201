use Rattle.audit.specs.JoinedParts.{PartsRead}
use Rattle.audit.proofs.JoinedLemmas.{parts_whole, parts_without_evidence, parts_without_front}
use Rattle.audit.proofs.KindLemmas.{handed_on}
use Rattle.audit.proofs.joined.parts_from.Goals as goal

pub returns-in_err-trace : goal.returns-in_err-trace
returns-in_err-trace g c =
    handed_on (PartsRead _) _ c.from_residual.ensures.1 (parts_without_front _ _ c.in_err-trace.ensures)

pub returns-in_err-judgements : goal.returns-in_err-judgements
returns-in_err-judgements g c =
    handed_on (PartsRead _) _ c.from_residual-in_err-judgements.ensures.1
    (parts_without_evidence _ _ _ _ _ c.in_ok-trace.ensures _ c.in_err-judgements.ensures)

pub returns : goal.returns
returns g c =
    parts_whole _ _ _ _ _ c.in_ok-trace.ensures c.in_ok-judgements.judgements c.in_ok-judgements.ensures
