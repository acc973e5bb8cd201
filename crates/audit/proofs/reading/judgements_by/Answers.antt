use Rattle.audit.proofs.Answering.{judged_whole}
use Rattle.audit.proofs.reading.judgements_by.Goals as goal

pub returns : goal.returns
returns g c =
    judged_whole g.R.Source.given g.R.Source.ends g.R.Source.failures g.R.Read.remaining _ _ _ _
    c.in_ok-judge_evidence_by.ensures
