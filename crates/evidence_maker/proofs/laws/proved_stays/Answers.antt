use Rattle.evidence_check.proofs.Growing.{proved_grows}
use Rattle.evidence_maker.proofs.laws.proved_stays.Goals as goal

pub returns : goal.returns
returns c rules store old new grows = proved_grows rules store old new grows
