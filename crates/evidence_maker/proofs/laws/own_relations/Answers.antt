use Rattle.evidence_maker.proofs.Own.{own_relations_law}
use Rattle.evidence_maker.proofs.laws.own_relations.Goals as goal

pub returns : goal.returns
returns c = own_relations_law
