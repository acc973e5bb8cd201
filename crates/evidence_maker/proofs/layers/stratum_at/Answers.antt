use Rattle.evidence_maker.proofs.StrataLemmas.{stratum_in_force}
use Rattle.evidence_maker.proofs.layers.stratum_at.Goals as goal

pub returns-in-Some : goal.returns-in-Some
returns-in-Some c =
    stratum_in_force c.args.snapshot.now.timeline.declarations (rw c.rules-rules.ensures at c.well_formed-2.ensures) c.args.snapshot.now.at c.args.set.namespace.now c.args.set.relation.now _ c.stratum.result
    (rw c.rules-rules.ensures at c.in-Some.ensures) (rw c.rules-rules.ensures at c.stratum.ensures)
