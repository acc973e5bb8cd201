use Rattle.std.proofs.Common.{◌∙◌}
use Rattle.strata.proofs.Walks.{stratum_by_names}
use Rattle.strata.proofs.walk.stratum_numbered.Goals as goal

pub returns : goal.returns
returns c =
    c.stratum.ensures
    ∙ stratum_by_names c.args.rules.now c.args.number c.in_ok-namespace.namespace.now c.in_ok-relation.relation.now c.in_ok-relation.ensures.well_formed
    c.in_ok-namespace.ensures.value c.in_ok-relation.ensures.value
