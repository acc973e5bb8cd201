use Rattle.audit_slices.proofs.FinishLemmas.{whole_start}
use Rattle.slice_yard.proofs.OpenedLemmas.{nothing_lanes, nothing_thieves}
use Rattle.audit_slices.proofs.run.hire.Goals as goal

pub staff-requires-clause-lanes : goal.staff-requires-clause-lanes
staff-requires-clause-lanes g c = nothing_lanes c.args.slices.items c.args.workers c.args.workers c.in-Ok.lanes.items c.in-Ok.thieves.items c.in-Ok.ensures.opened

pub staff-requires-clause-thieves : goal.staff-requires-clause-thieves
staff-requires-clause-thieves g c = nothing_thieves c.args.slices.items c.args.workers c.args.workers c.in-Ok.lanes.items c.in-Ok.thieves.items c.in-Ok.ensures.opened

pub returns-in-Ok-clause-whole : goal.returns-in-Ok-clause-whole
returns-in-Ok-clause-whole g c =
    whole_start c.args.slices.items c.args.workers c.args.workers c.in-Ok.lanes.items c.in-Ok.thieves.items c.in-Ok.ensures.opened c.in_ok-staff-in-Ok.field-0.items c.in-Ok.ensures.allowed.0 c.in-Ok.ensures.allowed.1
    c.in_ok-staff-in-Ok.ensures.lanes c.in_ok-staff-in-Ok.ensures.thieves
