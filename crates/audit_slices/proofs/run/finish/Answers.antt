use Rattle.audit_slices.proofs.FinishLemmas.{yard_of, finished}
use Rattle.audit_slices.proofs.run.finish.Goals as goal

pub close-requires : goal.close-requires
close-requires g c = yard_of c.args.members.items c.in_ok-lanes.lanes.items c.in_ok-lanes.thieves.items c.in_ok-lanes.ensures.lanes c.in_ok-lanes.ensures.thieves c.requires.1.yard

pub returns : goal.returns
returns g c = λ xs whole.
    finished c.args.members.items c.in_ok-lanes.lanes.items c.in_ok-lanes.thieves.items c.in_ok-lanes.ensures.lanes c.in_ok-lanes.ensures.thieves xs _ c.in_ok-lanes.done.items whole
    c.close.ensures.hands c.close.ensures.joined c.close.ensures.sums c.in_ok-lanes.ensures.kept c.in_ok-lanes.ensures.done
