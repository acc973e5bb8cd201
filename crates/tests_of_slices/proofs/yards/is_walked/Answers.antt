use Rattle.slice_yard.proofs.OpenedLemmas.{same_yard, yard_start}
use Rattle.tests_of_slices.proofs.yards.is_walked.Goals as goal

pub close-requires : goal.close-requires
close-requires c =
    same_yard c.are_given-given.ensures.owners c.are_given-given.ensures.thieves
    (yard_start c.args.slices.items c.args.lanes c.args.workers c.in-Ok.owners.items c.in-Ok.thieves.items c.in-Ok.ensures.opened c.in-Ok.ensures.allowed.0 c.in-Ok.ensures.allowed.1)
