use Rattle.strata.proofs.LeastRelation.{member_test_law}
use Rattle.strata.proofs.laws.told_by_a_test.Goals as goal

pub returns : goal.returns
returns c = member_test_law
