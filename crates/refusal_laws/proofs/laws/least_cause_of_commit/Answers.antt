use Rattle.refusal_laws.proofs.CommitCauses.{least_cause_of_commit}
use Rattle.refusal_laws.proofs.laws.least_cause_of_commit.Goals as goal

pub returns : goal.returns
returns c = λ n t d. least_cause_of_commit n t d
