use Rattle.refusal_laws.proofs.EntryCauses.{least_cause_of_entry}
use Rattle.refusal_laws.proofs.laws.least_cause_of_entry.Goals as goal

pub returns : goal.returns
returns c = λ kind n t d. least_cause_of_entry kind n t d
