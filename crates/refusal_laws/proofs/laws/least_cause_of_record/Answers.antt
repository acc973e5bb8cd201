use Rattle.refusal_laws.proofs.RecordCauses.{least_cause_of_record}
use Rattle.refusal_laws.proofs.laws.least_cause_of_record.Goals as goal

pub returns : goal.returns
returns c = λ r d. least_cause_of_record r d
