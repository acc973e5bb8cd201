use Rattle.refusal_laws.proofs.Faults.{changed_law, changed_shape}
use Rattle.refusal_laws.proofs.laws.least_fault_of_change.Goals as goal

pub returns-clause-least : goal.returns-clause-least
returns-clause-least c = changed_law

pub returns-clause-shape : goal.returns-clause-shape
returns-clause-shape c = changed_shape
