use Rattle.refusal_laws.proofs.Faults.{added_law, added_shape}
use Rattle.refusal_laws.proofs.laws.least_fault_of_addition.Goals as goal

pub returns-clause-least : goal.returns-clause-least
returns-clause-least c = added_law

pub returns-clause-shape : goal.returns-clause-shape
returns-clause-shape c = added_shape
