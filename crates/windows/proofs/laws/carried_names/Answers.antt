use Rattle.windows.proofs.CarriedLemmas.{names_carried}
use Rattle.windows.proofs.laws.carried_names.Goals as goal

pub returns : goal.returns
returns c = names_carried
