use Rattle.std.proofs.Common.{arith}
use Rattle.std.proofs.lemmas.Grind.{common_steps}
use Rattle.carry.specs.Texts.{seal}
use Rattle.carry.proofs.carried.push_seal.Goals as goal

pub returns-clause-text : goal.returns-clause-text
unfolding seal
returns-clause-text c = grind (arith, common_steps)
