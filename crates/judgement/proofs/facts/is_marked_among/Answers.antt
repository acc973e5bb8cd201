use Rattle.std.proofs.Common.{arith}
use Rattle.std.proofs.lemmas.Grind.{common_steps}
use Rattle.judgement.proofs.facts.is_marked_among.Goals as goal

pub returns-then-is_of_marked : goal.returns-then-is_of_marked
returns-then-is_of_marked g c = grind (arith, common_steps)

pub loop-fact-preserved : goal.loop-fact-preserved
loop-fact-preserved g c = grind (arith, common_steps)

pub returns : goal.returns
returns g c = grind (arith, common_steps)
