use Rattle.std.proofs.Common.{arith}
use Rattle.std.proofs.lemmas.Grind.{common_steps}
use Rattle.record_text.proofs.Pieces.{fact_stands}
use Rattle.record_text.proofs.record.push_plain.Goals as goal

pub returns : goal.returns
returns c = rw (fact_stands c.args.fact.now c.fact_is_in_form.ensures c.requires) (grind (arith, common_steps))
