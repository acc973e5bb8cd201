use Rattle.carry.proofs.Numbers.{stripped}
use Rattle.carry.proofs.fields.word_at.Goals as goal

pub returns : goal.returns
returns c = stripped c.args.word.now c.args.text.now c.strip_prefix.result c.strip_prefix.ensures.cases
