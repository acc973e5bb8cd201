use Rattle.runs.proofs.AlikeLemmas.{come_alike}
use Rattle.runs.proofs.laws.come_alike.Goals as goal

pub returns : goal.returns
returns c lines t u x y a same fits one two = come_alike lines t u x y a same fits one two
