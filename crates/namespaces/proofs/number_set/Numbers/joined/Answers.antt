use Rattle.namespaces.proofs.NumberSets.{joined_has, joined_only}
use Rattle.namespaces.proofs.number_set.Numbers.joined.Goals as goal

pub returns : goal.returns
returns c n = (joined_only c.args.self c.args.other n, joined_has c.args.self c.args.other n)
