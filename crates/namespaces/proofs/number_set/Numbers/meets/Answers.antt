use Rattle.std.proofs.Common.{◌≡◌, bit_and, rules}
use Rattle.namespaces.proofs.NumberSets.{none_met}
use Rattle.namespaces.proofs.number_set.Numbers.meets.Goals as goal

pub returns-else-self-other-ne0 : goal.returns-else-self-other-ne0
returns-else-self-other-ne0 c off n =
    let low : bit_and c.args.self.low c.args.other.low ≡ 0 = search rules in
    let high : bit_and c.args.self.high c.args.other.high ≡ 0 = search rules in
    none_met c.args.self c.args.other n low high
