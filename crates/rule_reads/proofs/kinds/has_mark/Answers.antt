use Rattle.std.proofs.Common.{◌≡◌, ◌-◌, suc, arith}
use Rattle.std.proofs.lemmas.Bool.Decides.{nat_tests}
use Rattle.rule_reads.proofs.Chains.{none_marked, some_marked}
use Rattle.rule_reads.proofs.kinds.has_mark.Goals as goal

pub returns-clause-some : goal.returns-clause-some
returns-clause-some c h =
    let is = c.newest.ensures in
    let next : suc (c.newest.result - 1) ≡ c.newest.result = grind (arith, nat_tests) in
    some_marked c.args.marks.now c.args.mark (c.newest.result - 1) (omega (arith, next, is))

pub returns-clause-none : goal.returns-clause-none
returns-clause-none c h = none_marked c.args.marks.now c.args.mark c.newest.result c.newest.ensures (grind (arith, nat_tests))
