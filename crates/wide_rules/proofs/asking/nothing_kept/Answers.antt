use Rattle.std.proofs.Common.{◌≡◌, length, arith}
use Rattle.wide_rules.proofs.PartLemmas.{none_kept}
use Rattle.wide_rules.proofs.asking.nothing_kept.Goals as goal

pub returns : goal.returns
returns c timeline =
    let room : length c.loop-kept.kept.items ≡ length c.args.parts.now = omega (arith, c.loop-kept.invariant.within, c.loop-kept-test.false, c.len.ensures, c.loop-kept.kept.ok) in
    none_kept timeline c.args.parts.now c.loop-kept.kept.items room c.loop-kept.invariant.none
