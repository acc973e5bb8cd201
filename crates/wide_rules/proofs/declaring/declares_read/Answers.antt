use Rattle.std.proofs.Common.{arith}
use Rattle.rewrites.specs.Parts.{computed_names}
use Rattle.wide_rules.proofs.DeclaringLemmas.{none_by_declared}
use Rattle.wide_rules.proofs.declaring.declares_read.Goals as goal

pub returns : goal.returns
returns c _ =
    none_by_declared c.args.rules.now c.args.at (computed_names c.args.through.now) c.args.namespace.now c.count_in_force-k-end.ensures.whole
    (λ k relation within at. c.loop-k.invariant k relation (omega (arith, within, c.loop-k-test.false, c.count_in_force-k-end.ensures.count)) at)
