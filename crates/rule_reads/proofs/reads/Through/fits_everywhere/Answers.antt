use Rattle.std.proofs.Common.{arith}
use Rattle.rule_reads.proofs.Reading.{everywhere_low}
use Rattle.rule_reads.proofs.reads.Through.fits_everywhere.Goals as goal

pub returns : goal.returns
returns c all stored =
    everywhere_low c.args.scope.rules.now c.args.scope.kinds.now c.args.self.now c.requires
    (λ n users less named. c.loop-number.invariant n users (let past = c.loop-number-test.false in omega (arith, less, past)) named)
