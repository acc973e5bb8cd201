use Rattle.std.proofs.Common.{◌≡◌, refl, arith}
use Rattle.evidence_check.proofs.Shown.{one_more_none}
use Rattle.evidence_check.proofs.recorder.no_steps.Goals as goal

pub loop-init : goal.loop-init
loop-init c = rw c.new-steps.ensures.items refl

pub loop-preserved : goal.loop-preserved
loop-preserved c = one_more_none c.loop.steps.items c.push.new.self.items c.loop.counter c.loop.invariant c.in_ok-push.ensures.items

pub returns : goal.returns
returns c = let e : c.loop.counter ≡ c.args.count = omega (arith, c.loop-test.false, c.loop.auto.counter-end) in rw (← e) c.loop.invariant
