use Rattle.std.proofs.Common.{◌≡◌}
use Rattle.wide_rules.specs.AskedFact.{AreRight}
use Rattle.wide_rules.proofs.asked_rule.ask_again.Given as goal

-- where all answers were right, they are so still, and the parts are those of before
abbrev pub invariant-loop : goal.invariant-loop
invariant-loop g l = record {
  same : l.parts ≡ l.fn.parts;
  right : AreRight l.fact l.fn.parts.questions l.fn.answers → AreRight l.fact l.fn.parts.questions l.answers;
}
