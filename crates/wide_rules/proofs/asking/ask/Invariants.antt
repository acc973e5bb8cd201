use Rattle.std.proofs.Common.{◌≡◌}
use Rattle.wide_rules.specs.Asked.{AsksMore}
use Rattle.wide_rules.specs.AskedFact.{AreRight}
use Rattle.wide_rules.proofs.asking.ask.Given as goal

-- more was asked, and where all answers were right, they are so still; the parts are those of before
abbrev pub invariant-loop-k : goal.invariant-loop-k
invariant-loop-k g l = record {
  same : l.parts ≡ l.fn.parts;
  more : AsksMore l.fn.answers l.answers;
  right : AreRight l.fact l.fn.parts.questions l.fn.answers → AreRight l.fact l.fn.parts.questions l.answers;
}
