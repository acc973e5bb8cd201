use Rattle.std.proofs.Common.{◌≡◌, map, take}
use Rattle.judgement.specs.Facts.{user_of}
use Rattle.judgement.proofs.facts.users_of.Given as goal

abbrev pub invariant-loop-fact : goal.invariant-loop-fact
invariant-loop-fact g l = l.users ≡ map user_of (map g.F.KnownFact.fact (take l.fact-index l.facts))
