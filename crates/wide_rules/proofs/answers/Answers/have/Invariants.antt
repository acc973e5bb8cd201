use Rattle.std.proofs.Common.{◌≡◌, ℕ, ◌<◌, Some}
use Rattle.std.specs.Prelude.{Contains, slice_get}
use Rattle.wide_rules.specs.declared.answers.Asked.{Asked}
use Rattle.wide_rules.proofs.answers.Answers.have.Given as goal

-- those so far were asked for, with these answers
abbrev pub invariant-loop-one : goal.invariant-loop-one
invariant-loop-one l = (k : ℕ) (a : Asked) → k < l.one-index → slice_get l.asked k ≡ Some a → Contains l.self a
