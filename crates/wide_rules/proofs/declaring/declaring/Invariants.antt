use Rattle.std.proofs.Common.{ℕ, suc, ◌<◌}
use Rattle.std.specs.Prelude.{Contains}
use Rattle.namespaces.specs.Numbers.{Has}
use Rattle.wide_rules.proofs.declaring.declaring.Given as goal

-- of the numbers so far all are there that are among them
abbrev pub invariant-loop-before : goal.invariant-loop-before
invariant-loop-before l = (n : ℕ) → n < l.before → Has l.all (suc n) → Contains l.numbers.items (suc n)
