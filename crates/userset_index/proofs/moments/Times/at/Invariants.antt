use Rattle.std.proofs.Common.{ℕ}
use Rattle.std.specs.Prelude.{All}
use Rattle.std.proofs.Common.{length}
use Rattle.userset_index.specs.Lives.{touches_alive}
use Rattle.namespaces.specs.Numbers.{Has}
use Rattle.namespaces.specs.declared.number_set.Numbers.{Numbers}
use Rattle.userset_index.specs.Moments.{IsGiven}
use Rattle.userset_index.proofs.moments.Times.at.Given as goal

-- what is left decides
abbrev pub invariant-loop-moment : goal.invariant-loop-moment
invariant-loop-moment l =
    (r : Numbers) → ((n : ℕ) → Has l.all n → Has r n) → All (IsGiven l.self.numbers.items r) l.moment-iterator
    → All (IsGiven l.self.numbers.items r) (touches_alive l.mark l.at l.self.moments (length l.self.moments))
