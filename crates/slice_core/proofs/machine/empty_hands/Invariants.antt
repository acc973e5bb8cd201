use Rattle.std.proofs.Common.{◌≡◌}
use Rattle.std.specs.Prelude.{None}
use Rattle.slice_core.specs.Named.{named_from}
use Rattle.slice_core.proofs.machine.empty_hands.Given as goal

abbrev pub invariant-loop : goal.invariant-loop
invariant-loop l = l.hands.items ≡ named_from (λ _. None) 0 l.counter
