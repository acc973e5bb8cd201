use Rattle.std.proofs.Common.{◌≡◌}
use Rattle.userset_index.specs.Lives.{touches_alive}
use Rattle.userset_index.specs.Spans.{IsPlaceOf}
use Rattle.userset_index.proofs.spans.AliveIterator.next.Given as goal

-- what is left to give stays
abbrev pub invariant-loop-self : goal.invariant-loop-self
invariant-loop-self l = record {
  of : IsPlaceOf l.self-inside.mark l.self-inside.spans.now l.self-inside.place;
  left : touches_alive l.self-inside.mark l.self-inside.at l.self-inside.spans.now l.self-inside.place ≡ l.fn.self;
}

abbrev pub decreases-loop-self : goal.decreases-loop-self
decreases-loop-self l = l.self-inside.place
