use Rattle.std.proofs.Common.{◌≡◌, ◌≤◌, ◌+◌, ◌++◌, List, take, map}
use Rattle.tuple_text.specs.Tuples.{TupleValue}
use Rattle.version_chains.specs.Arena.{AreNumbersOf}
use Rattle.version_chains.proofs.chains.push_all.Given as goal

abbrev pub invariant-loop-number : goal.invariant-loop-number
invariant-loop-number l = record {
  tuples : l.arena.tuples ≡ l.initial.arena.tuples;
  pushes : (ts : List TupleValue) → AreNumbersOf l.initial.arena.tuples l.numbers ts → l.arena.touches ≡ l.initial.arena.touches ++ map (λ t. record { at = l.at; live = l.live; tuple = t }) (take l.number-index ts);
  room : l.initial.arena.room ≤ l.arena.room + l.number-index;
}
