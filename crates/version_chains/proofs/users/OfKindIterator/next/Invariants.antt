use Rattle.std.proofs.Common.{◌≡◌}
use Rattle.std.specs.Prelude.{IfSome}
use Rattle.tuple_text.specs.Refs.{set_value}
use Rattle.version_chains.specs.Arena.{IsOfSet}
use Rattle.version_chains.specs.Given.{users_before, has_mark_of}
use Rattle.marks.specs.Placed.{IsLinkedPlace}
use Rattle.version_chains.proofs.users.OfKindIterator.next.Given as goal

-- what is left to give stays
abbrev pub invariant-loop-self : goal.invariant-loop-self
invariant-loop-self l = record {
  on : IsLinkedPlace (has_mark_of (set_value l.self-inside.set) l.self-inside.usersets) l.self-inside.arena.now.tuples l.self-inside.place;
  like : IfSome l.self-inside.like (IsOfSet l.self-inside.arena.now.tuples (set_value l.self-inside.set));
  left : users_before (set_value l.self-inside.set) l.self-inside.usersets l.self-inside.at l.self-inside.arena.now l.self-inside.place ≡ l.fn.self;
}

abbrev pub decreases-loop-self : goal.decreases-loop-self
decreases-loop-self l = l.self-inside.place
