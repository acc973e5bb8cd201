use Rattle.tuple_text.specs.Order.{tuple_eq}
use Rattle.tuple_text.specs.Refs.{set_value, user_value}
use Rattle.tuple_text.specs.Tuples.{tuple_of}
use Rattle.marks.proofs.LeftLemmas.{AreLeft}
use Rattle.version_chains.proofs.arena.Arena.find_named.Given as goal

abbrev pub invariant-loop-number : goal.invariant-loop-number
invariant-loop-number l = AreLeft (λ t. tuple_eq t (tuple_of (set_value l.set.set) (user_value l.user.user))) l.self.tuples l.number-iterator
