use Rattle.std.proofs.Common.{sym, length}
use Rattle.tuple_text.specs.Order.{tuple_eq}
use Rattle.tuple_text.specs.Refs.{set_value, user_value}
use Rattle.tuple_text.specs.Tuples.{tuple_of}
use Rattle.marks.proofs.PlacedLemmas.{last_place-none}
use Rattle.version_chains.proofs.arena.Arena.newest_touch.Goals as goal

pub returns-in-Some : goal.returns-in-Some
returns-in-Some c = c.newest.ensures (tuple_of (set_value c.args.set.set) (user_value c.args.user.user)) c.in-Some.ensures.found

pub returns-in-None : goal.returns-in-None
returns-in-None c =
    sym (last_place-none (λ x. tuple_eq x.tuple (tuple_of (set_value c.args.set.set) (user_value c.args.user.user))) c.args.self.now.touches (c.find.ensures.untouched c.in-None.is) (length c.args.self.now.touches))
