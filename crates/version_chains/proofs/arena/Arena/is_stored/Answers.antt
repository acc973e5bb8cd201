use Rattle.tuple_text.specs.Refs.{set_value, user_value}
use Rattle.tuple_text.specs.Tuples.{tuple_of}
use Rattle.version_chains.proofs.NewestLemmas.{untouched_live}
use Rattle.version_chains.proofs.arena.Arena.is_stored.Goals as goal

pub returns-in-None : goal.returns-in-None
returns-in-None c = untouched_live (tuple_of (set_value c.args.set.set) (user_value c.args.user.user)) c.args.at c.args.self.now.touches (c.find.ensures.untouched c.in-None.is)
