use Rattle.std.proofs.Common.{◌∙◌, ap}
use Rattle.std.specs.List.{list_any}
use Rattle.tuple_text.specs.Order.{user_eq}
use Rattle.tuple_text.specs.Refs.{set_value}
use Rattle.version_chains.proofs.UserLemmas.{users_distinct, users_stored, users_start}
use Rattle.version_chains.proofs.users.OfKind.over.Goals as goal

pub returns-clause-distinct : goal.returns-clause-distinct
returns-clause-distinct c = users_distinct (set_value c.args.set.set) c.args.usersets c.args.at c.args.arena.now c.newest_of_set-place.ensures.apart c.newest_of_set-place.result

pub returns-clause-stored : goal.returns-clause-stored
returns-clause-stored c u =
    ap (list_any (user_eq u)) (users_start (set_value c.args.set.set) c.args.usersets c.args.at c.args.arena.now c.newest_of_set-place.result c.newest_of_set-place.ensures.newest)
    ∙ users_stored (set_value c.args.set.set) c.args.usersets c.args.at c.args.arena.now c.newest_of_set-place.ensures.known u
