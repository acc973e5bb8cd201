use Rattle.std.proofs.Common.{◌≡◌, ◌∙◌, ap, length}
use Rattle.tuple_text.specs.Order.{tuple_eq}
use Rattle.tuple_text.specs.Refs.{set_value, user_value}
use Rattle.tuple_text.specs.Tuples.{TupleValue}
use Rattle.marks.specs.Placed.{last_place}
use Rattle.version_chains.proofs.NewestLemmas.{history_start}
use Rattle.marks.proofs.WalkLemmas.{linked_newest}
use Rattle.version_chains.proofs.history.History.over.Goals as goal

pub invariant_of-result : goal.invariant_of-result
invariant_of-result c =
    let place : c.newest_touch-place.result ≡ last_place (λ x. tuple_eq x.tuple c.args.tuple.now) c.args.arena.now.touches (length c.args.arena.now.touches) =
    c.newest_touch-place.ensures ∙ ap (λ (t : TupleValue). last_place (λ x. tuple_eq x.tuple t) c.args.arena.now.touches (length c.args.arena.now.touches)) (λ j. record { set = (ap set_value c.of.ensures ∙ c.set.ensures.parts) j; user = (ap user_value c.of-2.ensures ∙ c.user.ensures.parts) j }) in
    linked_newest (λ x. tuple_eq x.tuple c.args.tuple.now) c.args.arena.now.touches c.newest_touch-place.result place

pub returns : goal.returns
returns c =
    let place : c.newest_touch-place.result ≡ last_place (λ x. tuple_eq x.tuple c.args.tuple.now) c.args.arena.now.touches (length c.args.arena.now.touches) =
    c.newest_touch-place.ensures ∙ ap (λ (t : TupleValue). last_place (λ x. tuple_eq x.tuple t) c.args.arena.now.touches (length c.args.arena.now.touches)) (λ j. record { set = (ap set_value c.of.ensures ∙ c.set.ensures.parts) j; user = (ap user_value c.of-2.ensures ∙ c.user.ensures.parts) j }) in
    history_start c.args.tuple.now c.args.arena.now.touches c.newest_touch-place.result place
