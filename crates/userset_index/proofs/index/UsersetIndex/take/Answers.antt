use Rattle.std.proofs.Common.{◌≡◌, ◌-◌, ◌^◌, ℕ, Some, length, sym, subst, rules}
use Rattle.std.specs.Prelude.{IfSome, slice_get}
use Rattle.std.proofs.lemmas.Result.{on_ok_weaker}
use Rattle.tuple_text.specs.Order.{tuple_eq}
use Rattle.version_chains.specs.Commits.{changelog}
use Rattle.version_chains.specs.Touches.{touch_value}
use Rattle.marks.specs.Placed.{last_place}
use Rattle.userset_index.specs.Building.{IsWithin}
use Rattle.userset_index.specs.Growth.{IsGrownTo, IsLifeBy, taken_of}
use Rattle.userset_index.specs.Index.{IndexValue, IsMark}
use Rattle.userset_index.specs.declared.life.Way.TheVariants.{Object, Own}
use Rattle.userset_index.proofs.GrowthLemmas.{grown_next}
use Rattle.userset_index.proofs.index.UsersetIndex.take.Goals as goal

pub returns-clause-grown : goal.returns-clause-grown
returns-clause-grown c =
    let ds = c.args.rules.now in
    let touches = changelog c.args.chains.now.commits in
    let y = touch_value c.args.touch in
    let grown = subst (λ (v : IndexValue). IsGrownTo ds (taken_of touches v) v) (sym c.self.view_is) c.requires.grown in
    let next = subst (λ (v : IndexValue). slice_get touches (length v.own_places) ≡ Some y) (sym c.self.view_is) c.requires.next in
    let older = subst (λ (v : IndexValue). c.args.touch.older ≡ last_place (λ x. tuple_eq x.tuple y.tuple) touches (length v.own_places))
    (sym c.self.view_is) c.requires.older in
    let index : c.len-index.result ≡ length c.self.inside.growth.own.items = search rules in
    let until : c.saturating_sub-until.result ≡ y.at - 1 = search rules in
    let own = subst (λ (n : ℕ). IsLifeBy (IsMark ds Own) n y c.life_from-own.result) index c.life_from-own.ensures.finds in
    let object = subst (λ (n : ℕ). IsLifeBy (IsMark ds Object) n y c.life_from-object.result) index c.life_from-object.ensures.finds in
    let through = c.life_through-through.ensures.finds (length c.self.inside.growth.own.items) y next object in
    let in_own = subst (λ (n : ℕ). IfSome c.life_from-own.result (IsWithin n y (2 ^ 64 - 1))) index c.life_from-own.ensures.within in
    let in_object = subst (λ (n : ℕ). IfSome c.life_from-object.result (IsWithin n y (2 ^ 64 - 1))) index c.life_from-object.ensures.within in
    let in_through = c.life_through-through.ensures.within (length c.self.inside.growth.own.items) y in_object in
    on_ok_weaker c.take_life-3.result (λ last.
    grown_next ds touches _ _ y c.args.touch.older c.saturating_sub-until.result next older c.touches_rise.ensures until
    c.life_from-own.result c.life_through-through.result c.life_from-object.result grown
    c.in_ok-take_life.ensures c.in_ok-take_life-2.ensures last own through object in_own in_through in_object)
    c.take_life-3.ensures
