use Rattle.std.proofs.Common.{rules, arith, subst, ◌≡◌, ◌∙◌, ◌≤◌, ◌<◌, ◌-◌, ◌++◌, ◌∷◌, [], Some, ap, sym, length, take, List, ℕ}
use Rattle.std.specs.Prelude.{slice_get, vec_len}
use Rattle.std.proofs.lemmas.Option.{slice_get_within}
use Rattle.marks.specs.Links.{AreLinked, IsPlaceOf, IsSet, newest_of}
use Rattle.marks.specs.Placed.{most}
use Rattle.marks.proofs.LinkLemmas.{last_is_there, less_links, older_place, popped, set_there, split_last}
use Rattle.marks.proofs.PlacedLemmas.{length-more}
use Rattle.marks.proofs.TableLemmas.{from_ok}
use Rattle.marks.proofs.places.Places.pop.Goals as goal

pub unreachable-requires : goal.unreachable-requires
unreachable-requires c =
    let marks = c.self.inside.marks.items in
    let older = c.self.inside.older.items in
    let last = c.in-Some.field-0.now in
    let there : slice_get marks (length marks - 1) ≡ Some last = ap (λ (xs : List ℕ). slice_get xs (length xs - 1)) (sym c.deref.ensures.value) ∙ sym c.in-Some.ensures.value in
    let within = slice_get_within marks (length marks - 1) last there in
    let even = c.self.invariant.0.even in
    let long : vec_len c.self.inside.older ≡ length older = search rules in
    let some : 0 < vec_len c.self.inside.older = omega (arith, within, even, long) in
    let split = split_last marks last there in
    let split_older = popped older c.pop.new.self.items c.pop.result _ (c.pop.ensures.value 0 some) c.pop.ensures.items in
    let are = subst (λ (xs : List ℕ). AreLinked xs older c.self.inside.newest) split c.self.invariant.0 in
    let both = subst (λ (xs : List ℕ). AreLinked (take (length marks - 1) marks ++ last ∷ []) xs c.self.inside.newest) split_older are in
    let none : newest_of c.deref-in-Some.result.now c.self.inside.newest last ≡ 0 = search rules in
    last_is_there (take (length marks - 1) marks) c.pop.new.self.items last _ c.self.inside.newest both
    (ap (λ (xs : List ℕ). newest_of xs c.self.inside.newest last) (sym split ∙ sym c.deref-in-Some.ensures.value) ∙ none)

pub invariant_of-self : goal.invariant_of-self
invariant_of-self c =
    let marks = c.self.inside.marks.items in
    let older = c.self.inside.older.items in
    let last = c.in-Some.field-0.now in
    let place = c.unwrap_or-older.result in
    let there : slice_get marks (length marks - 1) ≡ Some last = ap (λ (xs : List ℕ). slice_get xs (length xs - 1)) (sym c.deref.ensures.value) ∙ sym c.in-Some.ensures.value in
    let within = slice_get_within marks (length marks - 1) last there in
    let even = c.self.invariant.0.even in
    let long : vec_len c.self.inside.older ≡ length older = search rules in
    let some : 0 < vec_len c.self.inside.older = omega (arith, within, even, long) in
    let rest : c.pop-in-Some.new.self.items ≡ take (length marks - 1) marks = search rules in
    let split : marks ≡ c.pop-in-Some.new.self.items ++ last ∷ [] = split_last marks last there ∙ ap (λ (xs : List ℕ). xs ++ last ∷ []) (sym rest) in
    let split_older : older ≡ c.pop.new.self.items ++ place ∷ [] = popped older c.pop.new.self.items c.pop.result _ (c.pop.ensures.value 0 some) c.pop.ensures.items ∙ ap (λ (p : ℕ). c.pop.new.self.items ++ p ∷ []) (sym c.unwrap_or-older.ensures) in
    let one = subst (λ (xs : List ℕ). AreLinked xs older c.self.inside.newest) split c.self.invariant.0 in
    let are = subst (λ (xs : List ℕ). AreLinked (c.pop-in-Some.new.self.items ++ last ∷ []) xs c.self.inside.newest) split_older one in
    let few = subst (λ (xs : List ℕ). length xs ≤ most) split c.self.invariant.1 in
    let more = length-more c.pop-in-Some.new.self.items last in
    let fewer : length c.pop-in-Some.new.self.items ≤ most = omega (arith, few, more) in
    let ok : (more : List ℕ) → IsPlaceOf (c.deref-in-Some.result.now ++ more) last place
    → IsSet c.deref-in-Some.result.now (c.deref-in-Some.result.now ++ more) c.self.inside.newest c.set.new.self last place = from_ok c.set.result (sym c.is_err.ensures.value ∙ c.if-is_err.false) c.set.ensures.ok in
    let sets = subst
    (λ (xs : List ℕ). (more : List ℕ) → IsPlaceOf (xs ++ more) last place → IsSet xs (xs ++ more) c.self.inside.newest c.set.new.self last place)
    (c.deref-in-Some.ensures.value ∙ split) ok in
    let set = set_there (c.pop-in-Some.new.self.items ++ last ∷ []) c.self.inside.newest c.set.new.self last place (older_place c.pop-in-Some.new.self.items c.pop.new.self.items last place c.self.inside.newest are) sets in
    (less_links c.pop-in-Some.new.self.items c.pop.new.self.items last place c.self.inside.newest are c.set.new.self set, fewer)
