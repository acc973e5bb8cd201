use Rattle.std.proofs.Common.{rules, arith, ◌≡◌, ◌≤◌, ◌<◌, ◌++◌, ◌∷◌, ◌+◌, ◌∙◌, ℕ, [], ap, length, subst, sym, List}
use Rattle.marks.specs.Links.{IsPlaceOf, IsSet, newest_of}
use Rattle.marks.specs.Placed.{most}
use Rattle.marks.proofs.LinkLemmas.{more_links, next_place, same_links, other_table}
use Rattle.marks.proofs.PlacedLemmas.{length-more}
use Rattle.marks.proofs.places.Places.push.Goals as goal

pub invariant_of-self-2 : goal.invariant_of-self-2
invariant_of-self-2 c =
    let marks = c.self.inside.marks.items in
    let older = c.self.inside.older.items in
    let last = c.args.mark in
    let place = c.in_ok-older.older in
    let items : c.push_reserved.new.self.items ≡ marks ++ last ∷ [] = search rules in
    let olders : c.push_reserved-2.new.self.items ≡ older ++ place ∷ [] = search rules in
    let len : c.len-2.result ≡ length marks = search rules in
    let less : length marks < most = search rules in
    let more = length-more marks last in
    let few : length (marks ++ last ∷ []) ≤ most = omega (arith, less, more) in
    let set_marks : c.deref-2.result.now ≡ marks = c.deref-2.ensures.value ∙ c.reserve.ensures.items in
    let are = (other_table marks c.deref.result.now older c.self.inside.newest c.spread.new.self c.self.invariant
    (c.deref.ensures.value ∙ c.reserve.ensures.items) c.spread.ensures.table c.spread.ensures.same).0 in
    let sets = subst
    (λ (xs : List ℕ). (more : List ℕ) → IsPlaceOf (xs ++ more) last (c.len-2.result + 1) → IsSet xs (xs ++ more) c.spread.new.self c.set.new.self last (c.len-2.result + 1))
    set_marks c.in_ok-older.ensures.ok in
    let there = subst (λ (n : ℕ). IsPlaceOf (marks ++ last ∷ []) last (n + 1)) (sym len) (next_place marks last) in
    let set = subst (λ (n : ℕ). IsSet marks (marks ++ last ∷ []) c.spread.new.self c.set.new.self last (n + 1)) len (sets (last ∷ []) there) in
    let newest = c.in_ok-older.ensures.older ∙ ap (λ (xs : List ℕ). newest_of xs c.spread.new.self last) set_marks in
    same_links (marks ++ last ∷ []) c.push_reserved.new.self.items (older ++ place ∷ []) c.push_reserved-2.new.self.items
    c.set.new.self items olders (more_links marks older c.spread.new.self c.set.new.self last place are newest set, few)

-- where memory is refused
pub invariant_of-self-in_err-older : goal.invariant_of-self-in_err-older
invariant_of-self-in_err-older c =
    let spread = other_table c.self.inside.marks.items c.deref.result.now c.self.inside.older.items c.self.inside.newest
    c.spread.new.self c.self.invariant (c.deref.ensures.value ∙ c.reserve.ensures.items) c.spread.ensures.table
    c.spread.ensures.same in
    same_links c.self.inside.marks.items c.reserve.new.self.items c.self.inside.older.items c.reserve-2.new.self.items
    c.set.new.self c.reserve.ensures.items c.reserve-2.ensures.items
    (other_table c.self.inside.marks.items c.deref-2.result.now c.self.inside.older.items c.spread.new.self
    c.set.new.self spread (c.deref-2.ensures.value ∙ c.reserve.ensures.items) c.in_err-older.ensures.table
    c.in_err-older.ensures.err)
