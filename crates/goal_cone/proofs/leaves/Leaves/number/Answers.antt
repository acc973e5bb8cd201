use Rattle.std.proofs.Common.{rules, Some, ◌≡◌, ◌∷◌, ◌++◌, [], length, map, refl, sym, ap, subst}
use Rattle.std.proofs.lemmas.Option.{slice_get_read}
use Rattle.std.specs.Prelude.{slice_get}
use Rattle.marks.proofs.PlacedLemmas.{slice_get-next}
use Rattle.goal_cone.specs.Leaves.{ArePlaced, IsPlaced, LeavesValue, read_shown}
use Rattle.goal_cone.specs.declared.leaves.PlacedLeaves.{PlacedLeaves}
use Rattle.goal_cone.proofs.OnceLemmas.{found_leaves, one_placed_more}
use Rattle.goal_cone.proofs.leaves.Leaves.number.Goals.{After-push}
use Rattle.goal_cone.proofs.leaves.Leaves.number.Goals as goal

next : (c : After-push) → PlacedLeaves
next c = record { place = c.args.place; parts = c.in_ok-parts.parts }

right : (c : After-push) → IsPlaced c.self.inside.rules.now (next c)
unfolding next
right c = record { leaves = c.in_ok-parts.ensures.leaves; noted = c.in_ok-parts.ensures.noted }

all : (c : After-push) → ArePlaced c.self.inside.rules.now (c.self.inside.placed.items ++ next c ∷ [])
unfolding next
all c = one_placed_more c.self.inside.rules.now c.self.inside.placed.items (next c) c.self.invariant (right c)

pub invariant_of-self-in_err-insert : goal.invariant_of-self-in_err-insert
unfolding next
invariant_of-self-in_err-insert c =
    let is : c.push.new.self.items ≡ c.self.inside.placed.items ++ next (goal.at.invariant_of-self-in_err-insert c).After-push ∷ [] = c.in_ok-push.ensures.items in
    subst (ArePlaced c.self.inside.rules.now) (sym is) (all (goal.at.invariant_of-self-in_err-insert c).After-push)

pub invariant_of-self-2 : goal.invariant_of-self-2
unfolding next
invariant_of-self-2 c =
    let is : c.push.new.self.items ≡ c.self.inside.placed.items ++ next (goal.at.invariant_of-self-2 c).After-push ∷ [] = c.in_ok-push.ensures.items in
    subst (ArePlaced c.self.inside.rules.now) (sym is) (all (goal.at.invariant_of-self-2 c).After-push)

pub returns-clause-found : goal.returns-clause-found
unfolding next
returns-clause-found c =
    let items = c.self.inside.placed.items in
    let p = next (goal.at.returns-clause-found c).After-push in
    let ds = c.self.inside.rules.now in
    let is : c.push.new.self.items ≡ items ++ p ∷ [] = c.in_ok-push.ensures.items in
    let at : c.len-number.result ≡ length items = search rules in
    let same : ds ≡ c.args.self.now.declarations = ap (λ (l : LeavesValue). l.declarations) c.self.view_is in
    rw (is, at, ← same) (found_leaves ds (items ++ p ∷ []) (length items) p c.args.place (all (goal.at.returns-clause-found c).After-push) (slice_get-next items p) refl)

pub returns-then-eq-clause-found : goal.returns-then-eq-clause-found
returns-then-eq-clause-found c =
    let items = c.self.inside.placed.items in
    let ds = c.self.inside.rules.now in
    let n = c.unwrap_or-number.result in
    let p = c.index.result.now in
    let same : ds ≡ c.args.self.now.declarations = ap (λ (l : LeavesValue). l.declarations) c.self.view_is in
    let found : map (λ p. read_shown p.parts.items) items ≡ c.args.self.now.found = ap (λ (l : LeavesValue). l.found) c.self.view_is in
    let here : slice_get items n ≡ Some p = slice_get_read items (length items) n p refl (search rules) (search rules) in
    let stands : p.place ≡ c.args.place = search rules in
    rw (← found, ← same) (found_leaves ds items n p c.args.place c.self.invariant here stands)

pub invariant_of-self : goal.invariant_of-self
invariant_of-self c =
    let same : c.push.new.self.items ≡ c.self.inside.placed.items = search rules in
    subst (ArePlaced c.self.inside.rules.now) (sym same) c.self.invariant
