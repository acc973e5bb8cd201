use Rattle.std.proofs.Common.{◌≡◌, ◌∙◌, ◌-◌, ℕ, zero, suc, ◌≤◌, List, [], ◌∷◌, length, Option, Some, None, refl, ap, subst, sym, arith}
use Rattle.std.specs.Prelude.{slice_get}
use Rattle.std.proofs.lemmas.Bool.{ltb-false}
use Rattle.marks.proofs.PlacedLemmas.{read_item}
use Rattle.userset_index.specs.Growth.{ArePlaced, IsClosed}
use Rattle.userset_index.specs.Lives.{ended}
use Rattle.userset_index.specs.declared.life.Life.{Life}
use Rattle.userset_index.proofs.GrowthLemmas.{closed_at, closed_none, none_placed, placed_ended}
use Rattle.userset_index.proofs.growth.close.Goals as goal

pub returns-then-place-gt0-clause-placed : goal.returns-then-place-gt0-clause-placed
returns-then-place-gt0-clause-placed c =
    subst (λ (ls : List Life). ArePlaced ls c.args.places.now) (sym c.end.ensures)
    (placed_ended c.args.spans.now c.args.places.now (c.in-Some.place.now - 1) c.args.until c.requires)

pub returns-then-place-gt0-clause-closed : goal.returns-then-place-gt0-clause-closed
returns-then-place-gt0-clause-closed c =
    let some = c.if-older-eq0.false in
    let placed = c.if-place-gt0.true in
    let at : c.args.older ≡ suc (c.args.older - 1) = omega (arith, some) in
    let place : c.in-Some.place.now ≡ suc (c.in-Some.place.now - 1) = omega (arith, placed) in
    let noted = read_item c.args.places.now c.args.places.now (c.args.older - 1) c.in-Some.place.now (λ n. c.args.places.now)
    c.in-Some.ensures.lookup.3.0 c.in-Some.ensures.lookup.1 in
    subst (IsClosed c.args.older c.args.until c.args.spans.now) (sym c.end.ensures)
    (subst (λ (k : ℕ). IsClosed k c.args.until c.args.spans.now (ended (c.in-Some.place.now - 1) c.args.until c.args.spans.now)) (sym at)
    (closed_at c.args.spans.now c.args.places.now c.requires (c.args.older - 1) (c.in-Some.place.now - 1) c.args.until
    (noted ∙ ap Some place)))

past_end : (xs : List ℕ) (k : ℕ) → length xs ≤ k → slice_get xs k ≡ None
past_end [] k past = refl
past_end (x ∷ xs) zero past = absurd (omega (arith, past))
past_end (x ∷ xs) (suc k) past = past_end xs k (omega (arith, past))

nothing : (older until : ℕ) (lives : List Life) (places : List ℕ) → ArePlaced lives places → (o : Option ℕ)
    → slice_get places (older - 1) ≡ o → ((i : ℕ) → o ≡ Some (suc i) → ⊥) → older ≡ suc (older - 1) → IsClosed older until lives lives
nothing older until lives places placed o is none at =
    closed_none older until lives (λ l there same. none_placed lives places placed (older - 1) o is none l there (same ∙ at))

pub returns-else-place-gt0-clause-closed : goal.returns-else-place-gt0-clause-closed
returns-else-place-gt0-clause-closed c =
    let some = c.if-older-eq0.false in
    let unplaced = c.if-place-gt0.false in
    let zero_there : c.in-Some.place.now ≡ 0 = omega (arith, unplaced) in
    let noted = read_item c.args.places.now c.args.places.now (c.args.older - 1) c.in-Some.place.now (λ n. c.args.places.now)
    c.in-Some.ensures.lookup.3.0 c.in-Some.ensures.lookup.1 in
    nothing c.args.older c.args.until c.args.spans.now c.args.places.now c.requires (Some 0) (noted ∙ ap Some zero_there)
    (λ i same. absurd cc) (omega (arith, some))

pub returns-in_default-clause-closed : goal.returns-in_default-clause-closed
returns-in_default-clause-closed c =
    let some = c.if-older-eq0.false in
    let past = c.in_default.ensures.lookup.0 in
    nothing c.args.older c.args.until c.args.spans.now c.args.places.now c.requires None
    (past_end c.args.places.now (c.args.older - 1) (ltb-false (c.args.older - 1) (length c.args.places.now) (sym past))) (λ i same. absurd cc) (omega (arith, some))
