-- The store as a list and as a test.
use Rattle.std.proofs.Common.{◌≡◌, ℕ, Bool, true, false, List, [], ◌∷◌, map, refl, sym, ◌∙◌, ap, leb, ◌||◌, ◌&&◌, IsTrue, ◌↔◌}
use Rattle.std.specs.Prelude.{Contains}
use Rattle.std.specs.List.{list_any}
use Rattle.std.proofs.Math.Bool.{or-true, or-false, and-true, and-false}
use Rattle.std.proofs.lemmas.List.Folds.{list_any-append}
use Rattle.std.proofs.lemmas.Map.Views.{any-filter_same, Contains-from_any, list_any-from_Contains}
use Rattle.tuple_text.specs.Tuples.{TupleValue}
use Rattle.tuple_text.specs.Order.{tuple_eq}
use Rattle.tuple_text.specs.OrderLaws.{tuple_equiv}
use Rattle.tuple_text.proofs.ValueLemmas.{tuple_eq-same}
use Rattle.version_chains.specs.Commits.{Commit, Touch, touches, changelog, touches_to, until, last_live, is_stored, store_at, added}
use Rattle.version_chains.proofs.CommitLemmas.{side}

-- one of these tuples is t
abbrev among : TupleValue → List TupleValue → Bool
among t ts = list_any (tuple_eq t) ts

-- the touch adds t
abbrev adds_it : TupleValue → Touch → Bool
adds_it t x = tuple_eq t x.tuple && x.live

Contains-among : (t : TupleValue) (ts : List TupleValue) → Contains ts t ↔ (among t ts ≡ true)
Contains-among t ts = (list_any-from_Contains tuple_equiv t ts, Contains-from_any tuple_eq-same t ts)

touched-live : (t : TupleValue) (xs : List Touch) → last_live false (touches_to t xs) ≡ true → among t (map (λ x. x.tuple) xs) ≡ true
touched-live t [] h = cc
touched-live t (x ∷ xs) h = pick (tuple_eq x.tuple t) refl h (touched-live t xs)
  where
    pick : (b : Bool) → tuple_eq x.tuple t ≡ b → last_live false (touches_to t (x ∷ xs)) ≡ true → (last_live false (touches_to t xs) ≡ true → among t (map (λ x. x.tuple) xs) ≡ true) → (tuple_eq t x.tuple || among t (map (λ x. x.tuple) xs)) ≡ true
    pick true e h further = ap (λ b. b || among t (map (λ x. x.tuple) xs)) (tuple_equiv.symm t x.tuple ∙ e)
    pick false e h further = ap (λ b. tuple_eq t x.tuple || b) (further (rw e at h)) ∙ or-true (tuple_eq t x.tuple)

store_at-among : (commits : List Commit) (s : ℕ) (t : TupleValue) → among t (store_at commits s) ≡ is_stored commits s t
store_at-among commits s t =
    any-filter_same (tuple_eq t) (is_stored commits s) (is_stored commits s t) (λ k e. ap (is_stored commits s) (sym (tuple_eq-same t k e))) (map (λ x. x.tuple) (until s (changelog commits)))
    ∙ both (is_stored commits s t) _ (touched-live t (until s (changelog commits)))
  where
    both : (a b : Bool) → (a ≡ true → b ≡ true) → (a && b) ≡ a
    both true b h = h refl
    both false b h = refl

-- the tuples of the store are those that the test passes
pub store_at-iff : (commits : List Commit) (s : ℕ) (t : TupleValue) → Contains (store_at commits s) t ↔ IsTrue (is_stored commits s t)
store_at-iff commits s t =
    let both = Contains-among t (store_at commits s) in
    (λ h. sym (store_at-among commits s t) ∙ both.0 h, λ h. both.1 (store_at-among commits s t ∙ h))

added-live : (before : Bool) (t : TupleValue) (xs : List Touch) → last_live before (touches_to t xs) ≡ true → (before || list_any (adds_it t) xs) ≡ true
added-live before t [] h = ap (λ b. b || false) h
added-live before t (x ∷ xs) h = pick (tuple_eq x.tuple t) refl h (λ b. added-live b t xs)
  where
    here : (b p r : Bool) → p ≡ true → (x.live || r) ≡ true → (b || ((p && x.live) || r)) ≡ true
    here true p r e k = refl
    here false p r e k = rw e k

    later : (b p q r : Bool) → (b || r) ≡ true → (b || ((p && q) || r)) ≡ true
    later true p q r k = refl
    later false p q r k = rw k (or-true (p && q))

    pick : (b : Bool) → tuple_eq x.tuple t ≡ b → last_live before (touches_to t (x ∷ xs)) ≡ true → ((b : Bool) → last_live b (touches_to t xs) ≡ true → (b || list_any (adds_it t) xs) ≡ true) → (before || (adds_it t x || list_any (adds_it t) xs)) ≡ true
    pick true e h further = here before (tuple_eq t x.tuple) _ (tuple_equiv.symm t x.tuple ∙ e) (further x.live (rw e at h))
    pick false e h further = later before (tuple_eq t x.tuple) x.live _ (further before (rw e at h))

adds-until : (s : ℕ) (t : TupleValue) (xs : List Touch) → list_any (adds_it t) (until s xs) ≡ true → list_any (adds_it t) xs ≡ true
adds-until s t [] h = h
adds-until s t (x ∷ xs) h = pick (leb x.at s) refl h (adds-until s t xs)
  where
    later : (a b : Bool) → b ≡ true → (a || b) ≡ true
    later a b e = rw e (or-true a)

    either : (a b c : Bool) → (a || b) ≡ true → (b ≡ true → c ≡ true) → (a || c) ≡ true
    either true b c e k = refl
    either false b c e k = k e

    pick : (b : Bool) → leb x.at s ≡ b → list_any (adds_it t) (until s (x ∷ xs)) ≡ true → (list_any (adds_it t) (until s xs) ≡ true → list_any (adds_it t) xs ≡ true) → (adds_it t x || list_any (adds_it t) xs) ≡ true
    pick true e h further = either (adds_it t x) _ _ (rw e at h) further
    pick false e h further = later (adds_it t x) _ (further (rw e at h))

added-side : (at : ℕ) (t : TupleValue) (ts : List TupleValue) → list_any (adds_it t) (side at true ts) ≡ among t ts
added-side at t [] = refl
added-side at t (x ∷ xs) = rw (added-side at t xs) (ap (λ b. b || among t xs) (and-true (tuple_eq t x)))

removed-side : (at : ℕ) (t : TupleValue) (ts : List TupleValue) → list_any (adds_it t) (side at false ts) ≡ false
removed-side at t [] = refl
removed-side at t (x ∷ xs) = rw (removed-side at t xs) (ap (λ b. b || false) (and-false (tuple_eq t x)))

added-changelog : (t : TupleValue) (commits : List Commit) → list_any (adds_it t) (changelog commits) ≡ among t (added commits)
added-changelog t [] = refl
added-changelog t (c ∷ cs) =
    list_any-append (adds_it t) (touches c) (changelog cs)
    ∙ ap (λ b. b || list_any (adds_it t) (changelog cs)) (list_any-append (adds_it t) (side c.at true c.adds) (side c.at false c.removes) ∙ ap (λ b. b || list_any (adds_it t) (side c.at false c.removes)) (added-side c.at t c.adds) ∙ ap (λ b. among t c.adds || b) (removed-side c.at t c.removes) ∙ or-false (among t c.adds))
    ∙ ap (λ b. among t c.adds || b) (added-changelog t cs)
    ∙ sym (list_any-append (tuple_eq t) c.adds (added cs))

-- a stored tuple was added
pub added-stored : (commits : List Commit) (s : ℕ) (t : TupleValue) → IsTrue (is_stored commits s t) → Contains (added commits) t
added-stored commits s t h =
    (Contains-among t (added commits)).1 (sym (added-changelog t commits) ∙ adds-until s t (changelog commits) (added-live false t (until s (changelog commits)) h))
