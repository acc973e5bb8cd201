-- What a caller learns from an index.
use Rattle.std.proofs.Common.{◌≡◌, ℕ, zero, suc, ◌<◌, ◌≤◌, Bool, true, false, cond, List, [], ◌∷◌, length, map, refl, sym, ◌∙◌, ap, subst, Option, None, Some, ◌⊎◌, inl, inr, arith, leb}
use Rattle.std.specs.Prelude.{slice_get, All}
use Rattle.std.proofs.Math.Nat.{eq-or-lt_of_le}
use Rattle.std.proofs.lemmas.Bool.{eq-eqb, le-leb, leb-true, leb-false}
use Rattle.std.proofs.lemmas.List.Elements.{All-head, All-tail}
use Rattle.std.proofs.lemmas.Option.{slice_get_read}
use Rattle.tuple_text.specs.Order.{tuple_eq}
use Rattle.tuple_text.specs.Tuples.{TupleValue}
use Rattle.tuple_text.proofs.ValueLemmas.{tuple_eq-same, tuple_eq-itself}
use Rattle.namespaces.specs.Declaration.{Declaration}
use Rattle.version_chains.specs.Commits.{Commit, Touch, changelog, is_stored, last_live, touches_to, until}
use Rattle.marks.specs.Placed.{in_front, newest_first}
use Rattle.marks.proofs.PlacedLemmas.{newest_first-here}
use Rattle.userset_index.specs.Index.{IndexValue, IsFound, IsUsersetIndex, IsLastTouch}
use Rattle.userset_index.specs.Lives.{is_sought, touches_alive}
use Rattle.userset_index.specs.declared.life.Life.{Life}

-- where there is no index, nothing is promised
pub none_kept : (ds : List Declaration) (commits : List Commit) (v : IndexValue) → v.is_whole ≡ false → IsUsersetIndex ds commits v
none_kept ds commits v off on = absurd (let bad : true ≡ false = sym on ∙ off in cc)

-- ---- the touch that makes a tuple stored

-- no touch of a tuple is at or below a timestamp
abbrev AreAfter : TupleValue → ℕ → List Touch → Type 0
AreAfter t at xs = (j : ℕ) (y : Touch) → slice_get xs j ≡ Some y → y.tuple ≡ t → at < y.at

further_on : (x : Touch) (xs : List Touch) (at i : ℕ) (y : Touch) → IsLastTouch xs at i y → IsLastTouch (x ∷ xs) at (suc i) y
further_on x xs at i y is = record {
  here = is.here;
  until = is.until;
  adds = is.adds;
  last = λ j z less here same. by_place j z less here same;
}
  where
    by_place : (j : ℕ) (z : Touch) → suc i < j → slice_get (x ∷ xs) j ≡ Some z → z.tuple ≡ y.tuple → at < z.at
    by_place zero z less here same = absurd (omega (arith, less))
    by_place (suc j) z less here same = is.last j z (omega (arith, less)) here same

last_among : (t : TupleValue) (at : ℕ) (xs : List Touch) (before : Bool) → last_live before (touches_to t (until at xs)) ≡ true
    → ((before ≡ true) × AreAfter t at xs) ⊎ ((i : ℕ) × (x : Touch) × IsLastTouch xs at i x × (x.tuple ≡ t))
last_among t at [] before h = inl (h, λ j y here same. absurd cc)
last_among t at (x ∷ xs) before h = by_tests (leb x.at at) refl (tuple_eq x.tuple t) refl h (last_among t at xs)
  where
    Last : List Touch → Type 0
    Last ys = (i : ℕ) × (y : Touch) × IsLastTouch ys at i y × (y.tuple ≡ t)

    Further : Type 0
    Further = (b : Bool) → last_live b (touches_to t (until at xs)) ≡ true → ((b ≡ true) × AreAfter t at xs) ⊎ Last xs

    -- a touch that is not of the tuple, or is after the timestamp, changes nothing
    passed : ((x.tuple ≡ t) → at < x.at) → ((before ≡ true) × AreAfter t at xs) ⊎ Last xs → ((before ≡ true) × AreAfter t at (x ∷ xs)) ⊎ Last (x ∷ xs)
    passed own (inr w) = inr (suc w.0, w.1, further_on x xs at w.0 w.1 w.2, w.3)
    passed own (inl n) = inl (n.0, all)
      where
        all : AreAfter t at (x ∷ xs)
        all zero y here same = let is : x ≡ y = cc in subst (λ (z : Touch). at < z.at) is (own (ap (λ (z : Touch). z.tuple) is ∙ same))
        all (suc j) y here same = n.1 j y here same

    found : tuple_eq x.tuple t ≡ true → x.at ≤ at → ((x.live ≡ true) × AreAfter t at xs) ⊎ Last xs → ((before ≡ true) × AreAfter t at (x ∷ xs)) ⊎ Last (x ∷ xs)
    found e early (inr w) = inr (suc w.0, w.1, further_on x xs at w.0 w.1 w.2, w.3)
    found e early (inl n) = inr (0, x, record { here = refl; until = early; adds = n.0; last = later }, tuple_eq-same x.tuple t e)
      where
        later : (j : ℕ) (y : Touch) → 0 < j → slice_get (x ∷ xs) j ≡ Some y → y.tuple ≡ x.tuple → at < y.at
        later zero y less here same = absurd (omega (arith, less))
        later (suc j) y less here same = n.1 j y here (same ∙ tuple_eq-same x.tuple t e)

    by_tests : (b : Bool) → leb x.at at ≡ b → (c : Bool) → tuple_eq x.tuple t ≡ c → last_live before (touches_to t (until at (x ∷ xs))) ≡ true → Further
        → ((before ≡ true) × AreAfter t at (x ∷ xs)) ⊎ Last (x ∷ xs)
    by_tests false e c f h further = passed (λ _. leb-false x.at at e) (further before (rw e at h))
    by_tests true e false f h further =
        passed (λ same. absurd (let bad : true ≡ false = sym (tuple_eq-itself t) ∙ ap (λ (u : TupleValue). tuple_eq u t) (sym same) ∙ f in cc)) (further before (rw (e, f) at h))
    by_tests true e true f h further = found f (leb-true x.at at e) (further x.live (rw (e, f) at h))

-- a stored tuple is made so by the last of its touches up to then
pub stored_by_touch : (commits : List Commit) (at : ℕ) (t : TupleValue) → is_stored commits at t ≡ true
    → (i : ℕ) × (x : Touch) × IsLastTouch (changelog commits) at i x × (x.tuple ≡ t)
stored_by_touch commits at t h = elim (last_among t at (changelog commits) false h) [
  | inl n ↦ absurd (let bad : false ≡ true = n.0 in cc)
  | inr w ↦ w
]

-- where no touch of a tuple is at or below a timestamp, none decides
none_until : (t : TupleValue) (at : ℕ) (xs : List Touch) (before : Bool) → AreAfter t at xs → last_live before (touches_to t (until at xs)) ≡ before
none_until t at [] before after = refl
none_until t at (x ∷ xs) before after = by_tests (leb x.at at) refl (tuple_eq x.tuple t) refl (none_until t at xs before (λ j y here same. after (suc j) y here same))
  where
    by_tests : (b : Bool) → leb x.at at ≡ b → (c : Bool) → tuple_eq x.tuple t ≡ c → last_live before (touches_to t (until at xs)) ≡ before
        → last_live before (touches_to t (until at (x ∷ xs))) ≡ before
    by_tests false e c f rest = rw e rest
    by_tests true e false f rest = rw (e, f) rest
    by_tests true e true f rest =
        let late = after zero x refl (tuple_eq-same x.tuple t f) in
        let early = leb-true x.at at e in
        absurd (omega (arith, late, early))

last_decides : (xs : List Touch) (at i : ℕ) (x : Touch) (before : Bool) → IsLastTouch xs at i x → last_live before (touches_to x.tuple (until at xs)) ≡ true
last_decides [] at i x before last = absurd (let none = last.here in let bad : None ≡ Some x = none in cc)
last_decides (y ∷ ys) at zero x before last =
    let is : y ≡ x = let here = last.here in cc in
    let own : tuple_eq y.tuple x.tuple ≡ true = ap (λ (z : Touch). tuple_eq z.tuple x.tuple) is ∙ tuple_eq-itself x.tuple in
    let early : leb y.at at ≡ true = ap (λ (z : Touch). leb z.at at) is ∙ le-leb x.at at last.until in
    rw (early, own)
    (none_until x.tuple at ys y.live (λ j z here same. last.last (suc j) z (omega arith) here same) ∙ ap (λ (z : Touch). z.live) is ∙ last.adds)
last_decides (y ∷ ys) at (suc i) x before last = by_tests (leb y.at at) refl (tuple_eq y.tuple x.tuple) refl (λ b. last_decides ys at i x b rest)
  where
    rest : IsLastTouch ys at i x
    rest = record { here = last.here; until = last.until; adds = last.adds; last = λ j z less here same. last.last (suc j) z (omega (arith, less)) here same }

    by_tests : (b : Bool) → leb y.at at ≡ b → (c : Bool) → tuple_eq y.tuple x.tuple ≡ c → ((d : Bool) → last_live d (touches_to x.tuple (until at ys)) ≡ true)
        → last_live before (touches_to x.tuple (until at (y ∷ ys))) ≡ true
    by_tests false e c f further = rw e (further before)
    by_tests true e false f further = rw (e, f) (further before)
    by_tests true e true f further = rw (e, f) (further y.live)

-- the last of its touches makes a tuple stored
pub touch_stored : (commits : List Commit) (at i : ℕ) (x : Touch) → IsLastTouch (changelog commits) at i x → is_stored commits at x.tuple ≡ true
touch_stored commits at i x last = last_decides (changelog commits) at i x false last

-- ---- what a pass over the touches of an index shows

-- what holds of each touch that is met holds of one that is found
pub each_found : (P : ℕ → Type 0) (lives : List Life) (mark at i : ℕ) → IsFound lives mark at i → All P (touches_alive mark at lives (length lives)) → P i
each_found P lives mark at i f all =
    let place = slice_get_read lives (length lives) f.there.0 f.life refl f.there.1 (sym f.there.2) in
    subst P f.of (met (length lives) f.there.0 f.there.1 f.life place (rw (eq-eqb mark f.life.mark (sym f.marked), f.alive) refl) all)
  where
    met : (n k : ℕ) → k < n → (l : Life) → slice_get lives k ≡ Some l → is_sought mark at l ≡ true → All P (touches_alive mark at lives n) → P l.touch
    met zero k less l here sought all = absurd (omega (arith, less))
    met (suc n) k less l here sought all = by_place (eq-or-lt_of_le (let near : k ≤ n = omega (arith, less) in near)) (λ before rest. met n k before l here sought rest)
      where
        by_item : (o : Option Life) → All P (map (λ (l : Life). l.touch) (in_front (is_sought mark at) o (newest_first (is_sought mark at) lives n))) → All P (touches_alive mark at lives n)
        by_item None all = all
        by_item (Some y) all = by_test (is_sought mark at y) all
          where
            by_test : (b : Bool) → All P (map (λ (l : Life). l.touch) (cond b (y ∷ newest_first (is_sought mark at) lives n) (newest_first (is_sought mark at) lives n))) → All P (touches_alive mark at lives n)
            by_test true all = All-tail P y.touch (touches_alive mark at lives n) all
            by_test false all = all

        by_place : (k ≡ n) ⊎ (k < n) → (k < n → All P (touches_alive mark at lives n) → P l.touch) → P l.touch
        by_place (inl e) before =
            let there = newest_first-here (is_sought mark at) lives n l (subst (λ (j : ℕ). slice_get lives j ≡ Some l) e here) sought in
            All-head P l.touch (touches_alive mark at lives n) (subst (λ (ls : List Life). All P (map (λ (l : Life). l.touch) ls)) there all)
        by_place (inr less) before = before less (by_item (slice_get lives n) all)
