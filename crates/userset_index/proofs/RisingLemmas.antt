-- A later touch of a tuple has a later timestamp.
use Rattle.std.proofs.Common.{◌≡◌, ℕ, zero, suc, ◌<◌, Bool, true, false, List, [], ◌∷◌, ◌++◌, map, refl, sym, ◌∙◌, ap, subst, None, Some, arith}
use Rattle.std.specs.Prelude.{slice_get, All}
use Rattle.std.specs.List.{AllByRecursion, AllPairs, IsDistinct}
use Rattle.std.specs.List.Sorted.{IsStrictlyIncreasing}
use Rattle.std.proofs.lemmas.List.Elements.{All-head, All-tail}
use Rattle.std.proofs.lemmas.List.Kept.{AllPairs-from_increasing}
use Rattle.std.proofs.lemmas.Option.{get_or_from_slice_get, slice_get_within}
use Rattle.tuple_text.specs.Order.{tuple_eq}
use Rattle.tuple_text.specs.Tuples.{TupleValue}
use Rattle.tuple_text.proofs.ValueLemmas.{tuple_eq-itself}
use Rattle.version_chains.specs.Commits.{Commit, Touch, TouchesOnce, changelog}
use Rattle.userset_index.specs.Building.{AreRising}

-- the touches of some tuples at one timestamp
abbrev side : ℕ → Bool → List TupleValue → List Touch
side at live ts = map (λ t. record { at = at; live = live; tuple = t }) ts

abbrev AreAfter : ℕ → List Touch → Type 0
AreAfter at xs = (j : ℕ) (y : Touch) → slice_get xs j ≡ Some y → at < y.at

-- a touch with a tuple that none of the touches behind it has, up to its timestamp
rising_more : (x : Touch) (xs : List Touch) → ((j : ℕ) (y : Touch) → slice_get xs j ≡ Some y → y.tuple ≡ x.tuple → x.at < y.at) → AreRising xs → AreRising (x ∷ xs)
rising_more x xs first rest zero zero y z less here there same = absurd (omega (arith, less))
rising_more x xs first rest zero (suc j) y z less here there same =
    let is : x ≡ y = cc in
    subst (λ (w : Touch). w.at < z.at) is (first j z there (same ∙ ap (λ (w : Touch). w.tuple) (sym is)))
rising_more x xs first rest (suc i) zero y z less here there same = absurd (omega (arith, less))
rising_more x xs first rest (suc i) (suc j) y z less here there same = rest i j y z (omega (arith, less)) here there same

-- a tuple that differs from some others is touched behind those alone, and later
after_side : (at d : ℕ) (live : Bool) (t : TupleValue) (ts : List TupleValue) (zs : List Touch) → AllByRecursion (λ u. tuple_eq t u ≡ false) ts
    → ((j : ℕ) (y : Touch) → slice_get zs j ≡ Some y → y.tuple ≡ t → at < y.at)
    → (j : ℕ) (y : Touch) → slice_get (side d live ts ++ zs) j ≡ Some y → y.tuple ≡ t → at < y.at
after_side at d live t [] zs apart after j y there same = after j y there same
after_side at d live t (u ∷ us) zs apart after zero y there same =
    let is : record { at = d; live = live; tuple = u } ≡ y = cc in
    let one : u ≡ t = ap (λ (z : Touch). z.tuple) is ∙ same in
    let bad : true ≡ false = sym (tuple_eq-itself t) ∙ ap (tuple_eq t) (sym one) ∙ apart.0 in
    absurd (let b = bad in cc)
after_side at d live t (u ∷ us) zs apart after (suc j) y there same = after_side at d live t us zs apart.1 after j y there same

each_front : (P : TupleValue → Type 0) (ts us : List TupleValue) → AllByRecursion P (ts ++ us) → AllByRecursion P ts × AllByRecursion P us
each_front P [] us all = (tt, all)
each_front P (t ∷ ts) us all = let rest = each_front P ts us all.1 in ((all.0, rest.0), rest.1)

module _ (at : ℕ) (zs : List Touch) (after : AreAfter at zs) (rising : AreRising zs) where
  rising_removes : (us : List TupleValue) → IsDistinct tuple_eq us → AreRising (side at false us ++ zs)
  unfolding IsDistinct
  rising_removes [] apart = rising
  rising_removes (u ∷ us) apart =
      rising_more (record { at = at; live = false; tuple = u }) (side at false us ++ zs)
      (after_side at at false u us zs apart.0 (λ j y there same. after j y there)) (rising_removes us apart.1)

  rising_commit : (ts us : List TupleValue) → IsDistinct tuple_eq (ts ++ us) → AreRising ((side at true ts ++ side at false us) ++ zs)
  unfolding IsDistinct
  rising_commit [] us apart = rising_removes us apart
  rising_commit (t ∷ ts) us apart =
      let both = each_front (λ u. tuple_eq t u ≡ false) ts us apart.0 in
      rising_more (record { at = at; live = true; tuple = t }) ((side at true ts ++ side at false us) ++ zs)
      (λ j y there. after_side at at true t ts (side at false us ++ zs) both.0
      (after_side at at false t us zs both.1 (λ k z behind same. after k z behind)) j y (subst (λ (xs : List Touch). slice_get xs j ≡ Some y) (joined ts) there))
      (rising_commit ts us apart.1)
    where
      joined : (vs : List TupleValue) → (side at true vs ++ side at false us) ++ zs ≡ side at true vs ++ (side at false us ++ zs)
      joined [] = refl
      joined (v ∷ vs) = ap (λ (xs : List Touch). record { at = at; live = true; tuple = v } ∷ xs) (joined vs)

-- touches at a later timestamp, and more that are later
after_more : (at d : ℕ) (live : Bool) (ts : List TupleValue) (zs : List Touch) → at < d → AreAfter at zs → AreAfter at (side d live ts ++ zs)
after_more at d live [] zs less after j y there = after j y there
after_more at d live (t ∷ ts) zs less after zero y there =
    let is : record { at = d; live = live; tuple = t } ≡ y = cc in
    subst (λ (z : Touch). at < z.at) is less
after_more at d live (t ∷ ts) zs less after (suc j) y there = after_more at d live ts zs less after j y there

after_commit : (at d : ℕ) (ts us : List TupleValue) (zs : List Touch) → at < d → AreAfter at zs → AreAfter at ((side d true ts ++ side d false us) ++ zs)
after_commit at d [] us zs less after j y there = after_more at d false us zs less after j y there
after_commit at d (t ∷ ts) us zs less after zero y there = after_more at d true (t ∷ ts) zs less after zero y there
after_commit at d (t ∷ ts) us zs less after (suc j) y there = after_commit at d ts us zs less after j y there

after_all : (at : ℕ) (cs : List Commit) → ((k : ℕ) (c : Commit) → slice_get cs k ≡ Some c → at < c.at) → AreAfter at (changelog cs)
after_all at [] later j y there = absurd (let bad : None ≡ Some y = there in cc)
after_all at (c ∷ cs) later j y there =
    after_commit at c.at c.adds c.removes (changelog cs) (later zero c refl) (after_all at cs (λ k d there. later (suc k) d there)) j y there

pub rising_by_commits : (cs : List Commit) → AllPairs (λ s t. s < t) (map (λ (c : Commit). c.at) cs) → All TouchesOnce cs → AreRising (changelog cs)
rising_by_commits [] up once = λ i j x y less here there same. absurd (let bad : None ≡ Some x = here in cc)
rising_by_commits (c ∷ cs) up once =
    rising_commit c.at (changelog cs) (after_all c.at cs later)
    (rising_by_commits cs (λ i j d less within. up (suc i) (suc j) d (omega (arith, less)) (omega (arith, within))) (All-tail TouchesOnce c cs once))
    c.adds c.removes (All-head TouchesOnce c cs once)
  where
    times : List Commit → List ℕ
    times = map (λ (d : Commit). d.at)

    time_at : (ds : List Commit) (k : ℕ) (d : Commit) → slice_get ds k ≡ Some d → slice_get (times ds) k ≡ Some d.at
    time_at [] k d there = absurd (let bad : None ≡ Some d = there in cc)
    time_at (e ∷ ds) zero d there = let is : e ≡ d = cc in ap (λ (z : Commit). Some z.at) is
    time_at (e ∷ ds) (suc k) d there = time_at ds k d there

    later : (k : ℕ) (d : Commit) → slice_get cs k ≡ Some d → c.at < d.at
    later k d there =
        let here = time_at cs k d there in
        let within = slice_get_within (times cs) k d.at here in
        subst (λ (n : ℕ). c.at < n) (get_or_from_slice_get (times cs) k d.at 0 here) (up zero (suc k) 0 (omega arith) (omega (arith, within)))

pub rising : (cs : List Commit) (times : List ℕ) → times ≡ map (λ (c : Commit). c.at) cs → IsStrictlyIncreasing times → All TouchesOnce cs → AreRising (changelog cs)
rising cs times are up once = rising_by_commits cs (subst (AllPairs (λ s t. s < t)) are (AllPairs-from_increasing times up)) once
