-- A tuple's history does not rise, so that what lies before a touch above a timestamp is above it too.
use Rattle.std.proofs.Common.{◌≡◌, ℕ, suc, ◌+◌, ◌-◌, ◌<◌, ◌≤◌, Bool, true, false, List, [], ◌∷◌, ◌++◌, length, map, reverse, drop, get_or, Option, None, Some, leb, refl, ap, ◌∙◌, arith}
use Rattle.std.specs.Prelude.{All, AllPairs, find, slice_get, slice_range, IsSomeAnd}
use Rattle.std.specs.Option.{option_or}
use Rattle.std.specs.List.Sorted.{IsStrictlyIncreasing}
use Rattle.std.proofs.lemmas.Bool.{lt-leb}
use Rattle.std.proofs.lemmas.List.{reverse-append, length-take, length-map, get_or-map, get_or-take, get_or-drop}
use Rattle.std.proofs.lemmas.List.Elements.{All-append, All-map, All-push, All-head, All-tail, All-nil}
use Rattle.std.proofs.lemmas.List.Folds.{drop_split, find-append}
use Rattle.std.proofs.lemmas.List.Kept.{AllPairs-cons, AllPairs-filter, AllPairs-from_increasing}
use Rattle.std.proofs.lemmas.List.Quantifiers.{all_pairs_push}
use Rattle.std.proofs.lemmas.Option.{get_or_from_slice_get, slice_get_within}
use Rattle.tuple_text.specs.Tuples.{TupleValue}
use Rattle.tuple_text.specs.Order.{tuple_eq}
use Rattle.version_chains.specs.Commits.{Commit, Touch, touches, changelog, touches_to, history_of}
use Rattle.version_chains.specs.Walks.{newest_until, IsJump, PassesNone}
use Rattle.version_chains.proofs.CommitLemmas.{side}

module _ {X : Type 0} (R : X → X → Type 0) where
  head_pairs : (x : X) (xs : List X) → AllPairs R (x ∷ xs) → All (R x) xs
  head_pairs x xs h k d lt = h 0 (suc k) d (omega arith) (omega (arith, lt))

  tail_pairs : (x : X) (xs : List X) → AllPairs R (x ∷ xs) → AllPairs R xs
  tail_pairs x xs h i j d lt within = h (suc i) (suc j) d (omega (arith, lt)) (omega (arith, within))

  pairs_append : (xs ys : List X) → AllPairs R xs → AllPairs R ys → All (λ x. All (R x) ys) xs → AllPairs R (xs ++ ys)
  pairs_append [] ys front back across = back
  pairs_append (x ∷ xs) ys front back across =
      AllPairs-cons R x (xs ++ ys) (All-append (R x) xs ys (head_pairs x xs front) (All-head (λ z. All (R z) ys) x xs across))
      (pairs_append xs ys (tail_pairs x xs front) back (All-tail (λ z. All (R z) ys) x xs across))

  pairs_map : {Y : Type 0} (f : Y → X) (ys : List Y) → AllPairs (λ a b. R (f a) (f b)) ys → AllPairs R (map f ys)
  pairs_map f [] h = λ i j d lt within. absurd (omega (arith, within))
  pairs_map f (y ∷ ys) h =
      AllPairs-cons R (f y) (map f ys) (All-map (R (f y)) f ys (λ k d lt. h 0 (suc k) d (omega arith) (omega (arith, lt))))
      (pairs_map f ys (λ i j d lt within. h (suc i) (suc j) d (omega (arith, lt)) (omega (arith, within))))

all_reverse : {X : Type 0} (P : X → Type 0) (xs : List X) → All P xs → All P (reverse xs)
all_reverse P [] h = h
all_reverse P (x ∷ xs) h = rw (reverse-append (x ∷ []) xs) (All-push P (reverse xs) x (all_reverse P xs (All-tail P x xs h)) (All-head P x xs h))

pairs_reverse : {X : Type 0} (R : X → X → Type 0) (xs : List X) → AllPairs R xs → AllPairs (λ x y. R y x) (reverse xs)
pairs_reverse R [] h = λ i j d lt within. absurd (omega (arith, within))
pairs_reverse R (x ∷ xs) h =
    rw (reverse-append (x ∷ []) xs)
    (all_pairs_push (λ a b. R b a) (reverse xs) x (pairs_reverse R xs (tail_pairs R x xs h)) (all_reverse (R x) xs (head_pairs R x xs h)))

-- ---- the changelog's timestamps do not fall

all_touches : (P : ℕ → Type 0) (c : Commit) → P c.at → All (λ (x : Touch). P x.at) (touches c)
all_touches P c p = All-append (λ (x : Touch). P x.at) (side c.at true c.adds) (side c.at false c.removes) (of_side true c.adds) (of_side false c.removes)
  where
    of_side : (live : Bool) (ts : List TupleValue) → All (λ (x : Touch). P x.at) (side c.at live ts)
    of_side live ts = All-map (λ (x : Touch). P x.at) (λ (t : TupleValue). record { at = c.at; live = live; tuple = t }) ts (λ k d lt. p)

all_in_log : (P : ℕ → Type 0) (cs : List Commit) → All (λ (c : Commit). P c.at) cs → All (λ (x : Touch). P x.at) (changelog cs)
all_in_log P [] h = All-nil (λ (x : Touch). P x.at)
all_in_log P (c ∷ cs) h =
    All-append (λ (x : Touch). P x.at) (touches c) (changelog cs) (all_touches P c (All-head (λ (d : Commit). P d.at) c cs h))
    (all_in_log P cs (All-tail (λ (d : Commit). P d.at) c cs h))

log_rises : (cs : List Commit) → AllPairs (λ (c d : Commit). c.at < d.at) cs → AllPairs (λ (x y : Touch). x.at ≤ y.at) (changelog cs)
log_rises [] h = λ i j d lt within. absurd (omega (arith, within))
log_rises (c ∷ cs) h =
    pairs_append (λ (x y : Touch). x.at ≤ y.at) (touches c) (changelog cs)
    (λ i j d lt within. let a = same i d (omega (arith, lt, within)) in let b = same j d within in omega (arith, a, b))
    (log_rises cs (tail_pairs (λ (a b : Commit). a.at < b.at) c cs h))
    (λ k d lt. let a = same k d lt in all_in_log (λ n. (get_or (touches c) k d).at ≤ n) cs (λ j e within. let up = h 0 (suc j) e (omega arith) (omega (arith, within)) in omega (arith, a, up)))
  where
    same : All (λ (x : Touch). x.at ≡ c.at) (touches c)
    same = all_touches (λ n. n ≡ c.at) c refl

commits_rise : (cs : List Commit) → IsStrictlyIncreasing (map (λ (c : Commit). c.at) cs) → AllPairs (λ (c d : Commit). c.at < d.at) cs
commits_rise cs rising i j d lt within =
    let long = length-map cs (λ (c : Commit). c.at) in
    let up = AllPairs-from_increasing (map (λ (c : Commit). c.at) cs) rising i j 0 lt (omega (arith, within, long)) in
    let a = get_or-map (λ (c : Commit). c.at) cs i d 0 (omega (arith, lt, within)) in
    let b = get_or-map (λ (c : Commit). c.at) cs j d 0 within in
    omega (arith, up, a, b)

history_falls : (cs : List Commit) (t : TupleValue) → IsStrictlyIncreasing (map (λ (c : Commit). c.at) cs) → AllPairs (λ (x y : ℕ × Bool). y.0 ≤ x.0) (history_of cs t)
history_falls cs t rising =
    pairs_reverse (λ (x y : ℕ × Bool). x.0 ≤ y.0) (map (λ (x : Touch). (x.at, x.live)) (touches_to t (changelog cs)))
    (pairs_map (λ (x y : ℕ × Bool). x.0 ≤ y.0) (λ (x : Touch). (x.at, x.live)) (touches_to t (changelog cs))
    (AllPairs-filter (λ (x y : Touch). x.at ≤ y.at) (λ (x : Touch). tuple_eq x.tuple t) (changelog cs) (log_rises cs (commits_rise cs rising))))

-- ---- jumps

none_found : {X : Type 0} (p : X → Bool) (xs : List X) → All (λ x. p x ≡ false) xs → find p xs ≡ None
none_found p [] h = refl
none_found p (x ∷ xs) h = rw (All-head (λ y. p y ≡ false) x xs h) (none_found p xs (All-tail (λ y. p y ≡ false) x xs h))

passes_none : (h : List (ℕ × Bool)) → AllPairs (λ (x y : ℕ × Bool). y.0 ≤ x.0) h → (s from to : ℕ) → IsJump s h from to → PassesNone s h from to
passes_none h falls s from to jump = record {
  passed = passed;
  same =
      ap (newest_until s) (drop_split h from to jump.back)
      ∙ find-append (λ (x : ℕ × Bool). leb x.0 s) (slice_range h from to) (drop to h)
      ∙ ap (λ (o : Option (ℕ × Bool)). option_or o (newest_until s (drop to h)))
      (none_found (λ (x : ℕ × Bool). leb x.0 s) (slice_range h from to) (λ k d lt. lt-leb (get_or (slice_range h from to) k d).0 s (passed k d lt)));
}
  where
    reached : (o : Option (ℕ × Bool)) → slice_get h to ≡ o → IsSomeAnd o (λ (x : ℕ × Bool). s < x.0) → (d : ℕ × Bool) → (to < length h) × (s < (get_or h to d).0)
    reached None is above d = absurd above
    reached (Some x) is above d = (slice_get_within h to x is, rw (get_or_from_slice_get h to x d is) above)

    passed : All (λ (x : ℕ × Bool). s < x.0) (slice_range h from to)
    passed k d lt =
        let there = reached (slice_get h to) refl jump.above d in
        let long = length-take (to - from) (drop from h) in
        let inside : k < to - from = omega (arith, lt, long) in
        let older = falls (from + k) to d (omega (arith, inside)) there.0 in
        let late = there.1 in
        rw (get_or-take (to - from) (drop from h) k d inside, get_or-drop from h k d) (omega (arith, older, late))

pub jump_is_walk_law : (cs : List Commit) → IsStrictlyIncreasing (map (λ (c : Commit). c.at) cs) → (t : TupleValue) (s from to : ℕ)
    → IsJump s (history_of cs t) from to → PassesNone s (history_of cs t) from to
jump_is_walk_law cs rising t = passes_none (history_of cs t) (history_falls cs t rising)
