-- The commits that touches make, with one more commit.
use Rattle.std.proofs.Common.{◌≡◌, ◌≢◌, ℕ, zero, suc, ◌+◌, ◌-◌, ◌<◌, ◌≤◌, Bool, true, false, cond, List, [], ◌∷◌, ◌++◌, length, map, refl, sym, ◌∙◌, ap, subst, Some, arith, ◌&&◌, nat_eq, eq-eqb, ne_eqb, append-nil}
use Rattle.std.specs.Prelude.{slice_get, slice_index, filter, not}
use Rattle.std.specs.List.{AllByRecursion}
use Rattle.std.specs.List.Sorted.{IsStrictlyIncreasing}
use Rattle.std.proofs.lemmas.List.{map-append}
use Rattle.std.proofs.lemmas.List.Elements.{filter-append}
use Rattle.std.proofs.lemmas.Grind.{flat_map-append}
use Rattle.std.proofs.lemmas.Option.{slice_get_within, get_or_from_slice_get}
use Rattle.tuple_text.specs.Tuples.{TupleValue}
use Rattle.version_chains.specs.Arena.{AreUpTo}
use Rattle.version_chains.specs.Commits.{Commit, Touch, touches, changelog}
use Rattle.version_chains.specs.Given.{commit_at, commits_of}
use Rattle.version_chains.proofs.ArenaLemmas.{item_within}

-- the touches of one side of a commit
abbrev pub side : ℕ → Bool → List TupleValue → List Touch
side at live ts = map (λ t. record { at = at; live = live; tuple = t }) ts

pub times_of : (times : List ℕ) (xs : List Touch) → map (λ c. c.at) (commits_of times xs) ≡ times
times_of [] xs = refl
times_of (t ∷ ts) xs = ap (λ us. t ∷ us) (times_of ts xs)

-- ---- all before a timestamp

module _ (xs : List ℕ) (rising : IsStrictlyIncreasing xs) where
  not_falling : (k d : ℕ) → k + d < length xs → slice_index xs k ≤ slice_index xs (k + d)
  not_falling k zero h = let e : k + 0 ≡ k = omega arith in rw e (omega arith)
  not_falling k (suc d) h =
      let before = not_falling k d (omega (arith, h)) in
      let step = rising (k + d) (omega (arith, h)) in
      let e : k + suc d ≡ k + d + 1 = omega arith in
      rw e (omega (arith, before, step))

  pub times_below : (at : ℕ) → ((last : ℕ) → slice_get xs (length xs - 1) ≡ Some last → last < at) → (i t : ℕ) → slice_get xs i ≡ Some t → t < at
  times_below at later i t e =
      let within = slice_get_within xs i t e in
      let w = item_within xs (length xs - 1) (omega (arith, within)) in
      let last = later w.0 w.1 in
      let here = get_or_from_slice_get xs i t 0 e in
      let there = get_or_from_slice_get xs (length xs - 1) w.0 0 w.1 in
      let sum : i + (length xs - 1 - i) ≡ length xs - 1 = omega (arith, within) in
      let rise = not_falling i (length xs - 1 - i) (omega (arith, within)) in
      let rise_to = subst (λ (k : ℕ). slice_index xs i ≤ slice_index xs k) sum rise in
      omega (arith, here, there, rise_to, last)

-- the touch is before the timestamp
abbrev pub IsBefore : ℕ → Touch → Type 0
IsBefore at x = x.at < at

all-append : {X : Type 0} (P : X → Type 0) (xs ys : List X) → AllByRecursion P xs → AllByRecursion P ys → AllByRecursion P (xs ++ ys)
all-append P [] ys h k = k
all-append P (x ∷ xs) ys h k = (h.0, all-append P xs ys h.1 k)

all_side : (at t : ℕ) (live : Bool) (ts : List TupleValue) → t < at → AllByRecursion (IsBefore at) (side t live ts)
all_side at t live [] h = tt
all_side at t live (x ∷ xs) h = (h, all_side at t live xs h)

all_logged : (at : ℕ) (times : List ℕ) (xs : List Touch) → ((i t : ℕ) → slice_get times i ≡ Some t → t < at) → AllByRecursion (IsBefore at) (changelog (commits_of times xs))
all_logged at [] xs below = tt
all_logged at (t ∷ ts) xs below =
    let c = commit_at xs t in
    let first : t < at = below zero t refl in
    all-append (IsBefore at) (touches c) (changelog (commits_of ts xs))
    (all-append (IsBefore at) (side t true c.adds) (side t false c.removes) (all_side at t true c.adds first) (all_side at t false c.removes first))
    (all_logged at ts xs (λ i u e. below (suc i) u e))

-- no touch is after a timestamp, with touches of it
pub up_to_more : (at : ℕ) (live : Bool) (xs : List Touch) (ts : List TupleValue) → AreUpTo at xs → AreUpTo at (xs ++ side at live ts)
up_to_more at live (x ∷ xs) ts up zero y e = up zero y e
up_to_more at live (x ∷ xs) ts up (suc i) y e = up_to_more at live xs ts (λ j z h. up (suc j) z h) i y e
up_to_more at live [] ts up i y e = of_it ts i e
  where
    of_it : (ts : List TupleValue) (i : ℕ) → slice_get (side at live ts) i ≡ Some y → y.at ≤ at
    of_it [] i h = absurd cc
    of_it (t ∷ ts) zero h = let same : at ≡ y.at = cc in omega (arith, same)
    of_it (t ∷ ts) (suc i) h = of_it ts i h

pub up_to_before : (at : ℕ) (xs : List Touch) → AllByRecursion (IsBefore at) xs → AreUpTo at xs
up_to_before at [] h i y e = absurd cc
up_to_before at (x ∷ xs) h zero y e = let same : x ≡ y = cc in let less = subst (IsBefore at) same h.0 in omega (arith, less)
up_to_before at (x ∷ xs) h (suc i) y e = up_to_before at xs h.1 i y e

-- ---- the touches of one timestamp

module _ (at : ℕ) (p : Touch → Bool) where
  none_before : (xs : List Touch) → AllByRecursion (IsBefore at) xs → filter (λ x. nat_eq x.at at && p x) xs ≡ []
  none_before [] h = refl
  none_before (x ∷ xs) h = rw (ne_eqb x.at at (λ e. let less = h.0 in omega (arith, less, e)), none_before xs h.1) refl

  none_else : (other : ℕ) (live : Bool) (ts : List TupleValue) → other ≢ at → filter (λ x. nat_eq x.at at && p x) (side other live ts) ≡ []
  none_else other live [] h = refl
  none_else other live (t ∷ ts) h = rw (ne_eqb other at h, none_else other live ts h) refl

cond-nil : (b : Bool) (xs : List TupleValue) → xs ≡ [] → [] ≡ cond b xs []
cond-nil true xs e = sym e
cond-nil false xs e = refl

side_kept : (at : ℕ) (live : Bool) (p : Bool → Bool) (ts : List TupleValue) → map (λ x. x.tuple) (filter (λ x. nat_eq x.at at && p x.live) (side at live ts)) ≡ cond (p live) ts []
side_kept at live p [] = cond-nil (p live) [] refl
side_kept at live p (t ∷ ts) = rw (eq-eqb at at refl) (by_test (p live) (side_kept at live p ts))
  where
    rest : List Touch
    rest = filter (λ x. nat_eq x.at at && p x.live) (side at live ts)

    by_test : (b : Bool) → map (λ x. x.tuple) rest ≡ cond b ts [] → map (λ x. x.tuple) (cond b (record { at = at; live = live; tuple = t } ∷ rest) rest) ≡ cond b (t ∷ ts) []
    by_test true h = ap (λ ys. t ∷ ys) h
    by_test false h = h

module _ (times : List ℕ) (xs : List Touch) (logged : changelog (commits_of times xs) ≡ xs) (at : ℕ) (adds removes : List TupleValue)
    (below : (i t : ℕ) → slice_get times i ≡ Some t → t < at) where
  abbrev more : List Touch
  more = xs ++ (side at true adds ++ side at false removes)

  abbrev commit : Commit
  commit = record { at = at; adds = adds; removes = removes }

  pub early : AllByRecursion (IsBefore at) xs
  early = subst (AllByRecursion (IsBefore at)) logged (all_logged at times xs below)

  -- what passes at a timestamp, in parts
  passed : (t : ℕ) (p : Bool → Bool) → filter (λ x. nat_eq x.at t && p x.live) more
      ≡ filter (λ x. nat_eq x.at t && p x.live) xs ++ (filter (λ x. nat_eq x.at t && p x.live) (side at true adds) ++ filter (λ x. nat_eq x.at t && p x.live) (side at false removes))
  passed t p = filter-append _ xs (side at true adds ++ side at false removes) ∙ ap (λ ys. filter (λ x. nat_eq x.at t && p x.live) xs ++ ys) (filter-append _ (side at true adds) (side at false removes))

  old_side : (t : ℕ) (p : Bool → Bool) → t < at → filter (λ x. nat_eq x.at t && p x.live) more ≡ filter (λ x. nat_eq x.at t && p x.live) xs
  old_side t p h =
      let differs : at ≢ t = λ e. omega (arith, h, e) in
      passed t p
      ∙ rw (none_else t (λ x. p x.live) at true adds differs, none_else t (λ x. p x.live) at false removes differs) (append-nil (filter (λ x. nat_eq x.at t && p x.live) xs))

  new_side : (p : Bool → Bool) → map (λ x. x.tuple) (filter (λ x. nat_eq x.at at && p x.live) more) ≡ cond (p true) adds [] ++ cond (p false) removes []
  new_side p =
      ap (map (λ x. x.tuple)) (passed at p ∙ ap (λ ys. ys ++ (filter (λ x. nat_eq x.at at && p x.live) (side at true adds) ++ filter (λ x. nat_eq x.at at && p x.live) (side at false removes))) (none_before at (λ x. p x.live) xs early))
      ∙ map-append (λ x. x.tuple) (filter (λ x. nat_eq x.at at && p x.live) (side at true adds)) (filter (λ x. nat_eq x.at at && p x.live) (side at false removes))
      ∙ rw (side_kept at true p adds, side_kept at false p removes) refl

  old_commits : (ts : List ℕ) → ((i t : ℕ) → slice_get ts i ≡ Some t → t < at) → commits_of ts more ≡ commits_of ts xs
  old_commits [] h = refl
  old_commits (t ∷ ts) h =
      let first : t < at = h zero t refl in
      let same : commit_at more t ≡ commit_at xs t =
      λ j. record { at = t; adds = map (λ x. x.tuple) (old_side t (λ b. b) first j); removes = map (λ x. x.tuple) (old_side t not first j) } in
      rw (same, old_commits ts (λ i u e. h (suc i) u e)) refl

  pub commits_more : commits_of (times ++ at ∷ []) more ≡ commits_of times xs ++ commit ∷ []
  commits_more =
      map-append (commit_at more) times (at ∷ [])
      ∙ ap (λ cs. cs ++ commit_at more at ∷ []) (old_commits times below)
      ∙ ap (λ c. commits_of times xs ++ c ∷ []) (λ j. record { at = at; adds = (new_side (λ b. b) ∙ append-nil adds) j; removes = new_side not j })

  pub logged_more : changelog (commits_of (times ++ at ∷ []) more) ≡ more
  logged_more =
      ap changelog commits_more
      ∙ flat_map-append touches (commits_of times xs) (commit ∷ [])
      ∙ ap (λ ys. changelog (commits_of times xs) ++ ys) (append-nil (touches commit))
      ∙ ap (λ ys. ys ++ touches commit) logged
