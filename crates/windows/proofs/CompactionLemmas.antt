-- A changelog whose front is replaced stores the same from there on.
use Rattle.std.proofs.Common.{◌≡◌, ℕ, suc, ◌+◌, ◌<◌, ◌≤◌, Bool, true, false, cond, ltb, leb, List, [], ◌∷◌, ◌++◌, map, get_or, refl, sym, ◌∙◌, ap, subst, arith, ◌↔◌, IsTrue, append-nil, ◌||◌}
use Rattle.std.specs.Prelude.{filter, slice_index}
use Rattle.std.specs.List.{AllByRecursion, list_any}
use Rattle.std.proofs.Math.Bool.{or-true, or-false}
use Rattle.std.proofs.lemmas.Map.Views.{Contains-from_any, list_any-from_Contains}
use Rattle.tuple_text.specs.OrderLaws.{tuple_equiv}
use Rattle.tuple_text.proofs.ValueLemmas.{tuple_eq-same}
use Rattle.std.proofs.lemmas.Bool.{le-leb, lt-leb, lt-ltb, le-ltb, leb-true, leb-false}
use Rattle.std.proofs.lemmas.List.{get_or-map, length-map}
use Rattle.std.proofs.lemmas.List.Elements.{filter-append, recursion_from_All, All-from_recursion}
use Rattle.std.proofs.lemmas.List.Kept.{AllPairs-from_increasing}
use Rattle.std.proofs.lemmas.Grind.{flat_map-append}
use Rattle.tuple_text.specs.Tuples.{TupleValue}
use Rattle.tuple_text.specs.Order.{tuple_eq}
use Rattle.version_chains.specs.Commits.{Commit, Touch, touches, changelog, touches_to, until, last_live, is_stored, store_at}
use Rattle.version_chains.proofs.CommitLemmas.{side}
use Rattle.version_chains.proofs.StoreLemmas.{store_at-iff}
use Rattle.windows.specs.Alike.{AreSameTuples}
use Rattle.windows.proofs.Rising.{AreInOrder, order_kept}
use Rattle.windows.specs.Compaction.{AreRising, above, up_to, StandsFor, snapshot_commit}

-- ---- touches in two parts

last_live-append : (before : Bool) (xs ys : List Touch)
    → last_live before (xs ++ ys) ≡ last_live (last_live before xs) ys
last_live-append before [] ys = refl
last_live-append before (x ∷ xs) ys = last_live-append x.live xs ys

-- the last touch of t up to s, in the order of two changelogs
split_log : (s : ℕ) (t : TupleValue) (xs ys : List Touch)
    → last_live false (touches_to t (until s (xs ++ ys))) ≡ last_live (last_live false (touches_to t (until s xs)))
    (touches_to t (until s ys))
split_log s t xs ys =
    ap (λ zs. last_live false (touches_to t zs)) (filter-append (λ x. leb x.at s) xs ys)
    ∙ ap (λ zs. last_live false zs) (filter-append (λ x. tuple_eq x.tuple t) (until s xs) (until s ys))
    ∙ last_live-append false (touches_to t (until s xs)) (touches_to t (until s ys))

split_stored : (s : ℕ) (t : TupleValue) (old new : List Commit)
    → is_stored (old ++ new) s t ≡ last_live (is_stored old s t) (touches_to t (until s (changelog new)))
split_stored s t old new =
    ap (λ xs. last_live false (touches_to t (until s xs))) (flat_map-append touches old new)
    ∙ split_log s t (changelog old) (changelog new)

-- ---- touches up to a timestamp

abbrev pub IsUpTo : ℕ → Commit → Type 0
IsUpTo b c = c.at ≤ b

abbrev pub IsAbove : ℕ → Commit → Type 0
IsAbove b c = b < c.at

side_in : (at s : ℕ) (live : Bool) (ts : List TupleValue) → leb at s ≡ true
    → until s (side at live ts) ≡ side at live ts
side_in at s live [] h = refl
side_in at s live (t ∷ ts) h = rw h (ap (λ (xs : List Touch). record { at = at; live = live; tuple = t } ∷ xs) (side_in
    at s live ts h))

side_out : (at s : ℕ) (live : Bool) (ts : List TupleValue) → leb at s ≡ false → until s (side at live ts) ≡ []
side_out at s live [] h = refl
side_out at s live (t ∷ ts) h = rw h (side_out at s live ts h)

touches_in : (c : Commit) (s : ℕ) → c.at ≤ s → until s (touches c) ≡ touches c
touches_in c s h =
    let e = le-leb c.at s h in
    filter-append (λ x. leb x.at s) (side c.at true c.adds) (side c.at false c.removes)
    ∙ ap (λ xs. xs ++ until s (side c.at false c.removes)) (side_in c.at s true c.adds e)
    ∙ ap (λ xs. side c.at true c.adds ++ xs) (side_in c.at s false c.removes e)

touches_out : (c : Commit) (s : ℕ) → s < c.at → until s (touches c) ≡ []
touches_out c s h =
    let e = lt-leb c.at s h in
    filter-append (λ x. leb x.at s) (side c.at true c.adds) (side c.at false c.removes)
    ∙ ap (λ xs. xs ++ until s (side c.at false c.removes)) (side_out c.at s true c.adds e)
    ∙ side_out c.at s false c.removes e

log_in : (s : ℕ) (cs : List Commit) → AllByRecursion (IsUpTo s) cs → until s (changelog cs) ≡ changelog cs
log_in s [] h = refl
log_in s (c ∷ cs) h =
    filter-append (λ x. leb x.at s) (touches c) (changelog cs)
    ∙ ap (λ xs. xs ++ until s (changelog cs)) (touches_in c s h.0)
    ∙ ap (λ xs. touches c ++ xs) (log_in s cs h.1)

pub log_out : (s : ℕ) (cs : List Commit) → AllByRecursion (IsAbove s) cs → until s (changelog cs) ≡ []
log_out s [] h = refl
log_out s (c ∷ cs) h =
    filter-append (λ x. leb x.at s) (touches c) (changelog cs)
    ∙ ap (λ xs. xs ++ until s (changelog cs)) (touches_out c s h.0)
    ∙ log_out s cs h.1

up_to_later : (b s : ℕ) (cs : List Commit) → b ≤ s → AllByRecursion (IsUpTo b) cs → AllByRecursion (IsUpTo s) cs
up_to_later b s [] le h = tt
up_to_later b s (c ∷ cs) le h = let first = h.0 in (omega (arith, le, first), up_to_later b s cs le h.1)

-- what is stored of commits up to b is stored at each later timestamp
settled : (b s : ℕ) (t : TupleValue) (cs : List Commit) → b ≤ s → AllByRecursion (IsUpTo b) cs
    → is_stored cs s t ≡ is_stored cs b t
settled b s t cs le h = ap (λ xs. last_live false (touches_to t xs)) (log_in s cs (up_to_later b s cs le h)
    ∙ sym (log_in b cs h))

-- commits above b do not touch what is stored there
untouched : (b : ℕ) (t : TupleValue) (old new : List Commit) → AllByRecursion (IsAbove b) new
    → is_stored (old ++ new) b t ≡ is_stored old b t
untouched b t old new h = split_stored b t old new
    ∙ ap (λ xs. last_live (is_stored old b t) (touches_to t xs)) (log_out b new h)

-- ---- rising commits, cut at a timestamp

pub all_filtered : {X : Type 0} (p : X → Bool) (P : X → Type 0) → ((x : X) → p x ≡ true → P x) → (xs : List X)
    → AllByRecursion P (filter p xs)
all_filtered p P h [] = tt
all_filtered {X} p P h (x ∷ xs) = by_test (all_filtered p P h xs) (p x) refl
  where
    by_test : AllByRecursion P (filter p xs) → (b : Bool) → p x ≡ b
        → AllByRecursion P (cond b (x ∷ filter p xs) (filter p xs))
    by_test rest true e = (h x e, rest)
    by_test rest false e = rest

pub all_above : (b : ℕ) (cs : List Commit) → AllByRecursion (IsAbove b) (above b cs)
all_above b cs = all_filtered (λ c. ltb b c.at) (IsAbove b) (λ c e. leb-true (suc b) c.at e) cs

all_below : (b : ℕ) (cs : List Commit) → AllByRecursion (IsUpTo b) (up_to b cs)
all_below b cs = all_filtered (λ c. leb c.at b) (IsUpTo b) (λ c e. leb-true c.at b e) cs

-- each commit is before all later ones
abbrev pub AreOrdered : List Commit → Type 0
AreOrdered = AreInOrder (λ (c : Commit). c.at)

rising_tail : (c : Commit) (cs : List Commit) → AreRising (c ∷ cs) → AreRising cs
rising_tail c cs h = λ k lt.
    let e : suc k + 1 ≡ suc (k + 1) = omega arith in
    subst (λ (m : ℕ). slice_index (map (λ (x : Commit). x.at) (c ∷ cs)) (suc k) < slice_index (map (λ (x : Commit).
    x.at) (c ∷ cs)) m) e (h (suc k) (omega (arith, lt)))

pub ordered : (cs : List Commit) → AreRising cs → AreOrdered cs
ordered [] h = tt
ordered (c ∷ cs) h = (
  recursion_from_All (IsAbove c.at) cs (λ k d lt.
      let up = AllPairs-from_increasing (map (λ (x : Commit). x.at) (c ∷ cs)) h 0 (suc k) 0 (omega arith) (omega
      (arith, lt, length-map cs (λ (x : Commit). x.at))) in
      let e : get_or (map (λ (x : Commit). x.at) cs) k 0 ≡ (get_or cs k d).at = get_or-map (λ (x : Commit). x.at) cs k
      d 0 lt in
      omega (arith, up, e)),
  ordered cs (rising_tail c cs h),
)

none_below : (b : ℕ) (cs : List Commit) → AllByRecursion (IsAbove b) cs → up_to b cs ≡ []
none_below b [] h = refl
none_below b (c ∷ cs) h = rw (lt-leb c.at b h.0) (none_below b cs h.1)

pub whole_above : (b : ℕ) (cs : List Commit) → AllByRecursion (IsAbove b) cs → above b cs ≡ cs
whole_above b [] h = refl
whole_above b (c ∷ cs) h = rw (lt-ltb b c.at h.0) (ap (λ (ds : List Commit). c ∷ ds) (whole_above b cs h.1))

above_later : (b a : ℕ) (cs : List Commit) → b < a → AllByRecursion (IsAbove a) cs → AllByRecursion (IsAbove b) cs
above_later b a [] lt h = tt
above_later b a (c ∷ cs) lt h = let first = h.0 in (omega (arith, lt, first), above_later b a cs lt h.1)

pub cut : (b : ℕ) (cs : List Commit) → AreOrdered cs → up_to b cs ++ above b cs ≡ cs
cut b [] h = refl
cut b (c ∷ cs) h = by_test (cut b cs h.1) (leb c.at b) refl
  where
    by_test : up_to b cs ++ above b cs ≡ cs → (x : Bool) → leb c.at b ≡ x
        → up_to b (c ∷ cs) ++ above b (c ∷ cs) ≡ c ∷ cs
    by_test halves true e = rw (e, le-ltb b c.at (leb-true c.at b e)) (ap (λ (ds : List Commit). c ∷ ds) halves)
    by_test halves false e =
        let lt : b < c.at = leb-false c.at b e in
        let rest = above_later b c.at cs lt h.0 in
        rw (e, lt-ltb b c.at lt, none_below b cs rest, whole_above b cs rest) refl

-- ---- the law

same_test : (a b : Bool) → (IsTrue a ↔ IsTrue b) → a ≡ b
same_test true b h = sym (h.0 refl)
same_test false true h = h.1 refl
same_test false false h = refl

-- tests of the same stored tuples give the same
tests_alike : (old new : List Commit) (s r : ℕ) → AreSameTuples (store_at old s) (store_at new r) → (t : TupleValue)
    → is_stored old s t ≡ is_stored new r t
tests_alike old new s r same t =
    let a = store_at-iff old s t in
    let b = store_at-iff new r t in
    same_test (is_stored old s t) (is_stored new r t) (λ h. b.0 ((same t).0 (a.1 h)), λ h. a.0 ((same t).1 (b.1 h)))

pub stored_alike : (old new : List Commit) (s r : ℕ) → ((t : TupleValue) → is_stored old s t ≡ is_stored new r t)
    → AreSameTuples (store_at old s) (store_at new r)
stored_alike old new s r same t =
    let a = store_at-iff old s t in
    let b = store_at-iff new r t in
    (λ h. b.1 (subst IsTrue (same t) (a.0 h)), λ h. a.1 (subst IsTrue (sym (same t)) (b.0 h)))

module _ (commits : List Commit) (b : ℕ) (order : AreOrdered commits) where
  halves : up_to b commits ++ above b commits ≡ commits
  halves = cut b commits order

  stored_below : (t : TupleValue) → is_stored commits b t ≡ is_stored (up_to b commits) b t
  stored_below t = ap (λ (cs : List Commit). is_stored cs b t) (sym halves)
      ∙ untouched b t (up_to b commits) (above b commits) (all_above b commits)

  stored_later : (s : ℕ) → b ≤ s → (t : TupleValue)
      → is_stored commits s t ≡ last_live (is_stored commits b t) (touches_to t (until s (changelog (above b commits))))
  stored_later s le t =
      ap (λ (cs : List Commit). is_stored cs s t) (sym halves)
      ∙ split_stored s t (up_to b commits) (above b commits)
      ∙ ap (λ (x : Bool). last_live x (touches_to t (until s (changelog (above b commits))))) (settled b s t (up_to b
      commits) le (all_below b commits) ∙ sym (stored_below t))

  compacted : (front : List Commit) → StandsFor front b commits → (s : ℕ) → b ≤ s
      → AreSameTuples (store_at (front ++ above b commits) s) (store_at commits s)
  compacted front stands s le =
      stored_alike (front ++ above b commits) commits s s (λ t.
      split_stored s t front (above b commits)
      ∙ ap (λ (x : Bool). last_live x (touches_to t (until s (changelog (above b commits)))))
      (settled b s t front le (recursion_from_All (IsUpTo b) front stands.none_above)
      ∙ tests_alike front commits b b stands.stored t)
      ∙ sym (stored_later s le t))

-- ---- with an end

all_later : (s h : ℕ) (cs : List Commit) → s ≤ h → AllByRecursion (IsAbove h) cs → AllByRecursion (IsAbove s) cs
all_later s h [] le a = tt
all_later s h (c ∷ cs) le a = let first = a.0 in (omega (arith, le, first), all_later s h cs le a.1)

-- what is stored up to an end is stored without the commits above it
ended : (h s : ℕ) (t : TupleValue) (commits : List Commit) → AreOrdered commits → s ≤ h
    → is_stored commits s t ≡ is_stored (up_to h commits) s t
ended h s t commits order le =
    ap (λ (cs : List Commit). is_stored cs s t) (sym (cut h commits order))
    ∙ untouched s t (up_to h commits) (above h commits) (all_later s h (above h commits) le (all_above h commits))

pub compacted_law : (commits : List Commit) (b h : ℕ) → AreRising commits → (front : List Commit)
    → StandsFor front b commits
    → (s : ℕ) → b ≤ s → s ≤ h → AreSameTuples (store_at (front ++ above b (up_to h commits)) s) (store_at commits s)
compacted_law commits b h rising front stands s from to =
    let order = ordered commits rising in
    let there : StandsFor front b (up_to h commits) = record {
      none_above = stands.none_above;
      stored = stored_alike front (up_to h commits) b b (λ t. tests_alike front commits b b stands.stored t
          ∙ ended h b t commits order (omega (arith, from, to)));
    } in
    let cutting = compacted (up_to h commits) b (order_kept (λ (c : Commit). c.at) (λ c. leb c.at h) commits order) front there s from in
    stored_alike (front ++ above b (up_to h commits)) commits s s (λ t.
    tests_alike (front ++ above b (up_to h commits)) (up_to h commits) s s cutting t
    ∙ sym (ended h s t commits order to))

-- ---- one commit that adds what is stored

last_of_side : (at : ℕ) (t : TupleValue) (ts : List TupleValue) (before : Bool)
    → last_live before (touches_to t (side at true ts)) ≡ (before || list_any (tuple_eq t) ts)
last_of_side at t [] before = sym (or-false before)
last_of_side at t (x ∷ xs) before = by_test (λ b. last_of_side at t xs b) (tuple_eq x t) refl
  where
    by_test : ((b : Bool) → last_live b (touches_to t (side at true xs)) ≡ (b || list_any (tuple_eq t) xs)) → (y : Bool)
        → tuple_eq x t ≡ y
        → last_live before (touches_to t (side at true (x ∷ xs))) ≡ (before || (tuple_eq t x || list_any (tuple_eq t)
        xs))
    by_test rest true e = rw (e, tuple_equiv.symm t x ∙ e) (rest true ∙ sym (or-true before))
    by_test rest false e = rw (e, tuple_equiv.symm t x ∙ e) (rest before)

pub snapshot_law : (commits : List Commit) (b : ℕ) (ts : List TupleValue) → AreSameTuples ts (store_at commits b)
    → StandsFor (snapshot_commit b ts ∷ []) b commits
snapshot_law commits b ts same = record {
  none_above = All-from_recursion (IsUpTo b) (snapshot_commit b ts ∷ []) (omega arith, tt);
  stored = λ t.
      let one = store_at-iff (snapshot_commit b ts ∷ []) b t in
      let test : is_stored (snapshot_commit b ts ∷ []) b t ≡ list_any (tuple_eq t) ts =
      ap (λ xs. last_live false (touches_to t xs)) (log_in b (snapshot_commit b ts ∷ []) (omega arith, tt)
      ∙ append-nil (side b true ts ++ []) ∙ append-nil (side b true ts))
      ∙ last_of_side b t ts false in (
        λ h. (same t).0 (Contains-from_any tuple_eq-same t ts (sym test ∙ one.0 h)),
        λ h. one.1 (test
            ∙ list_any-from_Contains tuple_equiv t ts ((same t).1 h)),
      );
}
