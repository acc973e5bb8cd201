-- What waits for a commit is what is not settled, each once.
use Rattle.std.proofs.Common.{◌≡◌, ℕ, zero, suc, ◌+◌, ◌<◌, ◌≤◌, ◌||◌, Ordering, Bool, true, false, cond, leb, not, List, [], ◌∷◌, length, map, get_or, Some, None, refl, sym, ◌∙◌, ap, subst, arith}
use Rattle.std.specs.Prelude.{filter, slice_get, Contains}
use Rattle.std.specs.Cmp.{IsEquivalence, IsTotalOrder}
use Rattle.std.specs.List.{AllByRecursion, IsDistinct, list_any}
use Rattle.std.specs.List.Sorted.{IsStrictlySortedBy}
use Rattle.std.specs.Ordering.{eq_by_cmp, is_eq}
use Rattle.std.specs.declared.cmp.Ordering.TheVariants.{Less, Equal, Greater}
use Rattle.std.specs.Set.{is_member}
use Rattle.std.proofs.Math.Bool.{or-true}
use Rattle.std.proofs.lemmas.Bool.{true≢false, le-leb, leb-true}
use Rattle.std.proofs.lemmas.Cmp.{eq_by_cmp_equiv, nat_cmp_total, on_total, then_total}
use Rattle.std.proofs.lemmas.Map.Keys.{IsDistinct-cons, IsDistinct-from_sorted}
use Rattle.std.proofs.lemmas.Map.Made.{length-le_from_is_member}
use Rattle.std.proofs.lemmas.Map.Views.{Contains-from_any, list_any-from_Contains}
use Rattle.std.proofs.lemmas.Option.{slice_get_within}
use Rattle.version_chains.specs.Commits.{Commit}
use Rattle.trace_lines.specs.Values.{EntryValue, TraceValue}
use Rattle.windows.specs.Growth.{is_settled}
use Rattle.monitor.specs.Standing.{IsAtEnd, IsReached, Stands, open_entries}
use Rattle.monitor.specs.declared.monitor.Monitor.{Monitor}
use Rattle.monitor.proofs.WaitingLemmas.{exact_keys, key_cmp}

abbrev Key : Type 0
Key = ℕ × ℕ

abbrev same_key : Key → Key → Bool
same_key = eq_by_cmp key_cmp

order : IsTotalOrder key_cmp
order = then_total (on_total (λ (k : Key). k.0) nat_cmp_total) (on_total (λ (k : Key). k.1) nat_cmp_total)

laws : IsEquivalence same_key
laws = eq_by_cmp_equiv order

-- the keys of the entries from number i on that are not settled
abbrev open_keys : TraceValue → ℕ → List EntryValue → List Key
open_keys t i [] = []
open_keys t i (e ∷ es) = cond (not (is_settled t e)) ((e.snapshot, i) ∷ open_keys t (i + 1) es) (open_keys t (i + 1) es)

exact : (x y : Key) → same_key x y ≡ true → x ≡ y
exact x y h = by_order (key_cmp x y) refl h
  where
    by_order : (o : Ordering) → key_cmp x y ≡ o → is_eq o ≡ true → x ≡ y
    by_order Less is h = absurd (let no : false ≡ true = h in cc)
    by_order Equal is h = exact_keys x y is
    by_order Greater is h = absurd (let no : false ≡ true = h in cc)

apart : (s i : ℕ) (k : Key) → i < k.1 → same_key (s, i) k ≡ false
apart s i k lt = by_test (same_key (s, i) k) refl
  where
    by_test : (b : Bool) → same_key (s, i) k ≡ b → same_key (s, i) k ≡ false
    by_test false is = is
    by_test true is = let same = ap (λ (x : Key). x.1) (exact (s, i) k is) in absurd (omega (arith, same, lt))

-- their numbers rise
open_later : (t : TraceValue) (n i : ℕ) (es : List EntryValue) → n ≤ i → AllByRecursion (λ (k : Key). n ≤ k.1) (open_keys t i es)
open_later t n i [] le = tt
open_later t n i (e ∷ es) le = by_test (open_later t n (i + 1) es (omega (arith, le))) (is_settled t e)
  where
    by_test : AllByRecursion (λ (k : Key). n ≤ k.1) (open_keys t (i + 1) es) → (b : Bool)
        → AllByRecursion (λ (k : Key). n ≤ k.1) (cond (not b) ((e.snapshot, i) ∷ open_keys t (i + 1) es) (open_keys t (i + 1)
        es))
    by_test rest true = rest
    by_test rest false = (le, rest)

all_apart : (s i : ℕ) (ks : List Key) → AllByRecursion (λ (k : Key). i + 1 ≤ k.1) ks
    → AllByRecursion (λ (k : Key). same_key (s, i) k ≡ false) ks
all_apart s i [] h = tt
all_apart s i (k ∷ ks) h = let le = h.0 in (apart s i k (omega (arith, le)), all_apart s i ks h.1)

open_distinct : (t : TraceValue) (i : ℕ) (es : List EntryValue) → IsDistinct same_key (open_keys t i es)
unfolding IsDistinct
open_distinct t i [] = tt
open_distinct t i (e ∷ es) = by_test (open_distinct t (i + 1) es) (is_settled t e)
  where
    by_test : IsDistinct same_key (open_keys t (i + 1) es) → (b : Bool)
        → IsDistinct same_key (cond (not b) ((e.snapshot, i) ∷ open_keys t (i + 1) es) (open_keys t (i + 1) es))
    by_test rest true = rest
    by_test rest false = IsDistinct-cons same_key (e.snapshot, i) (open_keys t (i + 1) es) (all_apart e.snapshot i (open_keys t
        (i + 1) es) (open_later t (i + 1) (i + 1) es (omega arith))) rest

open_counted : (t : TraceValue) (i : ℕ) (es : List EntryValue)
    → length (open_keys t i es) ≡ length (filter (λ e. not (is_settled t e)) es)
open_counted t i [] = refl
open_counted t i (e ∷ es) = by_test (open_counted t (i + 1) es) (is_settled t e)
  where
    by_test : length (open_keys t (i + 1) es) ≡ length (filter (λ x. not (is_settled t x)) es) → (b : Bool)
        → length (cond (not b) ((e.snapshot, i) ∷ open_keys t (i + 1) es) (open_keys t (i + 1) es)) ≡ length (cond (not b) (e
        ∷ filter (λ x. not (is_settled t x)) es) (filter (λ x. not (is_settled t x)) es))
    by_test rest true = rest
    by_test rest false = ap suc rest

-- the key of an entry is among them where that is not settled
open_there : (t : TraceValue) (i j : ℕ) (es : List EntryValue) (e : EntryValue) → slice_get es j ≡ Some e
    → is_settled t e ≡ false → is_member same_key (open_keys t i es) (e.snapshot, i + j) ≡ true
open_there t i j [] e at unset = absurd (let wrong : None ≡ Some e = at in cc)
open_there t i zero (x ∷ es) e at unset =
    let same : x ≡ e = cc in
    let here : i + 0 ≡ i = omega arith in
    ap (λ (b : Bool). is_member same_key (cond (not b) ((x.snapshot, i) ∷ open_keys t (i + 1) es) (open_keys t (i + 1) es)) (
      e.snapshot,
      i + 0,
    )) (ap (is_settled t) same ∙ unset)
    ∙ ap (λ (f : EntryValue). is_member same_key ((f.snapshot, i) ∷ open_keys t (i + 1) es) (e.snapshot, i + 0)) same
    ∙ ap (λ (m : ℕ). is_member same_key ((e.snapshot, i) ∷ open_keys t (i + 1) es) (e.snapshot, m)) here
    ∙ ap (λ (b : Bool). b || is_member same_key (open_keys t (i + 1) es) (e.snapshot, i)) (laws.refl (e.snapshot, i))
open_there t i (suc j) (x ∷ es) e at unset = by_test (subst (λ (m : ℕ). is_member same_key (open_keys t (i + 1) es) (e.snapshot, m)
    ≡ true) (let n : i + 1 + j ≡ i + suc j = omega arith in n) (open_there t (i + 1) j es e at unset)) (is_settled t x)
  where
    by_test : is_member same_key (open_keys t (i + 1) es) (e.snapshot, i + suc j) ≡ true → (b : Bool)
        → is_member same_key (cond (not b) ((x.snapshot, i) ∷ open_keys t (i + 1) es) (open_keys t (i + 1) es)) (
          e.snapshot,
          i + suc
              j,
        ) ≡ true
    by_test rest true = rest
    by_test rest false = ap (λ (b : Bool). same_key (e.snapshot, i + suc j) (x.snapshot, i) || b) rest ∙ or-true (same_key (
      e.snapshot,
      i + suc j,
    ) (x.snapshot, i))

-- and a key among them is of such an entry
open_only : (t : TraceValue) (i : ℕ) (es : List EntryValue) (q : Key) → is_member same_key (open_keys t i es) q ≡ true
    → (j : ℕ) × (e : EntryValue) × (slice_get es j ≡ Some e) × (is_settled t e ≡ false) × (q ≡ (e.snapshot, i + j))
open_only t i [] q h = absurd (let wrong : false ≡ true = h in cc)
open_only t i (x ∷ es) q h = by_test (open_only t (i + 1) es q) (is_settled t x) refl h
  where
    Found : Type 0
    Found = (j : ℕ) × (e : EntryValue) × (slice_get (x ∷ es) j ≡ Some e) × (is_settled t e ≡ false)
        × (q ≡ (e.snapshot, i + j))

    later : (j : ℕ) × (e : EntryValue) × (slice_get es j ≡ Some e) × (is_settled t e ≡ false)
        × (q ≡ (e.snapshot, i + 1 + j)) → Found
    later (j, e, at, unset, same) = (
      suc j,
      e,
      at,
      unset,
      same ∙ ap (λ (m : ℕ). (e.snapshot, m)) (let n : i + 1 + j ≡ i + suc j = omega arith in n),
    )

    by_key : (is_member same_key (open_keys t (i + 1) es) q ≡ true → Found) → is_settled t x ≡ false → (b : Bool)
        → same_key q (x.snapshot, i) ≡ b → (b || is_member same_key (open_keys t (i + 1) es) q) ≡ true → Found
    by_key rest unset true is h = (
      0,
      x,
      refl,
      unset,
      exact q (x.snapshot, i) is ∙ ap (λ (m : ℕ). (x.snapshot, m)) (let n : i ≡ i + 0 = omega arith in n),
    )
    by_key rest unset false is h = rest h

    by_test : (is_member same_key (open_keys t (i + 1) es) q ≡ true → (j : ℕ) × (e : EntryValue) × (slice_get es j ≡ Some e)
        × (is_settled t e ≡ false) × (q ≡ (e.snapshot, i + 1 + j))) → (b : Bool) → is_settled t x ≡ b
        → is_member same_key (cond (not b) ((x.snapshot, i) ∷ open_keys t (i + 1) es) (open_keys t (i + 1) es)) q ≡ true
        → Found
    by_test rest true set h = later (rest h)
    by_test rest false unset h = by_key (λ g. later (rest g)) unset (same_key q (x.snapshot, i)) refl h

-- ---- what no commit reaches is not settled

any_place : (s : ℕ) (cs : List Commit) → list_any (λ (c : Commit). leb s c.at) cs ≡ true
    → (k : ℕ) × (k < length cs) × (s ≤ get_or (map (λ (c : Commit). c.at) cs) k 0)
any_place s [] h = absurd (let wrong : false ≡ true = h in cc)
any_place s (c ∷ cs) h = by_test (any_place s cs) (leb s c.at) refl h
  where
    by_test : (list_any (λ (d : Commit). leb s d.at) cs ≡ true → (k : ℕ) × (k < length cs) × (s ≤ get_or (map (λ (d : Commit).
        d.at) cs) k 0)) → (b : Bool) → leb s c.at ≡ b → (b || list_any (λ (d : Commit). leb s d.at) cs) ≡ true
        → (k : ℕ) × (k < suc (length cs)) × (s ≤ get_or (c.at ∷ map (λ (d : Commit). d.at) cs) k 0)
    by_test rest true is h = (0, omega arith, leb-true s c.at is)
    by_test rest false is h = let r = rest h in let lt = r.1 in (suc r.0, omega (arith, lt), r.2)

place_any : (s : ℕ) (cs : List Commit) (k : ℕ) → k < length cs → s ≤ get_or (map (λ (c : Commit). c.at) cs) k 0
    → list_any (λ (c : Commit). leb s c.at) cs ≡ true
place_any s [] k lt le = absurd (omega (arith, lt))
place_any s (c ∷ cs) zero lt le = ap (λ (b : Bool). b || list_any (λ (d : Commit). leb s d.at) cs) (le-leb s c.at le)
place_any s (c ∷ cs) (suc k) lt le = ap (λ (b : Bool). leb s c.at || b) (place_any s cs k (omega (arith, lt)) le)
    ∙ or-true (leb s c.at)

module _ (t : TraceValue) (m : Monitor) (stands : Stands t m) (end : IsAtEnd t m) where
  unreached : (e : EntryValue) → is_settled t e ≡ false → ¬ IsReached t m.commits e.snapshot
  unreached e unset (c, lt, le) =
      let all = end.commits in
      let yes = place_any e.snapshot t.commits c (omega (arith, lt, all)) le in
      true≢false (sym yes ∙ unset)

  unsettled : (e : EntryValue) → (¬ IsReached t m.commits e.snapshot) → (b : Bool) → is_settled t e ≡ b → is_settled t e ≡ false
  unsettled e never false is = is
  unsettled e never true is =
      let r = any_place e.snapshot t.commits is in
      let all = end.commits in
      let lt = r.1 in
      absurd (never (r.0, omega (arith, lt, all), r.2))

  abbrev waiting : List Key
  waiting = m.waiting.keys

  abbrev opened : List Key
  opened = open_keys t 0 t.entries

  -- numbers are counted from 0
  from_0 : (i : ℕ) → 0 + i ≡ i
  from_0 i = omega arith

  waits : (q : Key) → is_member same_key waiting q ≡ true → is_member same_key opened q ≡ true
  waits q h =
      let w = stands.waiting q.0 q.1 (Contains-from_any exact q waiting h) in
      let e = w.0 in
      let unset = unsettled e (subst (λ (s : ℕ). ¬ IsReached t m.commits s) (sym w.3) w.4) (is_settled t e) refl in
      subst (λ (k : Key). is_member same_key opened k ≡ true) (ap (λ (s : ℕ). (s, q.1)) w.3)
      (subst (λ (i : ℕ). is_member same_key opened (e.snapshot, i) ≡ true) (from_0 q.1) (open_there t 0 q.1 t.entries e w.1 unset))

  waited : (q : Key) → is_member same_key opened q ≡ true → is_member same_key waiting q ≡ true
  waited q h =
      let o = open_only t 0 t.entries q h in
      let within = slice_get_within t.entries o.0 o.1 o.2 in
      let all = end.entries in
      let key : Contains waiting (o.1.snapshot, o.0) = stands.waits o.0 o.1 o.2 (omega (arith, within, all)) (unreached o.1 o.3) in
      list_any-from_Contains laws q waiting (subst (Contains waiting) (sym (o.4 ∙ ap (λ (i : ℕ). (o.1.snapshot, i)) (from_0 o.0))) key)

  pub open_are_counted : IsStrictlySortedBy key_cmp waiting → length waiting ≡ length (open_entries t)
  open_are_counted sorted =
      let less = length-le_from_is_member laws waiting opened (IsDistinct-from_sorted key_cmp waiting sorted) waits in
      let more = length-le_from_is_member laws opened waiting (open_distinct t 0 t.entries) waited in
      let counted = open_counted t 0 t.entries in
      omega (arith, less, more, counted)
