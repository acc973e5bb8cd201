-- Each step keeps the rule of a lane.
use Rattle.std.proofs.Common.{◌≡◌, ◌≢◌, ◌⊎◌, ℕ, zero, suc, ◌+◌, ◌<◌, ◌≤◌, ◌==◌, true, false, true≢false, List, [], ◌∷◌, ◌++◌, length, set, sym, refl, ap, ◌∙◌, subst, inl, inr, ⊎_elim, append_assoc, append-nil, eq-eqb, ne_eqb, arith, length-append}
use Rattle.std.specs.Prelude.{if◌then◌else◌, slice_index_or, Contains}
use Rattle.std.proofs.Math.ListN.{length-set}
use mathlib.Core.Option.{some, some-ne-none, some-injective}
use lib.ListN.{get_elem?}
use Rattle.crossbeam_deque.specs.Tasks.{Pushes, Takes, Finds, Forks, Merges}
use Rattle.crossbeam_deque.proofs.Lists.{at_set}
use Rattle.slice_yard.specs.declared.slices.Slice.{Slice}
use Rattle.slice_yard.specs.declared.rule.Hand.{Hand}
use Rattle.slice_yard.specs.Hands.{Entry, slices, of, SeatsBelow, owner_hand, spent_hand, opened, took, handed_rest, one_more, thief_hand, with_list, AllOneOf, FitsSeat, IsHeld, IsShared, HasAll}

-- the history of one seat that is handed these
tags : ℕ → List Slice → List Entry
tags seat [] = []
tags seat (x ∷ xs) = (seat, x) ∷ tags seat xs

slices-append : (a b : List Entry) → slices (a ++ b) ≡ slices a ++ slices b
slices-append [] b = refl
slices-append (e ∷ a) b = ap (λ l. e.1 ∷ l) (slices-append a b)

slices-tags : (seat : ℕ) (xs : List Slice) → slices (tags seat xs) ≡ xs
unfolding tags
slices-tags seat [] = refl
slices-tags seat (x ∷ xs) = ap (λ l. x ∷ l) (slices-tags seat xs)

of-append : (seat : ℕ) (a b : List Entry) → of seat (a ++ b) ≡ of seat a ++ of seat b
of-append seat [] b = refl
of-append seat (e ∷ a) b = elim (e.0 == seat) as (λ t. (if t then e.1 ∷ of seat (a ++ b) else of seat (a ++ b)) ≡ (if t then e.1 ∷ of seat a else of seat a) ++ of seat b)
    [ true ↦ ap (λ l. e.1 ∷ l) (of-append seat a b) | false ↦ of-append seat a b ]

of-tags : (seat : ℕ) (xs : List Slice) → of seat (tags seat xs) ≡ xs
unfolding tags
of-tags seat [] = refl
of-tags seat (x ∷ xs) = rw (eq-eqb seat seat refl) (ap (λ l. x ∷ l) (of-tags seat xs))

of-tags_other : (seat other : ℕ) (xs : List Slice) → other ≢ seat → of seat (tags other xs) ≡ []
unfolding tags
of-tags_other seat other [] n = refl
of-tags_other seat other (x ∷ xs) n = rw (ne_eqb other seat n) (of-tags_other seat other xs n)

below-append : (n : ℕ) (a b : List Entry) → SeatsBelow n a → SeatsBelow n b → SeatsBelow n (a ++ b)
below-append n [] b p q = q
below-append n (e ∷ a) b p q = (p.0, below-append n a b p.1 q)

below-tags : (n seat : ℕ) (xs : List Slice) → seat < n → SeatsBelow n (tags seat xs)
unfolding tags
below-tags n seat [] h = tt
below-tags n seat (x ∷ xs) h = (h, below-tags n seat xs h)

below-more : (n m : ℕ) (a : List Entry) → n ≤ m → SeatsBelow n a → SeatsBelow m a
below-more n m [] h p = tt
below-more n m (e ∷ a) h p = (omega arith, below-more n m a h p.1)

of-above : (n seat : ℕ) (a : List Entry) → n ≤ seat → SeatsBelow n a → of seat a ≡ []
of-above n seat [] h p = refl
of-above n seat (e ∷ a) h p = let apart : e.0 ≢ seat = λ is. omega arith in rw (ne_eqb e.0 seat apart) (of-above n seat a h p.1)

of-alone : (a : List Entry) → SeatsBelow 1 a → of 0 a ≡ slices a
of-alone [] p = refl
of-alone (e ∷ a) p = let is : e.0 ≡ 0 = omega arith in rw (eq-eqb e.0 0 is) (ap (λ l. e.1 ∷ l) (of-alone a p.1))

-- a view stands below the number of passes
below_views : {V : Type 0} (views : List V) (port : ℕ) (v : V) → get_elem? views port ≡ some v → port < length views
below_views [] port v e = absurd (some-ne-none v (sym e))
below_views (x ∷ xs) zero v e = omega arith
below_views (x ∷ xs) (suc port) v e = let h = below_views xs port v e in omega arith

snoc_cases : {V : Type 0} (l : List V) (a b : V) (j : ℕ) → get_elem? (l ++ a ∷ []) j ≡ some b → (get_elem? l j ≡ some b) ⊎ ((j ≡ length l) × (a ≡ b))
snoc_cases [] a b zero e = inr (refl, some-injective a b e)
snoc_cases [] a b (suc j) e = absurd (some-ne-none b (sym e))
snoc_cases (x ∷ xs) a b zero e = inl e
snoc_cases (x ∷ xs) a b (suc j) e = ⊎_elim (λ t. inl t) (λ t. inr (ap suc t.0, t.1)) (snoc_cases xs a b j e)

at_snoc_below : {V : Type 0} (l : List V) (a d : V) (k : ℕ) → k < length l → slice_index_or (l ++ a ∷ []) k d ≡ slice_index_or l k d
at_snoc_below [] a d k h = absurd (omega arith)
at_snoc_below (x ∷ xs) a d zero h = refl
at_snoc_below (x ∷ xs) a d (suc k) h = at_snoc_below xs a d k (omega arith)

at_snoc_end : {V : Type 0} (l : List V) (a d : V) (k : ℕ) → k ≡ length l → slice_index_or (l ++ a ∷ []) k d ≡ a
at_snoc_end [] a d zero h = refl
at_snoc_end [] a d (suc k) h = absurd (omega arith)
at_snoc_end (x ∷ xs) a d zero h = absurd (omega arith)
at_snoc_end (x ∷ xs) a d (suc k) h = at_snoc_end xs a d k (omega arith)

abbrev Each : (ℕ → Hand → Type 0) → List Hand → Type 0
Each F views = (port : ℕ) (v : Hand) → get_elem? views port ≡ some v → F port v

each_set : (F : ℕ → Hand → Type 0) (views : List Hand) (port : ℕ) (w : Hand) → F port w → ((j : ℕ) (u : Hand) → j ≢ port → get_elem? views j ≡ some u → F j u) → Each F (set views port w)
each_set F views port w mine others j u e = ⊎_elim (λ (x : (j ≡ port) × (w ≡ u)). subst (λ (y : ℕ × Hand). F y.0 y.1) (λ i. (sym x.0 i, x.1 i)) mine)
    (λ (x : (j ≢ port) × (get_elem? views j ≡ some u)). others j u x.0 x.1) (at_set views port j w u e)

-- a live pass fits the history
abbrev Fit : List Entry → List Slice → List (List Slice) → List Slice → ℕ → ℕ → Hand → Type 0
Fit log all lists last seats port v = v.live ≡ true → FitsSeat log all lists last seats port v

contains_at : (before after : List Slice) (x : Slice) → Contains (before ++ (x ∷ after)) x
contains_at [] after x = (0, omega arith, refl)
contains_at (y ∷ before) after x = let c = contains_at before after x in let k : c.0 < length (before ++ (x ∷ after)) = c.1 in (suc c.0, omega arith, c.2)

all_one_of : (whole before xs after : List Slice) → before ++ (xs ++ after) ≡ whole → AllOneOf whole xs
all_one_of whole before [] after e = tt
all_one_of whole before (x ∷ xs) after e = (subst (λ l. Contains l x) e (contains_at before (xs ++ after) x), all_one_of whole (before ++ x ∷ []) xs after (append_assoc before (x ∷ []) (xs ++ after) ∙ e))

pub begins : IsHeld [] (owner_hand ∷ [])
begins = record {
  log = [];
  opening = [];
  closed = [];
  rest = [];
  whole = refl;
  seated = tt;
  closed_seats = omega arith;
  closed_lists = λ k h. absurd (omega arith);
  fits = each_set (Fit [] [] [] [] 1) (owner_hand ∷ []) 0 owner_hand
      (λ live. record { seat = refl; opening = refl; handed = refl; thief = λ e. absurd (omega arith); owner = λ p. (refl, refl, refl, refl) })
      (λ j u apart e. let h = below_views (owner_hand ∷ []) j u e in absurd (apart (omega arith)));
}

pub opens : (port : ℕ) (v : Hand) (xs : List Slice) → v.live ≡ true → v.seats ≡ 1 → Pushes IsHeld port v xs (λ w. w ≡ opened v xs)
opens port v xs live alone items views h at =
    let f = h.fits port v at live in
    let o = f.owner (omega arith) in
    let w : Hand = opened v xs in
    let n : length (set views port w) ≡ length views = length-set views port w in
    let one : length views ≡ 1 = sym o.1 ∙ alone in (
      w,
      record {
        log = h.log;
        opening = h.opening ++ xs;
        closed = h.closed;
        rest = h.rest;
        whole = sym (append_assoc (slices h.log ++ h.rest) items xs) ∙ ap (λ l. l ++ xs) h.whole;
        seated = rw n h.seated;
        closed_seats = rw n h.closed_seats;
        closed_lists = h.closed_lists;
        fits = rw n (each_set (Fit h.log (h.opening ++ xs) h.closed h.rest (length views)) views port w
            (λ _. record { seat = f.seat; opening = ap (λ l. l ++ xs) f.opening; handed = f.handed; thief = f.thief; owner = f.owner })
            (λ j u apart e. let b = below_views views j u e in let z = o.0 in absurd (apart (omega arith))));
      },
      refl,
    )

keeps_take : (port : ℕ) (v : Hand) (xs items : List Slice) (views : List Hand) → v.live ≡ true → (h : IsHeld (xs ++ items) views) → get_elem? views port ≡ some v
    → h.rest ≡ [] → ((k : ℕ) → k < length h.closed → port ≢ suc k) → IsHeld items (set views port (took v xs))
keeps_take port v xs items views live h at none free =
    let f = h.fits port v at live in
    let w : Hand = took v xs in
    let new : List Entry = tags port xs in
    let log : List Entry = h.log ++ new in
    let n : length (set views port w) ≡ length views = length-set views port w in
    let b : port < length views = below_views views port v at in
    let others : (j : ℕ) → port ≢ j → of j log ≡ of j h.log = λ j apart. of-append j h.log new ∙ ap (λ l. of j h.log ++ l) (of-tags_other j port xs apart) ∙ append-nil (of j h.log) in
    record {
      log = log;
      opening = h.opening;
      closed = h.closed;
      rest = h.rest;
      whole =
          let s : slices log ≡ slices h.log ++ xs = slices-append h.log new ∙ ap (λ l. slices h.log ++ l) (slices-tags port xs) in
          let before : (slices h.log ++ h.rest) ++ (xs ++ items) ≡ h.opening = h.whole in
          let flat : slices h.log ++ (xs ++ items) ≡ h.opening = simp (none, append-nil) at before in
          simp (s, none, append-nil, append_assoc) flat;
      seated = rw n (below-append (length views) h.log new h.seated (below-tags (length views) port xs b));
      closed_seats = rw n h.closed_seats;
      closed_lists = λ k lt. h.closed_lists k lt ∙ sym (others (suc k) (free k lt));
      fits = rw n (each_set (Fit log h.opening h.closed h.rest (length views)) views port w
          (λ _. record {
            seat = f.seat;
            opening = f.opening;
            handed = ap (λ l. l ++ xs) f.handed ∙ ap (λ l. of port h.log ++ l) (sym (of-tags port xs)) ∙ sym (of-append port h.log new);
            thief = f.thief;
            owner = f.owner;
          })
          (λ j u apart e alive. let g = h.fits j u e alive in record {
            seat = g.seat;
            opening = g.opening;
            handed = g.handed ∙ sym (others j (λ is. apart (sym is)));
            thief = g.thief;
            owner = g.owner;
          }));
    }

tells : (v : Hand) (xs items : List Slice) (views : List Hand) (h : IsHeld (xs ++ items) views) → v.opening ≡ h.opening → AllOneOf v.opening xs
tells v xs items views h is = all_one_of v.opening (slices h.log ++ h.rest) xs items (h.whole ∙ sym is)

by_seat : (seats port : ℕ) (v : Hand) (log : List Entry) (all : List Slice) (lists : List (List Slice)) (last : List Slice) (s : ℕ) → v.seats ≡ s → v.rest ≡ [] → FitsSeat log all lists last seats port v
    → (last ≡ []) × ((k : ℕ) → k < length lists → port ≢ suc k)
by_seat seats port v log all lists last zero e none f = let t = f.thief e in (t.1, λ k lt is. let p = t.0 in absurd (omega arith))
by_seat seats port v log all lists last (suc s) e none f = let o = f.owner (omega arith) in (sym o.3 ∙ none, λ k lt is. let p = o.0 in absurd (omega arith))

pub takes : (port : ℕ) (v : Hand) → v.live ≡ true → v.rest ≡ [] → Takes IsHeld port v 1 (λ xs w. (w ≡ took v xs) × AllOneOf v.opening xs)
takes port v live none xs items views _ _ h at =
    let f = h.fits port v at live in
    let parts = by_seat (length views) port v h.log h.opening h.closed h.rest v.seats refl none f in
    (took v xs, keeps_take port v xs items views live h at parts.0 parts.1, (refl, tells v xs items views h f.opening))

pub drains : (port : ℕ) (v : Hand) → v.live ≡ true → v.seats ≡ length v.closed + 1 → Takes IsHeld port v 1 (λ xs w. (w ≡ handed_rest v xs) × AllOneOf v.opening xs)
drains port v live all xs items views _ _ h at =
    let f = h.fits port v at live in
    let o = f.owner (omega arith) in
    let w : Hand = handed_rest v xs in
    let n : length (set views port w) ≡ length views = length-set views port w in
    let last : List Slice = h.rest ++ xs in
    let lists : length v.closed ≡ length h.closed = ap length o.2 in (
      w,
      record {
        log = h.log;
        opening = h.opening;
        closed = h.closed;
        rest = last;
        whole = let before : (slices h.log ++ h.rest) ++ (xs ++ items) ≡ h.opening = h.whole in
            let flat : slices h.log ++ (h.rest ++ (xs ++ items)) ≡ h.opening = simp append_assoc at before in simp append_assoc flat;
        seated = rw n h.seated;
        closed_seats = rw n h.closed_seats;
        closed_lists = h.closed_lists;
        fits = rw n (each_set (Fit h.log h.opening h.closed last (length views)) views port w
            (λ _. record { seat = f.seat; opening = f.opening; handed = f.handed; thief = λ e. absurd (omega arith); owner = λ p. (o.0, o.1, o.2, ap (λ l. l ++ xs) o.3) })
            (λ j u apart e alive. let g = h.fits j u e alive in let b = below_views views j u e in record {
              seat = g.seat;
              opening = g.opening;
              handed = g.handed;
              thief = λ z. let t = (g.thief z).0 in absurd (omega arith);
              owner = λ p. let z = (g.owner p).0 in let y = o.0 in absurd (apart (omega arith));
            }));
      },
      (refl, tells v xs items views h f.opening),
    )

pub seats : (port : ℕ) (v : Hand) → v.live ≡ true → 0 < v.seats → v.rest ≡ [] → Forks IsHeld port v (one_more v) (thief_hand v)
seats port v live owns none items views h at =
    let f = h.fits port v at live in
    let o = f.owner owns in
    let left : Hand = one_more v in
    let right : Hand = thief_hand v in
    let vs : List Hand = set views port left in
    let n : length vs ≡ length views = length-set views port left in
    let m : length (vs ++ right ∷ []) ≡ length views + 1 = length-append vs (right ∷ []) ∙ ap (λ k. k + 1) n in
    let count : ℕ = length views + 1 in
    let closed : length h.closed < length views = h.closed_seats in
    let old : Each (Fit h.log h.opening h.closed h.rest count) vs = each_set (Fit h.log h.opening h.closed h.rest count) views port left
    (λ _. record { seat = f.seat; opening = f.opening; handed = f.handed; thief = λ e. absurd (omega arith); owner = λ p. (o.0, ap (λ k. k + 1) o.1, o.2, o.3) })
    (λ j u apart e alive. let g = h.fits j u e alive in record {
      seat = g.seat;
      opening = g.opening;
      handed = g.handed;
      thief = g.thief;
      owner = λ p. let z = (g.owner p).0 in let y = o.0 in absurd (apart (omega arith));
    }) in
    let new : FitsSeat h.log h.opening h.closed h.rest count (length views) right = record {
      seat = o.1;
      opening = f.opening;
      handed = sym (of-above (length views) (length views) h.log (omega arith) h.seated);
      thief = λ e. (closed, sym o.3 ∙ none);
      owner = λ p. absurd (omega arith);
    } in
    record {
      log = h.log;
      opening = h.opening;
      closed = h.closed;
      rest = h.rest;
      whole = h.whole;
      seated = rw m (below-more (length views) count h.log (omega arith) h.seated);
      closed_seats = rw m (omega arith);
      closed_lists = h.closed_lists;
      fits = rw m (λ j u e. ⊎_elim (λ x. old j u x)
          (λ (x : (j ≡ length vs) × (right ≡ u)). subst (λ (y : ℕ × Hand). Fit h.log h.opening h.closed h.rest count y.0 y.1) (λ i. (sym (x.0 ∙ n) i, x.1 i)) (λ _. new)) (snoc_cases vs right u j e));
    }

below_or_end : (k n : ℕ) → k < n + 1 → (k < n) ⊎ (k ≡ n)
below_or_end zero zero h = inr refl
below_or_end zero (suc n) h = inl (omega arith)
below_or_end (suc k) zero h = absurd (omega arith)
below_or_end (suc k) (suc n) h = ⊎_elim (λ (x : k < n). inl (omega arith)) (λ (x : k ≡ n). inr (ap suc x)) (below_or_end k n (omega arith))

-- after a pass was joined: its list is known, and its seat is no live pass's
pub merges : (port : ℕ) (v : Hand) (other : ℕ) (u : Hand) → v.live ≡ true → 0 < v.seats → v.rest ≡ [] → u.live ≡ true → u.seat ≡ length v.closed + 1
    → Merges IsHeld port v other u (with_list v u) spent_hand
merges port v other u live owns none alive next items views h at two at' =
    let f = h.fits port v at live in
    let o = f.owner owns in
    let both : Hand = with_list v u in
    let vs : List Hand = set views port both in
    let n : length vs ≡ length views = length-set views port both in
    let m : length (set vs other spent_hand) ≡ length views = length-set vs other spent_hand ∙ n in
    let was : get_elem? views other ≡ some u = ⊎_elim (λ x. absurd (two x.0)) (λ x. x.1) (at_set views port other both u at') in
    let g = h.fits other u was alive in
    let lists : length v.closed ≡ length h.closed = ap length o.2 in
    let is : other ≡ length h.closed + 1 = sym g.seat ∙ next ∙ ap (λ k. k + 1) lists in
    let here : other < length views = below_views views other u was in
    let closed : List (List Slice) = h.closed ++ u.handed ∷ [] in
    let longer : length closed ≡ length h.closed + 1 = length-append h.closed (u.handed ∷ []) in
    let Now : ℕ → Hand → Type 0 = λ j y. j ≢ other → Fit h.log h.opening closed h.rest (length views) j y in
    let now : Each Now vs = each_set Now views port both
    (λ _ _. record {
      seat = f.seat;
      opening = f.opening;
      handed = f.handed;
      thief = λ e. absurd (omega arith);
      owner = λ p. (o.0, o.1, ap (λ l. l ++ u.handed ∷ []) o.2, o.3);
    })
    (λ j y apart e apart' alive'. let q = h.fits j y e alive' in record {
      seat = q.seat;
      opening = q.opening;
      handed = q.handed;
      thief = λ z. let t = q.thief z in let t' : length h.closed < j = t.0 in (omega arith, t.1);
      owner = λ p. let z : j ≡ 0 = (q.owner p).0 in let z' : port ≡ 0 = o.0 in absurd (apart (omega arith));
    }) in
    record {
      log = h.log;
      opening = h.opening;
      closed = closed;
      rest = h.rest;
      whole = h.whole;
      seated = rw m h.seated;
      closed_seats = rw m (omega arith);
      closed_lists = λ k lt. ⊎_elim
          (λ (below : k < length h.closed). at_snoc_below h.closed u.handed [] k below ∙ h.closed_lists k below)
          (λ (at_end : k ≡ length h.closed). at_snoc_end h.closed u.handed [] k at_end ∙ g.handed ∙ ap (λ j. of j h.log) (let e : other ≡ suc k = omega arith in e))
          (below_or_end k (length h.closed) (omega arith));
      fits = rw m (each_set (Fit h.log h.opening closed h.rest (length views)) vs other spent_hand (λ p. absurd (true≢false (sym p))) (λ j y apart e. now j y e apart));
    }

pub has_all : (port : ℕ) (v : Hand) → v.live ≡ true → v.rest ≡ [] → Finds IsHeld port v (HasAll v)
has_all port v live none views h at alone =
    let f = h.fits port v at live in
    let o = f.owner (omega arith) in
    let one : SeatsBelow 1 h.log = subst (λ n. SeatsBelow n h.log) (sym o.1 ∙ alone) h.seated in
    let whole : (slices h.log ++ h.rest) ++ [] ≡ h.opening = h.whole in
    let flat : slices h.log ≡ h.opening = simp (sym o.3 ∙ none, append-nil) at whole in
    f.handed ∙ ap (λ k. of k h.log) o.0 ∙ of-alone h.log one ∙ flat ∙ sym f.opening

pub shared : (port : ℕ) (v : Hand) → v.live ≡ true → 0 < v.seats → v.seats ≡ length v.closed + 1 → Finds IsHeld port v (IsShared v v.opening)
shared port v live owns all views h at =
    let f = h.fits port v at live in
    let o = f.owner owns in
    let whole : (slices h.log ++ h.rest) ++ [] ≡ h.opening = h.whole in
    record {
      log = h.log;
      all = ap (λ l. slices h.log ++ l) o.3 ∙ sym (append-nil (slices h.log ++ h.rest)) ∙ whole ∙ sym f.opening;
      seated = subst (λ n. SeatsBelow n h.log) (sym o.1) h.seated;
      owner = f.handed ∙ ap (λ k. of k h.log) o.0;
      thieves = λ k lt. subst (λ (l : List (List Slice)). k < length l → slice_index_or l k [] ≡ of (suc k) h.log) (sym o.2) (h.closed_lists k) lt;
    }
