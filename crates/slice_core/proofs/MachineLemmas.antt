-- The core against its machine.
use Rattle.std.proofs.Common.{◌≡◌, ◌≢◌, ⊎_elim, ℕ, zero, suc, ◌+◌, ◌%◌, ◌<◌, ◌≤◌, ◌==◌, true, false, List, [], ◌∷◌, ◌++◌, length, set, get_or, map, sym, refl, ap, ◌∙◌, arith, append-nil, eq-eqb, ne_eqb}
use Rattle.std.specs.Prelude.{Option, Some, None, slice_get, is_some, sum_by, unwrap_or, if◌then◌else◌}
use Rattle.std.proofs.lemmas.Bool.Decides.{eqb_tells}
use Rattle.slice_core.specs.declared.machine.Event.{Event}
use Rattle.std.specs.List.{filter, range_with_len}
use Rattle.std.proofs.lemmas.List.Sums.{sum_by-cons, sum_by-append}
use Rattle.std.proofs.lemmas.List.Elements.{filter-append}
use Rattle.std.proofs.lemmas.List.FromFn.{map-range_with_len_more, length-range_with_len}
use Rattle.std.proofs.lemmas.List.{map-set}
use Rattle.std.proofs.Math.Seq.{map-set_same}
use Rattle.slice_core.specs.Named.{named_from}
use Rattle.slice_core.specs.Places.{State, moved, run, weight, hand_sum, count_all, numbers_of, start_state}
use Rattle.slice_core.proofs.Steps.{good_moved, sum_set, each_once}
use Rattle.slice_core.proofs.SumLemmas.{filtered_sum}
use Rattle.slice_core.proofs.Tables.{get_map, map_id}

module _ {A : Type 0} (f : A → List ℕ) (lanes : List A) (hands : List (Option ℕ)) (done lost : List ℕ) (w l : ℕ) (new d : A) (within : l < length lanes) (free : slice_get hands w ≡ Some None) where
  at_free : moved record { lanes = map f lanes; hands = hands; done = done; lost = lost } w l (slice_get hands w) (slice_get (map f lanes) l)
      ≡ moved record { lanes = map f lanes; hands = hands; done = done; lost = lost } w l (Some None) (Some (f (get_or lanes l d)))
  at_free = ap (λ a. moved record { lanes = map f lanes; hands = hands; done = done; lost = lost } w l a (slice_get (map f lanes) l)) free
      ∙ ap (λ b. moved record { lanes = map f lanes; hands = hands; done = done; lost = lost } w l (Some None) b) (get_map f lanes l d within)

  pub hands_out : (x : ℕ) → f (get_or lanes l d) ≡ x ∷ f new → moved record { lanes = map f lanes; hands = hands; done = done; lost = lost } w l (slice_get hands w) (slice_get (map f lanes) l)
      ≡ Some record { lanes = map f (set lanes l new); hands = set hands w (Some x); done = done; lost = lost }
  hands_out x e = at_free ∙ ap (λ b. moved record { lanes = map f lanes; hands = hands; done = done; lost = lost } w l (Some None) (Some b)) e
      ∙ ap (λ (ls : List (List ℕ)). Some record { lanes = ls; hands = set hands w (Some x); done = done; lost = lost }) (sym (map-set f lanes l new))

  pub hands_none : f (get_or lanes l d) ≡ [] → moved record { lanes = map f lanes; hands = hands; done = done; lost = lost } w l (slice_get hands w) (slice_get (map f lanes) l) ≡ None
  hands_none e = at_free ∙ ap (λ b. moved record { lanes = map f lanes; hands = hands; done = done; lost = lost } w l (Some None) (Some b)) e

  pub same_lanes : f new ≡ f (get_or lanes l d) → map f (set lanes l new) ≡ map f lanes
  same_lanes e = map-set_same f lanes l new d e

more : (m n l : ℕ) → numbers_of (m + 1) n l ≡ numbers_of m n l ++ filter (λ k. k % n == l) (m ∷ [])
more m n l =
    let e : range_with_len 0 (m + 1) ≡ range_with_len 0 m ++ m ∷ [] = sym (map_id (range_with_len 0 (m + 1))) ∙ map-range_with_len_more (λ k. k) 0 m m (let z : 0 + m ≡ m = omega arith in z) ∙ ap (λ l. l ++ m ∷ []) (map_id (range_with_len 0 m)) in
    ap (filter (λ k. k % n == l)) e ∙ filter-append (λ k. k % n == l) (range_with_len 0 m) (m ∷ [])

ones : (xs : List ℕ) → sum_by (λ _. 1) xs ≡ length xs
ones [] = refl
ones (x ∷ xs) = let a = sum_by-cons (λ (_ : ℕ). 1) x xs in let b = ones xs in omega arith

empty_hands : (h : ℕ → ℕ) (s n : ℕ) → sum_by (hand_sum h) (named_from (λ _. None) s n) ≡ 0
empty_hands h s zero = refl
empty_hands h s (suc n) = let a = sum_by-cons (hand_sum h) None (named_from (λ _. None) (s + 1) n) in let b = empty_hands h (s + 1) n in omega arith

-- one number more goes to its lane
pub numbers_here : (m n l : ℕ) → m % n ≡ l → numbers_of (m + 1) n l ≡ numbers_of m n l ++ m ∷ []
numbers_here m n l e = more m n l ∙ ap (λ ys. numbers_of m n l ++ ys) (let h : filter (λ k. k % n == l) (m ∷ []) ≡ m ∷ [] = rw (eq-eqb (m % n) l e) refl in h)

pub numbers_else : (m n l : ℕ) → m % n ≢ l → numbers_of (m + 1) n l ≡ numbers_of m n l
numbers_else m n l e = more m n l ∙ ap (λ ys. numbers_of m n l ++ ys) (let h : filter (λ k. k % n == l) (m ∷ []) ≡ [] = rw (ne_eqb (m % n) l e) refl in h) ∙ append-nil (numbers_of m n l)

get_of : {A : Type 0} (xs : List A) (i : ℕ) (d : A) → i < length xs → slice_get xs i ≡ Some (get_or xs i d)
get_of [] i d h = absurd (omega arith)
get_of (x ∷ xs) zero d h = refl
get_of (x ∷ xs) (suc i) d h = get_of xs i d (omega arith)

nobody : (h : Option ℕ) → false ≡ is_some h → h ≡ None
nobody None e = refl
nobody (Some x) e = absurd (cc)

pub free_hand : (hands : List (Option ℕ)) (w : ℕ) (h : Option ℕ) → w < length hands → h ≡ get_or hands w h → false ≡ is_some h → slice_get hands w ≡ Some None
free_hand hands w h lt is none = get_of hands w h lt ∙ ap (λ o. Some o) (sym is ∙ nobody h none)

-- moving a slice changes no count
pub moved_weight : (s t : State) (w l : ℕ) → moved s w l (slice_get s.hands w) (slice_get s.lanes l) ≡ Some t → (h : ℕ → ℕ) → weight h t ≡ weight h s
moved_weight s t w l e h = ap (λ o. weight h (unwrap_or o s)) (sym e) ∙ (good_moved s w l (slice_get s.hands w) (slice_get s.lanes l) refl refl).0 h

-- a full hand is counted
module _ (lanes : List (List ℕ)) (hands : List (Option ℕ)) (done lost : List ℕ) (w x cap : ℕ) (full : slice_get hands w ≡ Some (Some x)) (fits : count_all lanes hands done lost ≤ cap) where
  emptied : sum_by (hand_sum (λ _. 1)) (set hands w None) + 1 ≡ sum_by (hand_sum (λ _. 1)) hands
  emptied = let a = sum_set (hand_sum (λ _. 1)) hands w (Some x) None full in omega arith

  pub done_room : length done < cap
  done_room = let a = emptied in let b = ones done in omega arith

  pub lost_room : length lost < cap
  lost_room = let a = emptied in let b = ones lost in omega arith

  pub finished_fits : count_all lanes (set hands w None) (done ++ x ∷ []) lost ≤ cap
  finished_fits = let a = emptied in let b = sum_by-append (λ (_ : ℕ). 1) done (x ∷ []) in let c = sum_by-cons (λ (_ : ℕ). 1) x [] in omega arith

  pub failed_fits : count_all lanes (set hands w None) done (lost ++ x ∷ []) ≤ cap
  failed_fits = let a = emptied in let b = sum_by-append (λ (_ : ℕ). 1) lost (x ∷ []) in let c = sum_by-cons (λ (_ : ℕ). 1) x [] in omega arith

-- at the start the slices are those that the lanes were opened with
pub start_weight : (slices lanes workers : ℕ) → 0 < lanes → (h : ℕ → ℕ) → weight h (start_state slices lanes workers) ≡ sum_by h (range_with_len 0 slices)
start_weight slices lanes workers some h =
    let a = filtered_sum (λ k. k) h (range_with_len 0 slices) lanes some in
    let b = empty_hands h 0 workers in
    omega arith

pub start_count : (slices lanes workers : ℕ) → 0 < lanes → count_all (start_state slices lanes workers).lanes (start_state slices lanes workers).hands [] [] ≡ slices
start_count slices lanes workers some = start_weight slices lanes workers some (λ _. 1) ∙ ones (range_with_len 0 slices) ∙ length-range_with_len 0 slices

pub start_fits : (slices lanes workers cap : ℕ) (ls : List (List ℕ)) (hs : List (Option ℕ)) (ds xs : List ℕ) → 0 < lanes → ls ≡ named_from (numbers_of slices lanes) 0 lanes → hs ≡ named_from (λ _. None) 0 workers → ds ≡ [] → xs ≡ [] → slices ≤ cap → count_all ls hs ds xs ≤ cap
start_fits slices lanes workers cap ls hs ds xs some a b d e fits =
    let count : count_all ls hs ds xs ≡ slices = (λ i. count_all (a i) (b i) (d i) (e i)) ∙ start_count slices lanes workers some in
    omega arith

pub le_cap : (x c d : ℕ) → c ≡ d → x ≤ d → x ≤ c
le_cap x c d e a = omega arith

abbrev is_at : ℕ → ℕ → ℕ
is_at k j = if j == k then 1 else 0

one_below : (k s n : ℕ) → k < s → sum_by (is_at k) (range_with_len s n) ≡ 0
one_below k s zero lt = refl
one_below k s (suc n) lt =
    let a = sum_by-cons (is_at k) s (range_with_len (s + 1) n) in
    let b : is_at k s ≡ 0 = rw (ne_eqb s k (λ e. omega arith)) refl in
    let c = one_below k (s + 1) n (omega arith) in
    omega arith

one_in : (k s n : ℕ) → s ≤ k → k < s + n → sum_by (is_at k) (range_with_len s n) ≡ 1
one_in k s zero low high = absurd (omega arith)
one_in k s (suc n) low high =
    let a = sum_by-cons (is_at k) s (range_with_len (s + 1) n) in ⊎_elim
    (λ (e : ((s == k) ≡ true) × (s ≡ k)). let b : is_at k s ≡ 1 = rw e.0 refl in let c = one_below k (s + 1) n (let i = e.1 in omega arith) in omega arith)
    (λ (e : ((s == k) ≡ false) × (s ≢ k)). let b : is_at k s ≡ 0 = rw e.0 refl in let c = one_in k (s + 1) n (let i = e.1 in omega arith) (omega arith) in omega arith)
    (eqb_tells s k)

pub start_once : (slices lanes workers : ℕ) (events : List Event) (k : ℕ) → 0 < lanes → k < slices → weight (λ j. if j == k then 1 else 0) (run (start_state slices lanes workers) events) ≡ 1
start_once slices lanes workers events k some lt =
    each_once (λ j. if j == k then 1 else 0) (start_state slices lanes workers) events ∙ start_weight slices lanes workers some (λ j. if j == k then 1 else 0) ∙ one_in k 0 slices (omega arith) (omega arith)
