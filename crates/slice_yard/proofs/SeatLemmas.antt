-- Thieves take their seats.
use Rattle.std.proofs.Common.{◌≡◌, ◌≢◌, ⊎_elim, true, false, ℕ, zero, suc, ◌+◌, ◌-◌, ◌%◌, ◌<◌, ◌≤◌, ◌==◌, List, [], ◌∷◌, ◌++◌, length, set, get_or, map, sym, refl, ap, ◌∙◌, arith, eq-eqb, ne_eqb, length-append}
use Rattle.std.specs.List.{filter}
use Rattle.std.proofs.Math.Nat.{mod-eq_of_lt, add-mod_right}
use Rattle.std.proofs.lemmas.Bool.{lt-ltb, le-ltb}
use Rattle.std.proofs.lemmas.Bool.Decides.{eqb_tells}
use Rattle.std.proofs.lemmas.List.{length-map}
use Rattle.std.proofs.lemmas.List.Elements.{filter-append}
use Rattle.std.proofs.lemmas.List.FromFn.{map-range_with_len_more}
use Rattle.slice_yard.specs.declared.slices.Slice.{Slice}
use Rattle.slice_yard.specs.declared.rule.Hand.{Hand}
use Rattle.slice_yard.specs.declared.lane.Lane.{Lane}
use Rattle.slice_yard.specs.declared.lane.Thief.{Thief}
use Rattle.slice_yard.specs.Hands.{one_more, thief_hand}
use Rattle.slice_yard.specs.Lane.{Deque, LanePlace, lane_hand, lane_deque, lane_state, thief_state}
use Rattle.slice_core.specs.Named.{named_from}
use Rattle.slice_yard.specs.Yard.{filled, dealt, thief_lanes, thief_count, seat_of, times, more_seats, lanes_at_first, lanes_seated}
use Rattle.slice_core.proofs.Tables.{table_at, table_set, table_same, table_length, below_or_past}

pub times_append : (l : ℕ) (xs ys : List ℕ) → times l (xs ++ ys) ≡ times l xs + times l ys
times_append l xs ys = ap length (filter-append (λ k. k == l) xs ys) ∙ length-append (filter (λ k. k == l) xs) (filter (λ k. k == l) ys)

pub times_one : (l k : ℕ) → k ≡ l → times l (k ∷ []) ≡ 1
times_one l k e = rw (eq-eqb k l e) refl

pub times_none : (l k : ℕ) → k ≢ l → times l (k ∷ []) ≡ 0
times_none l k e = rw (ne_eqb k l e) refl

-- the numbers from s on, n of them
times_below : (l s n : ℕ) → l < s → times l (named_from (λ i. i) s n) ≡ 0
times_below l s zero lt = refl
times_below l s (suc n) lt =
    let a = times_append l (s ∷ []) (named_from (λ i. i) (s + 1) n) in
    let b = times_none l s (λ e. omega arith) in
    let c = times_below l (s + 1) n (omega arith) in
    omega arith

times_range : (l s n : ℕ) → s ≤ l → l < s + n → times l (named_from (λ i. i) s n) ≡ 1
times_range l s zero low high = absurd (omega arith)
times_range l s (suc n) low high =
    let a = times_append l (s ∷ []) (named_from (λ i. i) (s + 1) n) in ⊎_elim
    (λ (h : ((s == l) ≡ true) × (s ≡ l)). let b = times_one l s h.1 in let c = times_below l (s + 1) n (let e = h.1 in omega arith) in omega arith)
    (λ (h : ((s == l) ≡ false) × (s ≢ l)). let b = times_none l s h.1 in let c = times_range l (s + 1) n (let e = h.1 in omega arith) (omega arith) in omega arith)
    (eqb_tells s l)

-- once round, from any lane, passes each lane once
pub times_round : (l s n : ℕ) → l < n → times l (named_from (λ i. i % n) s n) ≡ 1
times_round l zero n lt = ap (times l) (table_same (λ i. i % n) (λ i. i) n (λ k below. mod-eq_of_lt below)) ∙ times_range l 0 n (omega arith) (omega arith)
times_round l (suc s) n lt =
    let f : ℕ → ℕ = λ i. i % n in
    let more = map-range_with_len_more f s n (s + n) refl in
    let a = times_append l (f s ∷ []) (named_from f (s + 1) n) in
    let b = times_append l (named_from f s n) (f (s + n) ∷ []) in
    let c : times l (named_from f s (n + 1)) ≡ times l (named_from f s n ++ f (s + n) ∷ []) = ap (times l) more in
    let d : times l (named_from f s (n + 1)) ≡ times l (f s ∷ named_from f (s + 1) n) = ap (λ k. times l (named_from f s k)) (let e : n + 1 ≡ suc n = omega arith in e) in
    let e : times l (f (s + n) ∷ []) ≡ times l (f s ∷ []) = ap (λ k. times l (k ∷ [])) (add-mod_right s n) in
    let t = times_round l s n lt in
    let z : times l (named_from f (suc s) n) ≡ times l (named_from f (s + 1) n) = ap (λ k. times l (named_from f k n)) (let e : suc s ≡ s + 1 = omega arith in e) in
    omega arith

-- a worker steals from each lane but its own, once
module _ (n w : ℕ) where
  count_below : w < n → thief_count n w ≡ n - 1
  count_below lt = rw (lt-ltb w n lt) refl

  count_past : n ≤ w → thief_count n w ≡ n
  count_past le = rw (le-ltb w n le) refl

  round_of : (l : ℕ) → w < n → times l (named_from (λ i. i % n) (w + 1) n) ≡ times l (thief_lanes n w) + times l (w ∷ [])
  round_of l lt =
      let f : ℕ → ℕ = λ i. i % n in
      let more = map-range_with_len_more f (w + 1) (n - 1) (w + n) (omega arith) in
      let a : n - 1 + 1 ≡ n = omega arith in
      let b : f (w + n) ≡ w = add-mod_right w n ∙ mod-eq_of_lt lt in
      ap (λ k. times l (named_from f (w + 1) k)) (sym a) ∙ ap (times l) more ∙ times_append l (named_from f (w + 1) (n - 1)) (f (w + n) ∷ [])
      ∙ ap (λ k. times l (named_from f (w + 1) k) + times l (f (w + n) ∷ [])) (sym (count_below lt)) ∙ ap (λ k. times l (thief_lanes n w) + times l (k ∷ [])) b

  pub times_own : w < n → times w (thief_lanes n w) ≡ 0
  times_own lt = let a = round_of w lt in let b = times_round w (w + 1) n lt in let c = times_one w w refl in omega arith

  pub times_other : (l : ℕ) → l < n → l ≢ w → times l (thief_lanes n w) ≡ 1
  times_other l lt other = ⊎_elim
      (λ (own : w < n). let a = round_of l own in let b = times_round l (w + 1) n lt in let c = times_none l w (λ e. other (sym e)) in omega arith)
      (λ (past : n ≤ w). ap (λ k. times l (named_from (λ i. i % n) (w + 1) k)) (count_past past) ∙ times_round l (w + 1) n lt)
      (below_or_past w n)

  pub times_once : (l : ℕ) → l < n → times l (thief_lanes n w) ≤ 1
  times_once l lt = ⊎_elim
      (λ (h : ((l == w) ≡ true) × (l ≡ w)). let e = h.1 in let a : times l (thief_lanes n w) ≡ 0 = rw e (times_own (omega arith)) in omega arith)
      (λ (h : ((l == w) ≡ false) × (l ≢ w)). let a = times_other l lt h.1 in omega arith)
      (eqb_tells l w)

pub seat_past : (l w : ℕ) → l < w → seat_of l w ≡ w
seat_past l w lt = rw (lt-ltb l w lt) refl

pub seat_before : (l w : ℕ) → w ≤ l → seat_of l w ≡ suc w
seat_before l w le = rw (le-ltb l w le) refl

-- each lane has one pass more for each worker that steals from it
pub seats_step : (n l w : ℕ) → l < n → seat_of l w + times l (thief_lanes n w) ≡ seat_of l (w + 1)
seats_step n l w lt = ⊎_elim
    (λ (h : ((l == w) ≡ true) × (l ≡ w)).
    let e = h.1 in
    let a : times l (thief_lanes n w) ≡ 0 = rw e (times_own n w (omega arith)) in
    let b = seat_before l w (omega arith) in
    let c = seat_past l (w + 1) (omega arith) in
    omega arith)
    (λ (h : ((l == w) ≡ false) × (l ≢ w)).
    let a = times_other n w l lt h.1 in ⊎_elim
    (λ (low : l < w). let b = seat_past l w low in let c = seat_past l (w + 1) (omega arith) in omega arith)
    (λ (high : w ≤ l). let b = seat_before l w high in let k = h.1 in let strict : w < l = omega arith in let c = seat_before l (w + 1) (omega arith) in omega arith)
    (below_or_past l w))
    (eqb_tells l w)

-- a thief takes a seat at lane l, after those of the lanes ls
module _ (f : ℕ → LanePlace) (n : ℕ) (lanes : List Lane) (l : ℕ) (d : Lane) (ls : List ℕ) (so_far : map lane_state lanes ≡ named_from (λ k. ((f k).0, more_seats (times k ls) (f k).1)) 0 n) (within : l < length lanes) where
  pub lane_count : length lanes ≡ n
  lane_count = sym (length-map lanes lane_state) ∙ ap length so_far ∙ table_length (λ k. ((f k).0, more_seats (times k ls) (f k).1)) n

  state_at : lane_state (get_or lanes l d) ≡ ((f l).0, more_seats (times l ls) (f l).1)
  state_at = table_at lane_state (λ k. ((f k).0, more_seats (times k ls) (f k).1)) n lanes l d so_far (let c = lane_count in omega arith)

  pub seat_taken : (new : Lane) → lane_deque new ≡ lane_deque (get_or lanes l d) → lane_hand new ≡ one_more (lane_hand (get_or lanes l d))
      → map lane_state (set lanes l new) ≡ named_from (λ k. ((f k).0, more_seats (times k (ls ++ l ∷ [])) (f k).1)) 0 n
  seat_taken new same more =
      let a = times_append l ls (l ∷ []) in
      let b = times_one l l refl in
      let seats : (f l).1.seats + times l ls + 1 ≡ (f l).1.seats + times l (ls ++ l ∷ []) = omega arith in
      let hand : one_more (more_seats (times l ls) (f l).1) ≡ more_seats (times l (ls ++ l ∷ [])) (f l).1 = λ i. record (f l).1 { seats = seats i } in
      let is : lane_state new ≡ ((f l).0, more_seats (times l (ls ++ l ∷ [])) (f l).1) =
      (λ i. (same i, more i)) ∙ ap (λ (p : LanePlace). (p.0, one_more p.1)) state_at ∙ ap (λ (v : Hand). ((f l).0, v)) hand in
      table_set lane_state (λ k. ((f k).0, more_seats (times k ls) (f k).1)) (λ k. ((f k).0, more_seats (times k (ls ++ l ∷ [])) (f k).1)) n lanes l new so_far (let c = lane_count in omega arith) is
      (λ k lt other.
      let e = times_append k ls (l ∷ []) in
      let z = times_none k l (λ is. other (sym is)) in
      ap (λ m. ((f k).0, more_seats m (f k).1)) (let s : times k ls ≡ times k (ls ++ l ∷ []) = omega arith in s))

  pub thief_taken : (t : Thief) → times l ls ≡ 0 → thief_state t ≡ (l, (lane_deque (get_or lanes l d)).0, thief_hand (lane_hand (get_or lanes l d))) → thief_state t ≡ (l, (f l).0.0, thief_hand (f l).1)
  thief_taken t none is =
      let seats : (f l).1.seats + times l ls ≡ (f l).1.seats = omega arith in
      is ∙ ap (λ (p : LanePlace). (l, p.0.0, thief_hand p.1)) state_at ∙ ap (λ k. (l, (f l).0.0, thief_hand (record (f l).1 { seats = k }))) seats

-- the first of a number that comes once
pub first_time : (l : ℕ) (ls rest : List ℕ) → times l (ls ++ l ∷ rest) ≤ 1 → times l ls ≡ 0
first_time l ls rest once =
    let a = times_append l ls (l ∷ rest) in
    let b = times_append l (l ∷ []) rest in
    let c = times_one l l refl in
    omega arith

-- what the first w workers' thieves, and then the next one's, leave of the lanes
module _ (deques : ℕ → Deque) (xs : List Slice) (n : ℕ) where
  pub seated_next : (lanes : List Lane) (w : ℕ) (ls : List ℕ) → ls ≡ thief_lanes n w → map lane_state lanes ≡ named_from (λ l. ((deques l, false), more_seats (times l ls) (filled (dealt xs n l) (seat_of l w)))) 0 n
      → map lane_state lanes ≡ lanes_seated deques xs n (w + 1)
  seated_next lanes w ls is e = e ∙ table_same (λ l. ((deques l, false), more_seats (times l ls) (filled (dealt xs n l) (seat_of l w)))) (λ l. ((deques l, false), filled (dealt xs n l) (seat_of l (w + 1)))) n
      (λ l lt. ap (λ k. ((deques l, false), filled (dealt xs n l) k)) (ap (λ ks. seat_of l w + times l ks) is ∙ seats_step n l w lt))

  pub seated_last : (lanes : List Lane) (w : ℕ) → n ≤ w → map lane_state lanes ≡ lanes_seated deques xs n w → map lane_state lanes ≡ lanes_at_first deques xs n w
  seated_last lanes w enough e = e ∙ table_same (λ l. ((deques l, false), filled (dealt xs n l) (seat_of l w))) (λ l. ((deques l, false), filled (dealt xs n l) w)) n
      (λ l lt. ap (λ k. ((deques l, false), filled (dealt xs n l) k)) (seat_past l w (omega arith)))
