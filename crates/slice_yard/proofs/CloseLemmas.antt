-- The thieves of a yard hand in their lists.
use Rattle.std.proofs.Common.{◌≡◌, ◌≢◌, ⊎_elim, true, false, ℕ, suc, ◌+◌, ◌%◌, ◌<◌, ◌≤◌, ◌==◌, List, [], ◌∷◌, ◌++◌, length, set, get_or, map, All, sym, refl, ap, ◌∙◌, subst, arith, add-zero, append-nil, append_assoc, eq-eqb, ne_eqb, length-append}
use Rattle.std.specs.Prelude.{Some, slice_get, sum_by}
use Rattle.std.proofs.lemmas.List.Sums.{sum_by-cons, sum_by-append, sum_by-set}
use Rattle.std.specs.List.{filter, flat_map, range_with_len}
use Rattle.std.specs.declared.vec.Vec.{Vec}
use Rattle.std.specs.declared.alloc.Global.{Global}
use Rattle.std.proofs.Math.ListN.{get_or-map as get_or-map'}
use Rattle.std.proofs.Math.Nat.{mod-lt}
use Rattle.std.proofs.lemmas.Bool.Decides.{eqb_tells}
use Rattle.std.proofs.lemmas.Grind.{flat_map-append}
use Rattle.std.proofs.lemmas.List.{length-map, map-append, get_or-map}
use Rattle.std.proofs.lemmas.List.Elements.{filter-append}
use Rattle.crossbeam_deque.specs.Handles.{stealer_deque}
use Rattle.slice_yard.specs.declared.slices.Slice.{Slice}
use Rattle.slice_yard.specs.declared.rule.Hand.{Hand}
use Rattle.slice_yard.specs.declared.lane.Lane.{Lane}
use Rattle.slice_yard.specs.declared.lane.Thief.{Thief}
use Rattle.slice_yard.specs.Hands.{owner_hand, with_list}
use Rattle.slice_yard.specs.Lane.{LanePlace, ThiefPlace, lane_hand, lane_deque, lane_state, lane_place, fresh_state, thief_place, thief_hand_of, IsThiefOf, IsOpen}
use Rattle.slice_yard.specs.Cut.{IsNumbered}
use Rattle.slice_core.specs.Named.{named_from}
use Rattle.slice_core.specs.Places.{numbers_of}
use Rattle.slice_yard.specs.ClosedRuns.{WereOpened}
use Rattle.slice_yard.specs.Shared.{closed_hands, handed_sum, thieves_sum, lists_sum}
use Rattle.slice_yard.specs.Yard.{filled, seated, dealt, seat_of, thief_lanes, thief_count, times, thieves_of, lists_of, with_lists, IsNextOf, AreOfOneYard}
use Rattle.slice_core.proofs.Tables.{table_at, table_set, table_same, table_map, table_mid, table_get, table_all, table_front, table_length, table_from, own_table, get_is, get_within, empty, map_map, map_id, All_map, All_unmap}
use Rattle.slice_yard.proofs.SeatLemmas.{times_append, times_one, times_none, times_once, seats_step, seat_before, seat_past}

pub thieves_append : (l : ℕ) (ts us : List Thief) → thieves_of l (ts ++ us) ≡ thieves_of l ts ++ thieves_of l us
thieves_append l ts us = filter-append (λ t. t.lane == l) ts us

pub lists_append : (l : ℕ) (ts us : List Thief) → lists_of l (ts ++ us) ≡ lists_of l ts ++ lists_of l us
lists_append l ts us = ap (map (λ t. (thief_hand_of t).handed)) (thieves_append l ts us) ∙ map-append (λ t. (thief_hand_of t).handed) (thieves_of l ts) (thieves_of l us)

pub lists_one : (l : ℕ) (t : Thief) → t.lane ≡ l → lists_of l (t ∷ []) ≡ (thief_hand_of t).handed ∷ []
lists_one l t e = rw (eq-eqb t.lane l e) refl

pub lists_none : (l : ℕ) (t : Thief) → t.lane ≢ l → lists_of l (t ∷ []) ≡ []
lists_none l t e = rw (ne_eqb t.lane l e) refl

-- how many thieves of a lane there are
pub count_of : (l : ℕ) (ts : List Thief) → length (thieves_of l ts) ≡ times l (map (λ t. t.lane) ts)
count_of l [] = refl
count_of l (t ∷ ts) =
    let a = ap length (thieves_append l (t ∷ []) ts) ∙ length-append (thieves_of l (t ∷ [])) (thieves_of l ts) in
    let b = times_append l (t.lane ∷ []) (map (λ (t : Thief). t.lane) ts) in
    let c : length (thieves_of l (t ∷ [])) ≡ times l (t.lane ∷ []) = ⊎_elim
    (λ (h : ((t.lane == l) ≡ true) × (t.lane ≡ l)). (let e : length (thieves_of l (t ∷ [])) ≡ 1 = rw h.0 refl in e) ∙ sym (times_one l t.lane h.1))
    (λ (h : ((t.lane == l) ≡ false) × (t.lane ≢ l)). (let e : length (thieves_of l (t ∷ [])) ≡ 0 = rw h.0 refl in e) ∙ sym (times_none l t.lane h.1))
    (eqb_tells t.lane l) in
    let d = count_of l ts in
    omega arith

pub lists_count : (l : ℕ) (ts : List Thief) → length (lists_of l ts) ≡ length (thieves_of l ts)
lists_count l ts = length-map (thieves_of l ts) (λ t. (thief_hand_of t).handed)

-- a thief is joined with its lane, after the thieves ts
module _ (f : ℕ → LanePlace) (n : ℕ) (lanes : List Lane) (d : Lane) (ts : List Thief) (t : Thief) (so_far : map lane_state lanes ≡ named_from (λ k. ((f k).0, with_lists (lists_of k ts) (f k).1)) 0 n) (within : t.lane < length lanes) where
  count : length lanes ≡ n
  count = sym (length-map lanes lane_state) ∙ ap length so_far ∙ table_length (λ k. ((f k).0, with_lists (lists_of k ts) (f k).1)) n

  pub state_here : lane_state (get_or lanes t.lane d) ≡ ((f t.lane).0, with_lists (lists_of t.lane ts) (f t.lane).1)
  state_here = table_at lane_state (λ k. ((f k).0, with_lists (lists_of k ts) (f k).1)) n lanes t.lane d so_far (let c = count in omega arith)

  pub joined : (new : Lane) → lane_deque new ≡ lane_deque (get_or lanes t.lane d) → lane_hand new ≡ with_list (lane_hand (get_or lanes t.lane d)) (thief_hand_of t)
      → map lane_state (set lanes t.lane new) ≡ named_from (λ k. ((f k).0, with_lists (lists_of k (ts ++ t ∷ [])) (f k).1)) 0 n
  joined new same list =
      let lists : lists_of t.lane (ts ++ t ∷ []) ≡ lists_of t.lane ts ++ (thief_hand_of t).handed ∷ [] = lists_append t.lane ts (t ∷ []) ∙ ap (λ ls. lists_of t.lane ts ++ ls) (lists_one t.lane t refl) in
      let hand : with_list (with_lists (lists_of t.lane ts) (f t.lane).1) (thief_hand_of t) ≡ with_lists (lists_of t.lane (ts ++ t ∷ [])) (f t.lane).1 =
      λ i. record (f t.lane).1 { closed = (append_assoc (f t.lane).1.closed (lists_of t.lane ts) ((thief_hand_of t).handed ∷ []) ∙ ap (λ ls. (f t.lane).1.closed ++ ls) (sym lists)) i } in
      let is : lane_state new ≡ ((f t.lane).0, with_lists (lists_of t.lane (ts ++ t ∷ [])) (f t.lane).1) =
      (λ i. (same i, list i)) ∙ ap (λ (p : LanePlace). (p.0, with_list p.1 (thief_hand_of t))) state_here ∙ ap (λ (v : Hand). ((f t.lane).0, v)) hand in
      table_set lane_state (λ k. ((f k).0, with_lists (lists_of k ts) (f k).1)) (λ k. ((f k).0, with_lists (lists_of k (ts ++ t ∷ [])) (f k).1)) n lanes t.lane new so_far (let c = count in omega arith) is
      (λ k lt other.
      ap (λ ls. ((f k).0, with_lists ls (f k).1)) (sym (lists_append k ts (t ∷ []) ∙ ap (λ ls. lists_of k ts ++ ls) (lists_none k t (λ e. other (sym e))) ∙ append-nil (lists_of k ts))))

-- the table of what is known of each lane
pub states_of : (lanes : List Lane) (d : Lane) → map lane_state lanes ≡ named_from (λ k. get_or (map lane_state lanes) k (lane_state d)) 0 (length lanes)
states_of lanes d = table_from lane_state (λ k. get_or (map lane_state lanes) k (lane_state d)) 0 lanes (λ k e lt. sym (get_or-map lane_state lanes k e (lane_state d) lt) ∙ ap (λ j. get_or (map lane_state lanes) j (lane_state d)) (let z : k ≡ 0 + k = omega arith in z))

-- the next thief may be joined
module _ (before lanes : List Lane) (d : Lane) (ts rest all : List Thief) (t : Thief) (e : all ≡ ts ++ t ∷ rest) (fits : IsNextOf (map lane_state before) t)
    (so_far : (f : ℕ → LanePlace) (n : ℕ) → map lane_state before ≡ named_from f 0 n → map lane_state lanes ≡ named_from (λ k. ((f k).0, with_lists (lists_of k ts) (f k).1)) 0 n)
    (within : t.lane < length lanes) (once : length (thieves_of t.lane all) ≤ 1) where
  none_yet : lists_of t.lane ts ≡ []
  none_yet =
      let a = ap (λ us. length (thieves_of t.lane us)) e ∙ ap length (thieves_append t.lane ts (t ∷ rest)) ∙ length-append (thieves_of t.lane ts) (thieves_of t.lane (t ∷ rest)) in
      let b = ap length (thieves_append t.lane (t ∷ []) rest) ∙ length-append (thieves_of t.lane (t ∷ [])) (thieves_of t.lane rest) in
      let c : length (thieves_of t.lane (t ∷ [])) ≡ 1 = rw (eq-eqb t.lane t.lane refl) refl in
      let k : length (thieves_of t.lane ts) ≡ 0 = omega arith in
      ap (map (λ t. (thief_hand_of t).handed)) (empty (thieves_of t.lane ts) k)

  state_now : lane_state (get_or lanes t.lane d) ≡ ((stealer_deque t.deque, false), with_lists [] fits.hand)
  state_now =
      let f : ℕ → LanePlace = λ k. get_or (map lane_state before) k (lane_state d) in
      state_here f (length before) lanes d ts t (so_far f (length before) (states_of before d)) within
      ∙ ap (λ ls. ((f t.lane).0, with_lists ls (f t.lane).1)) none_yet
      ∙ ap (λ (p : LanePlace). (p.0, with_lists [] p.1)) (get_is (map lane_state before) t.lane _ (lane_state d) fits.place)

  pub its_lane : IsThiefOf (get_or lanes t.lane d) t
  its_lane = sym (ap (λ (p : LanePlace). p.0.0) state_now)

  pub still_open : IsOpen (get_or lanes t.lane d)
  still_open = ap (λ (p : LanePlace). p.0.1) state_now

  pub its_seat : (thief_hand_of t).seat ≡ length (lane_hand (get_or lanes t.lane d)).closed + 1
  its_seat = fits.seat ∙ ap (λ k. k + 1) (sym (ap (λ (p : LanePlace). length p.1.closed) state_now ∙ ap length (append-nil fits.hand.closed)))

pub within_lanes : (before lanes : List Lane) (t : Thief) → length lanes ≡ length before → IsNextOf (map lane_state before) t → (t.lane < length lanes) × (t.lane < length before)
within_lanes before lanes t same fits =
    let a = get_within (map lane_state before) t.lane _ fits.place in
    let b = length-map before lane_state in
    (omega arith, omega arith)

-- the numbers of the slices that were dealt to a lane
numbers_filtered : (n l : ℕ) (xs : List Slice) → map (λ x. x.number) (dealt xs n l) ≡ filter (λ k. k % n == l) (map (λ x. x.number) xs)
numbers_filtered n l [] = refl
numbers_filtered n l (x ∷ xs) = ⊎_elim
    (λ (h : ((x.number % n == l) ≡ true) × (x.number % n ≡ l)). (let a : map (λ (x : Slice). x.number) (dealt (x ∷ xs) n l) ≡ x.number ∷ map (λ (x : Slice). x.number) (dealt xs n l) = rw h.0 refl in a) ∙ ap (λ ks. x.number ∷ ks) (numbers_filtered n l xs)
    ∙ sym (let b : filter (λ k. k % n == l) (x.number ∷ map (λ (x : Slice). x.number) xs) ≡ x.number ∷ filter (λ k. k % n == l) (map (λ (x : Slice). x.number) xs) = rw h.0 refl in b))
    (λ (h : ((x.number % n == l) ≡ false) × (x.number % n ≢ l)). (let a : map (λ (x : Slice). x.number) (dealt (x ∷ xs) n l) ≡ map (λ (x : Slice). x.number) (dealt xs n l) = rw h.0 refl in a) ∙ numbers_filtered n l xs
    ∙ sym (let b : filter (λ k. k % n == l) (x.number ∷ map (λ (x : Slice). x.number) xs) ≡ filter (λ k. k % n == l) (map (λ (x : Slice). x.number) xs) = rw h.0 refl in b))
    (eqb_tells (x.number % n) l)

pub dealt_numbers : (xs : List Slice) (n l : ℕ) → IsNumbered xs → map (λ x. x.number) (dealt xs n l) ≡ numbers_of (length xs) n l
dealt_numbers xs n l numbered =
    let e : map (λ x. x.number) xs ≡ range_with_len 0 (length xs) = table_from (λ (x : Slice). x.number) (λ k. k) 0 xs (λ k d lt. numbered k d lt ∙ (let z : k ≡ 0 + k = omega arith in z)) ∙ map_id (range_with_len 0 (length xs)) in
    numbers_filtered n l xs ∙ ap (filter (λ k. k % n == l)) e

-- how many thieves of lane l the workers from s on have
flat_count : (n l s : ℕ) (vs : List (Vec Thief Global)) → l < n → map (λ v. map (λ t. t.lane) v.items) vs ≡ named_from (thief_lanes n) s (length vs)
    → length (lists_of l (flat_map (λ v. v.items) vs)) + seat_of l s ≡ seat_of l (s + length vs)
flat_count n l s [] lt e = let z : seat_of l s ≡ seat_of l (s + 0) = ap (seat_of l) (sym (add-zero s)) in omega arith
flat_count n l s (v ∷ vs) lt e =
    let here : map (λ (t : Thief). t.lane) v.items ≡ thief_lanes n s = cc in
    let rest : map (λ (v : Vec Thief Global). map (λ (t : Thief). t.lane) v.items) vs ≡ named_from (thief_lanes n) (s + 1) (length vs) = cc in
    let a : length (lists_of l (v.items ++ flat_map (λ (v : Vec Thief Global). v.items) vs)) ≡ length (lists_of l v.items) + length (lists_of l (flat_map (λ (v : Vec Thief Global). v.items) vs)) =
    ap length (lists_append l v.items (flat_map (λ (v : Vec Thief Global). v.items) vs)) ∙ length-append (lists_of l v.items) (lists_of l (flat_map (λ (v : Vec Thief Global). v.items) vs)) in
    let b : length (lists_of l v.items) ≡ times l (thief_lanes n s) = lists_count l v.items ∙ count_of l v.items ∙ ap (times l) here in
    let c = seats_step n l s lt in
    let t = flat_count n l (s + 1) vs lt rest in
    let z : seat_of l (s + suc (length vs)) ≡ seat_of l ((s + 1) + length vs) = ap (seat_of l) (let k : s + suc (length vs) ≡ (s + 1) + length vs = omega arith in k) in
    omega arith

lane_lists : (vs : List (Vec Thief Global)) → map (λ v. map (λ t. t.lane) v.items) vs ≡ map (map (λ (p : ThiefPlace). p.0)) (map (λ v. map thief_place v.items) vs)
lane_lists [] = refl
lane_lists (v ∷ vs) = let a = map_map (λ (p : ThiefPlace). p.0) thief_place v.items in let b = lane_lists vs in λ i. sym a i ∷ b i

map_same : (ls : List ℕ) → map (λ l. l) ls ≡ ls
map_same [] = refl
map_same (l ∷ ls) = ap (λ k. l ∷ k) (map_same ls)

-- the ends of one yard
module _ (lanes : List Lane) (thieves : List (Vec Thief Global)) (yard : AreOfOneYard (map lane_place lanes) (map (λ v. map thief_place v.items) thieves)) where
  abbrev pub first_of_lane : ℕ → LanePlace
  first_of_lane k = get_or (map lane_state lanes) k ((yard.deques 0, false), owner_hand)

  pub lane_count : length lanes ≡ yard.lane_count
  lane_count = sym (length-map lanes lane_place) ∙ ap length yard.owners ∙ table_length (λ l. ((yard.deques l, false), filled (dealt yard.slices yard.lane_count l) yard.workers)) yard.lane_count

  pub worker_count : length thieves ≡ yard.workers
  worker_count = sym (length-map thieves (λ v. map thief_place v.items)) ∙ ap length yard.others
      ∙ table_length (λ w. map (λ l. (l, yard.deques l, seated (dealt yard.slices yard.lane_count l) (seat_of l w))) (thief_lanes yard.lane_count w)) yard.workers

  pub first_table : map lane_state lanes ≡ named_from first_of_lane 0 yard.lane_count
  first_table = own_table (map lane_state lanes) ((yard.deques 0, false), owner_hand) ∙ ap (named_from first_of_lane 0) (length-map lanes lane_state ∙ lane_count)

  first_is : (l : ℕ) → l < yard.lane_count → fresh_state (first_of_lane l) ≡ ((yard.deques l, false), filled (dealt yard.slices yard.lane_count l) yard.workers)
  first_is l lt = table_at fresh_state (λ l. ((yard.deques l, false), filled (dealt yard.slices yard.lane_count l) yard.workers)) yard.lane_count (map lane_state lanes) l ((yard.deques 0, false), owner_hand) (map_map fresh_state lane_state lanes ∙ yard.owners) lt

  lanes_of : map (λ v. map (λ t. t.lane) v.items) thieves ≡ named_from (thief_lanes yard.lane_count) 0 yard.workers
  lanes_of =
      let n = yard.lane_count in
      lane_lists thieves ∙ ap (map (map (λ (p : ThiefPlace). p.0))) yard.others
      ∙ table_map (map (λ (p : ThiefPlace). p.0)) (λ w. map (λ l. (l, yard.deques l, seated (dealt yard.slices n l) (seat_of l w))) (thief_lanes n w)) yard.workers
      ∙ table_same _ (thief_lanes n) yard.workers (λ w lt. map_map (λ (p : ThiefPlace). p.0) (λ l. (l, yard.deques l, seated (dealt yard.slices n l) (seat_of l w))) (thief_lanes n w) ∙ map_same (thief_lanes n w))

  -- the passes of a lane whose lists the first workers have handed in
  count_so_far : (front back : List (Vec Thief Global)) (l : ℕ) → thieves ≡ front ++ back → l < yard.lane_count → length (lists_of l (flat_map (λ v. v.items) front)) + 1 ≡ seat_of l (length front)
  count_so_far front back l e lt =
      let n = yard.lane_count in
      let lanes_front : map (λ (v : Vec Thief Global). map (λ (t : Thief). t.lane) v.items) front ≡ named_from (thief_lanes n) 0 (length front) = table_front (λ (v : Vec Thief Global). map (λ (t : Thief). t.lane) v.items) (thief_lanes n) 0 yard.workers thieves front back e lanes_of in
      let a = flat_count n l 0 front lt lanes_front in
      let b = seat_before l 0 (omega arith) in
      let z : seat_of l (0 + length front) ≡ seat_of l (length front) = ap (seat_of l) (let k : 0 + length front ≡ length front = omega arith in k) in
      omega arith

  -- the next worker's thieves may be joined
  module _ (now : List Lane) (front back : List (Vec Thief Global)) (ends : Vec Thief Global) (e : thieves ≡ front ++ ends ∷ back)
      (so_far : (f : ℕ → LanePlace) (n : ℕ) → map lane_state lanes ≡ named_from f 0 n → map lane_state now ≡ named_from (λ k. ((f k).0, with_lists (lists_of k (flat_map (λ v. v.items) front)) (f k).1)) 0 n) where
    places_here : map thief_place ends.items ≡ map (λ l. (l, yard.deques l, seated (dealt yard.slices yard.lane_count l) (seat_of l (length front)))) (thief_lanes yard.lane_count (length front))
    places_here = table_mid (λ v. map thief_place v.items) (λ w. map (λ l. (l, yard.deques l, seated (dealt yard.slices yard.lane_count l) (seat_of l w))) (thief_lanes yard.lane_count w)) yard.workers thieves front back ends e yard.others

    record IsPlace (p : ThiefPlace) : Type 0 where
      lane : ℕ
      below : lane < yard.lane_count
      place : p ≡ (lane, yard.deques lane, seated (dealt yard.slices yard.lane_count lane) (seat_of lane (length front)))

    next_one : (t : Thief) → IsPlace (thief_place t) → IsNextOf (map lane_state now) t
    next_one t is =
        let l = is.lane in
        let lists = lists_of l (flat_map (λ (v : Vec Thief Global). v.items) front) in
        let lane : t.lane ≡ l = ap (λ (p : ThiefPlace). p.0) is.place in
        let deque : stealer_deque t.deque ≡ yard.deques l = ap (λ (p : ThiefPlace). p.1) is.place in
        let table = so_far first_of_lane yard.lane_count first_table in
        let known = first_is l is.below in
        record {
          hand = with_lists lists (first_of_lane l).1;
          place = ap (slice_get (map lane_state now)) lane ∙ ap (λ ps. slice_get ps l) table ∙ table_get _ yard.lane_count l is.below
              ∙ ap (λ (p : LanePlace). Some (p.0, with_lists lists (first_of_lane l).1)) known ∙ ap (λ d. Some ((d, false), with_lists lists (first_of_lane l).1)) (sym deque);
          seat =
              let closed : (first_of_lane l).1.closed ≡ [] = ap (λ (p : LanePlace). p.1.closed) known in
              let a : length ((first_of_lane l).1.closed ++ lists) ≡ length lists = ap (λ ls. length (ls ++ lists)) closed in
              let b = count_so_far front (ends ∷ back) l e is.below in
              let c : (thief_hand_of t).seat ≡ seat_of l (length front) = ap (λ (p : ThiefPlace). p.2.seat) is.place in
              omega arith;
        }

    pub next_all : All (IsNextOf (map lane_state now)) ends.items
    next_all =
        let n = yard.lane_count in
        let f : ℕ → ThiefPlace = λ l. (l, yard.deques l, seated (dealt yard.slices n l) (seat_of l (length front))) in
        let below : All (λ l. l < n) (thief_lanes n (length front)) = All_map (λ l. l < n) (λ i. i % n) (range_with_len (length front + 1) (thief_count n (length front))) (λ k d lt. mod-lt _ yard.some_lane) in
        let places : All IsPlace (map thief_place ends.items) = subst (λ ps. All IsPlace ps) (sym places_here) (All_map IsPlace f (thief_lanes n (length front)) (λ k d lt. record { lane = get_or (thief_lanes n (length front)) k d; below = below k d lt; place = refl })) in
        let each : All (λ t. IsPlace (thief_place t)) ends.items = All_unmap IsPlace thief_place ends.items places in
        λ k d lt. next_one (get_or ends.items k d) (each k d lt)

    pub once_each : (l : ℕ) → l < length now → length (thieves_of l ends.items) ≤ 1
    once_each l lt =
        let n = yard.lane_count in
        let table = so_far first_of_lane n first_table in
        let count : length now ≡ n = sym (length-map now lane_state) ∙ ap length table ∙ table_length _ n in
        let here : map (λ (t : Thief). t.lane) ends.items ≡ thief_lanes n (length front) = table_mid (λ v. map (λ t. t.lane) v.items) (thief_lanes n) yard.workers thieves front back ends e lanes_of in
        subst (λ k. k ≤ 1) (sym (count_of l ends.items ∙ ap (times l) here)) (times_once n (length front) l (omega arith))

  -- all lists were handed in
  module _ (now : List Lane) (so_far : (f : ℕ → LanePlace) (n : ℕ) → map lane_state lanes ≡ named_from f 0 n → map lane_state now ≡ named_from (λ k. ((f k).0, with_lists (lists_of k (flat_map (λ v. v.items) thieves)) (f k).1)) 0 n) where
    pub all_joined : All (λ l. (lane_hand l).seats ≡ length (lane_hand l).closed + 1) now
    all_joined =
        let n = yard.lane_count in
        let flat = flat_map (λ (v : Vec Thief Global). v.items) thieves in
        let table = so_far first_of_lane n first_table in
        let P : LanePlace → Type 0 = λ p. p.1.seats ≡ length p.1.closed + 1 in
        let each : All P (named_from (λ k. ((first_of_lane k).0, with_lists (lists_of k flat) (first_of_lane k).1)) 0 n) = table_all P _ n (λ k lt.
        let known = first_is k lt in
        let seats : (first_of_lane k).1.seats ≡ yard.workers = ap (λ (p : LanePlace). p.1.seats) known in
        let closed : (first_of_lane k).1.closed ≡ [] = ap (λ (p : LanePlace). p.1.closed) known in
        let a : length ((first_of_lane k).1.closed ++ lists_of k flat) ≡ length (lists_of k flat) = ap (λ ls. length (ls ++ lists_of k flat)) closed in
        let b = count_so_far thieves [] k (sym (append-nil thieves)) lt in
        let w = worker_count in
        let en = yard.enough in
        let c = seat_past k (length thieves) (omega arith) in
        omega arith) in
        All_unmap P lane_state now (subst (All P) (sym table) each)

    pub hands_closed : map lane_hand now ≡ closed_hands (map lane_hand lanes) (flat_map (λ v. v.items) thieves)
    hands_closed =
        let n = yard.lane_count in
        let flat = flat_map (λ (v : Vec Thief Global). v.items) thieves in
        let table = so_far first_of_lane n first_table in
        sym (map_map (λ (p : LanePlace). p.1) lane_state now) ∙ ap (map (λ (p : LanePlace). p.1)) table ∙ table_map (λ (p : LanePlace). p.1) _ n
        ∙ table_same _ (λ l. with_lists (lists_of l flat) (get_or (map lane_hand lanes) l owner_hand)) n
        (λ l lt. ap (with_lists (lists_of l flat)) (sym (get_or-map' (λ (p : LanePlace). p.1) (map lane_state lanes) l ((yard.deques 0, false), owner_hand)) ∙ ap (λ hs. get_or hs l owner_hand) (map_map (λ (p : LanePlace). p.1) lane_state lanes)))
        ∙ ap (named_from (λ l. with_lists (lists_of l flat) (get_or (map lane_hand lanes) l owner_hand)) 0) (sym (length-map lanes lane_hand ∙ lane_count))

    pub were_opened : IsNumbered yard.slices → WereOpened (length yard.slices) yard.lane_count yard.workers (map lane_hand now)
    were_opened numbered =
        let n = yard.lane_count in
        let flat = flat_map (λ (v : Vec Thief Global). v.items) thieves in
        let table : map lane_hand now ≡ named_from (λ l. with_lists (lists_of l flat) (first_of_lane l).1) 0 n =
        sym (map_map (λ (p : LanePlace). p.1) lane_state now) ∙ ap (map (λ (p : LanePlace). p.1)) (so_far first_of_lane n first_table) ∙ table_map (λ (p : LanePlace). p.1) _ n in
        let numbers : Hand → List ℕ = λ v. map (λ x. x.number) v.opening in
        record {
          enough = yard.enough;
          openings = ap (map numbers) table ∙ table_map numbers (λ l. with_lists (lists_of l flat) (first_of_lane l).1) n
              ∙ table_same _ (numbers_of (length yard.slices) n) n (λ l lt. ap (λ (p : LanePlace). numbers p.1) (first_is l lt) ∙ dealt_numbers yard.slices n l numbered);
          seats = subst (All (λ (v : Hand). v.seats ≡ yard.workers)) (sym table) (table_all (λ (v : Hand). v.seats ≡ yard.workers) (λ l. with_lists (lists_of l flat) (first_of_lane l).1) n
              (λ l lt. ap (λ (p : LanePlace). p.1.seats) (first_is l lt)));
        }

-- one worker's thieves more
pub joined_more : (now : List Lane) (vs : List (Vec Thief Global)) (ends : Vec Thief Global) (f : ℕ → LanePlace) (n : ℕ)
    → map lane_state now ≡ named_from (λ k. ((f k).0, with_lists (lists_of k ends.items) (with_lists (lists_of k (flat_map (λ v. v.items) vs)) (f k).1))) 0 n
    → map lane_state now ≡ named_from (λ k. ((f k).0, with_lists (lists_of k (flat_map (λ v. v.items) (vs ++ ends ∷ []))) (f k).1)) 0 n
joined_more now vs ends f n e =
    let items : Vec Thief Global → List Thief = λ v. v.items in
    e ∙ table_same _ _ n (λ k lt.
    let lists : lists_of k (flat_map items (vs ++ ends ∷ [])) ≡ lists_of k (flat_map items vs) ++ lists_of k ends.items =
    ap (lists_of k) (flat_map-append items vs (ends ∷ []) ∙ ap (λ l. flat_map items vs ++ l) (append-nil ends.items)) ∙ lists_append k (flat_map items vs) ends.items in
    λ i. ((f k).0, record (f k).1 { closed = (append_assoc (f k).1.closed (lists_of k (flat_map items vs)) (lists_of k ends.items) ∙ ap (λ ls. (f k).1.closed ++ ls) (sym lists)) i }))

pub so_far_all : (lanes now : List Lane) (yielded thieves : List (Vec Thief Global)) → yielded ≡ thieves
    → ((f : ℕ → LanePlace) (n : ℕ) → map lane_state lanes ≡ named_from f 0 n → map lane_state now ≡ named_from (λ k. ((f k).0, with_lists (lists_of k (flat_map (λ v. v.items) yielded)) (f k).1)) 0 n)
    → (f : ℕ → LanePlace) (n : ℕ) → map lane_state lanes ≡ named_from f 0 n → map lane_state now ≡ named_from (λ k. ((f k).0, with_lists (lists_of k (flat_map (λ v. v.items) thieves)) (f k).1)) 0 n
so_far_all lanes now yielded thieves e h f n first = h f n first ∙ ap (λ vs. named_from (λ k. ((f k).0, with_lists (lists_of k (flat_map (λ v. v.items) vs)) (f k).1)) 0 n) e

-- one more list among a lane's
pub joined_sum : (lanes : List Lane) (l : ℕ) (new d : Lane) (ts : List Thief) (t : Thief) → l < length lanes → lane_hand new ≡ with_list (lane_hand (get_or lanes l d)) (thief_hand_of t) → (first : List Lane)
    → ((h : Slice → ℕ) → sum_by (λ x. lists_sum h (lane_hand x)) lanes ≡ sum_by (λ x. lists_sum h (lane_hand x)) first + thieves_sum h ts)
    → (h : Slice → ℕ) → sum_by (λ x. lists_sum h (lane_hand x)) (set lanes l new) ≡ sum_by (λ x. lists_sum h (lane_hand x)) first + thieves_sum h (ts ++ t ∷ [])
joined_sum lanes l new d ts t within list first so_far h =
    let f : Lane → ℕ = λ x. lists_sum h (lane_hand x) in
    let g : Thief → ℕ = λ t. handed_sum h (thief_hand_of t) in
    let k : List Slice → ℕ = λ l. sum_by h l in
    let old : Hand = lane_hand (get_or lanes l d) in
    let a : sum_by f (set lanes l new) + f (get_or lanes l d) ≡ sum_by f lanes + f new = sum_by-set f lanes l new d within in
    let b : f new ≡ lists_sum h (with_list old (thief_hand_of t)) = ap (lists_sum h) list in
    let c = sum_by-append k old.closed ((thief_hand_of t).handed ∷ []) in
    let e = sum_by-cons k (thief_hand_of t).handed [] in
    let s = so_far h in
    let m = sum_by-append g ts (t ∷ []) in
    let n = sum_by-cons g t [] in
    omega arith
