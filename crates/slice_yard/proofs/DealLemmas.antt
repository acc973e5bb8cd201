-- Slices dealt to lanes in turn.
use Rattle.std.proofs.Common.{◌≡◌, ◌≢◌, ⊎_elim, true, false, add-one, ℕ, suc, ◌+◌, ◌*◌, ◌/◌, ◌%◌, ◌<◌, ◌≤◌, ◌==◌, List, [], ◌∷◌, ◌++◌, length, set, get_or, map, All, sym, refl, ap, ◌∙◌, subst, arith, append-nil, eq-eqb, ne_eqb, length-append}
use Rattle.std.specs.Prelude.{sum_by}
use Rattle.std.specs.List.{filter}
use Rattle.std.specs.Int.{div_ceil}
use Rattle.std.proofs.Math.Nat.{mod-lt, mul-zero, div-add-mod, lt_of_mul-lt-mul_left, mul-suc, mul-le-mul_left, div-lt_iff_lt-mul}
use Rattle.std.proofs.Math.Seq.{get_or-append_seam}
use Rattle.std.proofs.lemmas.Grind.{div_ceil_times}
use Rattle.std.proofs.lemmas.Bool.Decides.{eqb_tells}
use Rattle.std.proofs.lemmas.List.Elements.{filter-append, All-set}
use Rattle.slice_yard.specs.declared.slices.Slice.{Slice}
use Rattle.slice_yard.specs.declared.rule.Hand.{Hand}
use Rattle.slice_yard.specs.declared.lane.Lane.{Lane}
use Rattle.slice_yard.specs.Hands.{opened}
use Rattle.slice_yard.specs.Lane.{lane_hand, lane_index, lane_room}
use Rattle.slice_core.specs.Named.{named_from}
use Rattle.slice_yard.specs.Yard.{filled, dealt, IsEmptyLane}
use Rattle.slice_core.proofs.SumLemmas.{filtered_sum}
use Rattle.slice_core.proofs.Tables.{table_at, table_set, table_from}

module _ (xs : List Slice) (x : Slice) (n l : ℕ) where
  pub dealt_here : x.number % n ≡ l → dealt (xs ++ x ∷ []) n l ≡ dealt xs n l ++ x ∷ []
  dealt_here e = filter-append (λ y. y.number % n == l) xs (x ∷ []) ∙ ap (λ ys. dealt xs n l ++ ys) (let h : filter (λ y. y.number % n == l) (x ∷ []) ≡ x ∷ [] = rw (eq-eqb (x.number % n) l e) refl in h)

  pub dealt_else : x.number % n ≢ l → dealt (xs ++ x ∷ []) n l ≡ dealt xs n l
  dealt_else e = filter-append (λ y. y.number % n == l) xs (x ∷ []) ∙ ap (λ ys. dealt xs n l ++ ys) (let h : filter (λ y. y.number % n == l) (x ∷ []) ≡ [] = rw (ne_eqb (x.number % n) l e) refl in h) ∙ append-nil (dealt xs n l)

-- one more slice in its lane
pub hands_put : (lanes : List Lane) (n l : ℕ) (new d : Lane) (xs : List Slice) (x : Slice) → map lane_hand lanes ≡ named_from (λ k. filled (dealt xs n k) 1) 0 n → x.number % n ≡ l → l < n
    → lane_hand new ≡ opened (lane_hand (get_or lanes l d)) (x ∷ []) → map lane_hand (set lanes l new) ≡ named_from (λ k. filled (dealt (xs ++ x ∷ []) n k) 1) 0 n
hands_put lanes n l new d xs x so_far is lt put =
    table_set lane_hand (λ k. filled (dealt xs n k) 1) (λ k. filled (dealt (xs ++ x ∷ []) n k) 1) n lanes l new so_far lt
    (put ∙ ap (λ (v : Hand). opened v (x ∷ [])) (table_at lane_hand (λ k. filled (dealt xs n k) 1) n lanes l d so_far lt) ∙ ap (λ ys. filled ys 1) (sym (dealt_here xs x n l is)))
    (λ k lt other. ap (λ ys. filled ys 1) (sym (dealt_else xs x n k (λ e. other (sym e ∙ is)))))

-- how the first m slices spread over n lanes
pub record Spread (n m : ℕ) (xs : List Slice) : Type 0 where
  pub at : (j : ℕ) → j < n → n * length (dealt xs n j) + j < m + n

div_bound : (n k len l : ℕ) → l ≡ k % n → n * len + l < k + n → len < suc (k / n)
div_bound n k len l e lt =
    let a = div-add-mod k n in
    let b = mul-suc n (k / n) in
    let c : n * len < n * suc (k / n) = omega arith in
    lt_of_mul-lt-mul_left n c

-- the next slice has room in its lane
pub next_fits : (n k total : ℕ) (xs : List Slice) (j : ℕ) → 0 < n → j < n → k < total → j ≡ k % n → Spread n k xs → length (dealt xs n j) < div_ceil total n
next_fits n k total xs j some lt more is spread =
    let a = div_bound n k (length (dealt xs n j)) j is (spread.at j lt) in
    let b = (div_ceil_times total n some).0 in
    let c : k / n < div_ceil total n = (div-lt_iff_lt-mul {k = n} {x = k} {y = div_ceil total n} some).1 (omega arith) in
    omega arith

pub spread_none : (n : ℕ) → 0 < n → Spread n 0 []
spread_none n some = record { at = λ j lt. let z : n * 0 ≡ 0 = mul-zero n in omega arith }

-- the next slice goes where the lanes are shortest
pub spread_more : (n k : ℕ) (xs : List Slice) (x : Slice) → 0 < n → x.number ≡ k → Spread n k xs → Spread n (k + 1) (xs ++ x ∷ [])
spread_more n k xs x some is spread = record {
  at = λ j lt. ⊎_elim
      (λ (h : ((k % n == j) ≡ true) × (k % n ≡ j)).
      let here = dealt_here xs x n j (ap (λ m. m % n) is ∙ h.1) in
      let l : length (dealt (xs ++ x ∷ []) n j) ≡ suc (length (dealt xs n j)) = ap length here ∙ length-append (dealt xs n j) (x ∷ []) ∙ add-one (length (dealt xs n j)) in
      let a = div_bound n k (length (dealt xs n j)) j (sym h.1) (spread.at j lt) in
      let b = mul-le-mul_left {m = length (dealt xs n j)} {n = k / n} n (omega arith) in
      let c = mul-suc n (length (dealt xs n j)) in
      let d = div-add-mod k n in
      let e = h.1 in
      rw l (omega arith))
      (λ (h : ((k % n == j) ≡ false) × (k % n ≢ j)).
      let l : length (dealt (xs ++ x ∷ []) n j) ≡ length (dealt xs n j) = ap length (dealt_else xs x n j (λ at. h.1 (ap (λ m. m % n) (sym is) ∙ at))) in
      let s = spread.at j lt in
      rw l (omega arith))
      (eqb_tells (k % n) j);
}

-- a slice's number is its place
pub number_is : (xs front back : List Slice) (x : Slice) → ((k : ℕ) (d : Slice) → k < length xs → (get_or xs k d).number ≡ k) → xs ≡ front ++ x ∷ back → (x.number ≡ length front) × (length front < length xs)
number_is xs front back x numbered e =
    let n = ap length e ∙ length-append front (x ∷ back) in
    let lt : length front < length xs = omega arith in
    (ap (λ (y : Slice). y.number) (sym (get_or-append_seam front x back x)) ∙ ap (λ l. (get_or l (length front) x).number) (sym e) ∙ numbered (length front) x lt, lt)

-- lanes of n, made for so many slices, in which the first ones were put
pub record IsDealt (n total : ℕ) (xs : List Slice) (lanes : List Lane) : Type 0 where
  pub hands : map lane_hand lanes ≡ named_from (λ k. filled (dealt xs n k) 1) 0 n
  pub spread : Spread n (length xs) xs
  pub index : All (λ x. lane_index x ≡ length (lane_hand x).opening) lanes
  pub room : All (λ x. div_ceil total n ≤ lane_room x) lanes

pub nothing_dealt : (total : ℕ) (lanes : List Lane) → 0 < length lanes → All (IsEmptyLane (div_ceil total (length lanes))) lanes → IsDealt (length lanes) total [] lanes
nothing_dealt total lanes some empty = record {
  hands = table_from lane_hand (λ k. filled (dealt [] (length lanes) k) 1) 0 lanes (λ k d lt. (empty k d lt).hand);
  spread = spread_none (length lanes) some;
  index = λ k d lt. (empty k d lt).index ∙ ap (λ (v : Hand). length v.opening) (sym (empty k d lt).hand);
  room = λ k d lt. (empty k d lt).fits;
}

-- the next slice x is put into the lane at l
module _ (n total : ℕ) (xs all rest : List Slice) (x : Slice) (lanes : List Lane) (d : Lane) (some : 0 < n) (count : length lanes ≡ n) (so_far : IsDealt n total xs lanes)
    (numbered : (k : ℕ) (d : Slice) → k < length all → (get_or all k d).number ≡ k) (is_total : length all ≡ total) (e : all ≡ xs ++ x ∷ rest) where
  here : x.number % n ≡ x.number % length lanes
  here = ap (λ m. x.number % m) (sym count)

  within : x.number % length lanes < n
  within = let a = mod-lt x.number {m = length lanes} (omega arith) in omega arith

  hand : lane_hand (get_or lanes (x.number % length lanes) d) ≡ filled (dealt xs n (x.number % length lanes)) 1
  hand = table_at lane_hand (λ k. filled (dealt xs n k) 1) n lanes (x.number % length lanes) d so_far.hands within

  pub alone_here : (lane_hand (get_or lanes (x.number % length lanes) d)).seats ≡ 1
  alone_here = ap (λ (v : Hand). v.seats) hand

  pub room_here : lane_index (get_or lanes (x.number % length lanes) d) < lane_room (get_or lanes (x.number % length lanes) d)
  room_here =
      let w : x.number % length lanes < length lanes = let a = within in omega arith in
      let is = number_is all xs rest x numbered e in
      let index = so_far.index (x.number % length lanes) d w ∙ ap (λ (v : Hand). length v.opening) hand in
      let room = so_far.room (x.number % length lanes) d w in
      let fits = next_fits n (length xs) total xs (x.number % length lanes) some within (let a = is.1 in omega arith) (sym here ∙ ap (λ m. m % n) is.0) so_far.spread in
      omega arith

  pub one_dealt : (new : Lane) → lane_hand new ≡ opened (lane_hand (get_or lanes (x.number % length lanes) d)) (x ∷ []) → lane_room (get_or lanes (x.number % length lanes) d) ≤ lane_room new
      → lane_index new ≡ lane_index (get_or lanes (x.number % length lanes) d) + 1 → IsDealt n total (xs ++ x ∷ []) (set lanes (x.number % length lanes) new)
  one_dealt new put room index =
      let w : x.number % length lanes < length lanes = let a = within in omega arith in
      let is = number_is all xs rest x numbered e in
      let longer : length ((lane_hand (get_or lanes (x.number % length lanes) d)).opening ++ x ∷ []) ≡ length (lane_hand (get_or lanes (x.number % length lanes) d)).opening + 1 = length-append _ (x ∷ []) in
      record {
        hands = hands_put lanes n (x.number % length lanes) new d xs x so_far.hands here within put;
        spread = subst (λ m. Spread n m (xs ++ x ∷ [])) (sym (length-append xs (x ∷ []))) (spread_more n (length xs) xs x some is.0 so_far.spread);
        index = All-set (λ (x : Lane). lane_index x ≡ length (lane_hand x).opening) lanes (x.number % length lanes) new
            (let a = so_far.index (x.number % length lanes) d w in let b = ap (λ (v : Hand). length v.opening) put in omega arith) so_far.index;
        room = All-set (λ (x : Lane). div_ceil total n ≤ lane_room x) lanes (x.number % length lanes) new (let a = so_far.room (x.number % length lanes) d w in omega arith) so_far.room;
      }

pub dealt_sum : (h : Slice → ℕ) (xs : List Slice) (n : ℕ) → 0 < n → sum_by (λ l. sum_by h l) (named_from (dealt xs n) 0 n) ≡ sum_by h xs
dealt_sum h xs n some = filtered_sum (λ (x : Slice). x.number) h xs n some
