-- A list in order that has just the slices of another is that list.
use Rattle.std.proofs.Common.{◌≡◌, ◌≢◌, ℕ, suc, ◌+◌, ◌<◌, ◌≤◌, ◌==◌, List, [], ◌∷◌, length, map, refl, arith, eq-eqb, ne_eqb}
use Rattle.std.specs.Prelude.{sum_by, if◌then◌else◌, slice_index_or}
use Rattle.std.specs.List.Sorted.{IsNonDecreasingBy}
use Rattle.std.proofs.lemmas.List.Sums.{sum_by-cons}
use Rattle.slice_yard.specs.declared.slices.Slice.{Slice}

-- the numbers count up from n
abbrev pub CountsFrom : ℕ → List Slice → Type 0
CountsFrom n [] = Unit {0}
CountsFrom n (x ∷ xs) = (x.number ≡ n) × CountsFrom (suc n) xs

-- the numbers are n or more, and do not fall
abbrev pub RisesFrom : ℕ → List Slice → Type 0
RisesFrom n [] = Unit {0}
RisesFrom n (x ∷ xs) = (n ≤ x.number) × RisesFrom x.number xs

-- h, where the number is n
at_number : ℕ → (Slice → ℕ) → Slice → ℕ
at_number n h s = if s.number == n then h s else 0

at_number-here : (n : ℕ) (h : Slice → ℕ) (s : Slice) → s.number ≡ n → at_number n h s ≡ h s
unfolding at_number
at_number-here n h s e = rw (eq-eqb s.number n e) refl

at_number-else : (n : ℕ) (h : Slice → ℕ) (s : Slice) → s.number ≢ n → at_number n h s ≡ 0
unfolding at_number
at_number-else n h s e = rw (ne_eqb s.number n e) refl

-- past n there is none of number n
none_counts : (n m : ℕ) (h : Slice → ℕ) (xs : List Slice) → n < m → CountsFrom m xs → sum_by (at_number n h) xs ≡ 0
none_counts n m h [] lt c = refl
none_counts n m h (x ∷ xs) lt c =
    let e = at_number-else n h x (λ is. let a = c.0 in omega arith) in
    let t = none_counts n (suc m) h xs (omega arith) c.1 in
    omega (arith, sum_by-cons (at_number n h) x xs)

none_rises : (n m : ℕ) (h : Slice → ℕ) (xs : List Slice) → n < m → RisesFrom m xs → sum_by (at_number n h) xs ≡ 0
none_rises n m h [] lt c = refl
none_rises n m h (x ∷ xs) lt c =
    let a = c.0 in
    let e = at_number-else n h x (λ is. omega arith) in
    let t = none_rises n x.number h xs (omega arith) c.1 in
    omega (arith, sum_by-cons (at_number n h) x xs)

one : Slice → ℕ
one s = 1

slice_same : (a b : Slice) → ((h : Slice → ℕ) → h a ≡ h b) → a ≡ b
slice_same a b e = λ i. record { number = e (λ s. s.number) i; from = e (λ s. s.from) i; count = e (λ s. s.count) i }

no_ones : (n : ℕ) (h : Slice → ℕ) (xs : List Slice) → sum_by (at_number n one) xs ≡ 0 → sum_by (at_number n h) xs ≡ 0
unfolding one
no_ones n h [] e = refl
no_ones n h (x ∷ xs) e =
    let s = sum_by-cons (at_number n one) x xs in
    let t = no_ones n h xs (omega arith) in
    let apart : x.number ≢ n = λ is. let k = at_number-here n one x is in omega arith in
    let z = at_number-else n h x apart in
    omega (arith, sum_by-cons (at_number n h) x xs)

pub same_list : (n m : ℕ) (xs ys : List Slice) → CountsFrom n xs → RisesFrom m ys → ((h : Slice → ℕ) → sum_by h xs ≡ sum_by h ys) → ys ≡ xs
unfolding one
same_list n m [] [] c r e = refl
same_list n m [] (b ∷ bs) c r e = let t = e one in absurd (omega (arith, sum_by-cons one b bs))
same_list n m (a ∷ as') [] c r e = let t = e one in absurd (omega (arith, sum_by-cons one a as'))
same_list n m (a ∷ as') (b ∷ bs) c r e =
    let mine : (h : Slice → ℕ) → sum_by (at_number n h) (a ∷ as') ≡ h a = λ h.
    let p = at_number-here n h a c.0 in
    let q = none_counts n (suc n) h as' (omega arith) c.1 in
    omega (arith, sum_by-cons (at_number n h) a as') in
    let one_mine = mine one in
    let one_same = e (at_number n one) in
    let cons_one = sum_by-cons (at_number n one) b bs in
    let not_above : (n < b.number) → ⊥ = λ lt.
    let p = at_number-else n one b (λ is. omega arith) in
    let q = none_rises n b.number one bs lt r.1 in
    omega arith in
    let not_below : (b.number < n) → ⊥ = λ lt.
    let p = at_number-here b.number one b refl in
    let q = none_counts b.number n one (a ∷ as') lt c in
    let s = e (at_number b.number one) in
    let t = sum_by-cons (at_number b.number one) b bs in
    omega arith in
    let is : b.number ≡ n = omega arith in
    let head_one = at_number-here n one b is in
    let rest_none : sum_by (at_number n one) bs ≡ 0 = omega arith in
    let heads : (h : Slice → ℕ) → h b ≡ h a = λ h.
    let p = at_number-here n h b is in
    let q = no_ones n h bs rest_none in
    let s = mine h in
    let t = e (at_number n h) in
    let u = sum_by-cons (at_number n h) b bs in
    omega arith in
    let first : b ≡ a = slice_same b a heads in
    let tails : (h : Slice → ℕ) → sum_by h as' ≡ sum_by h bs = λ h.
    let p = e h in let q = heads h in let s = sum_by-cons h a as' in let t = sum_by-cons h b bs in omega arith in
    let rest : bs ≡ as' = same_list (suc n) b.number as' bs c.1 r.1 tails in
    λ i. first i ∷ rest i

pub counts : (n : ℕ) (xs : List Slice) → ((k : ℕ) (d : Slice) → k < length xs → (slice_index_or xs k d).number ≡ n + k) → CountsFrom n xs
counts n [] h = tt
counts n (x ∷ xs) h = (
  let a : x.number ≡ n + 0 = h 0 x (omega arith) in omega arith,
  counts (suc n) xs (λ k d lt. let a : (slice_index_or xs k d).number ≡ n + suc k = h (suc k) d (omega arith) in omega arith),
)

pub rises : {X : Type 0} (slice : X → Slice) (n : ℕ) (xs : List X) → ((j : ℕ) (d : X) → j < length xs → n ≤ (slice (slice_index_or xs j d)).number)
    → IsNonDecreasingBy (λ x. (slice x).number) xs → RisesFrom n (map slice xs)
rises slice n [] low h = tt
rises slice n (x ∷ xs) low h = (
  low 0 x (omega arith),
  rises slice (slice x).number xs (λ j d lt. h 0 (suc j) d (omega arith) (omega arith)) (λ i j d le lt. h (suc i) (suc j) d (omega arith) (omega arith)),
)
