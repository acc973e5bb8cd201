-- What a partition point tells of a list, and what `get` gives.
use Rattle.std.proofs.Common.{◌≡◌, ℕ, zero, suc, ◌<◌, ◌≤◌, nat_lt, nat_le, Bool, true, false, not, List, [], ◌∷◌, length, get_or, take, drop, slice_get, filter, Option, None, Some, is_some, Bor, refl, sym, ap, ◌∙◌, arith}
use Rattle.std.proofs.lemmas.Bool.Decides.{nat_tests}
use Rattle.std.proofs.lemmas.Option.{slice_get_past, slice_get-get_or}
use Rattle.std.specs.Option.{option_copied, IfSome}
use Rattle.std.specs.List.{last_or}
use Rattle.std.specs.List.Sorted.{IsPartitionPoint}

pub copied_get : {X : Type 0} (xs : List X) (i : ℕ) (o : Option (Bor X)) → is_some o ≡ nat_lt i (length xs) → IfSome o (λ x. x.now ≡ get_or xs i x.now) → option_copied o ≡ slice_get xs i
copied_get xs i None within is = let no : false ≡ nat_lt i (length xs) = within in let past : length xs ≤ i = grind (arith, nat_tests) in sym (slice_get_past xs i past)
copied_get xs i (Some x) within is = let yes : true ≡ nat_lt i (length xs) = within in let inside : i < length xs = grind (arith, nat_tests) in ap Some is ∙ sym (slice_get-get_or xs i x.now inside)

module _ {X : Type 0} (p : X → Bool) where
  -- those that pass are the ones before it
  pub filter-before : (xs : List X) (c : ℕ) → c ≤ length xs → IsPartitionPoint (λ y. p y ≡ true) (λ y. p y ≡ false) xs c → filter p xs ≡ take c xs
  filter-before [] zero within point = refl
  filter-before [] (suc c) within point = absurd (omega arith)
  filter-before (x ∷ xs) zero within point =
      rw (point.1 0 x (omega arith) (omega arith)) (filter-before xs 0 (omega arith) (λ k d l h. absurd (omega arith), λ k d l h. point.1 (suc k) d (omega arith) (omega arith)))
  filter-before (x ∷ xs) (suc c) within point =
      rw (point.0 0 x (omega arith) (omega arith)) (ap (λ ys. x ∷ ys) (filter-before xs c (omega arith) (λ k d l h. point.0 (suc k) d (omega arith) (omega arith), λ k d l h. point.1 (suc k) d (omega arith) (omega arith))))

  -- and those that do not are the ones from it on
  pub filter-behind : (xs : List X) (c : ℕ) → c ≤ length xs → IsPartitionPoint (λ y. p y ≡ true) (λ y. p y ≡ false) xs c → filter (λ y. not (p y)) xs ≡ drop c xs
  filter-behind [] zero within point = refl
  filter-behind [] (suc c) within point = absurd (omega arith)
  filter-behind (x ∷ xs) zero within point =
      rw (point.1 0 x (omega arith) (omega arith)) (ap (λ ys. x ∷ ys) (filter-behind xs 0 (omega arith) (λ k d l h. absurd (omega arith), λ k d l h. point.1 (suc k) d (omega arith) (omega arith))))
  filter-behind (x ∷ xs) (suc c) within point =
      rw (point.0 0 x (omega arith) (omega arith)) (filter-behind xs c (omega arith) (λ k d l h. point.0 (suc k) d (omega arith) (omega arith), λ k d l h. point.1 (suc k) d (omega arith) (omega arith)))

pub filter-same : {X : Type 0} (p q : X → Bool) (xs : List X) → ((x : X) → p x ≡ q x) → filter p xs ≡ filter q xs
filter-same p q [] same = refl
filter-same p q (x ∷ xs) same = rw (same x, filter-same p q xs same) refl

-- the last of the first ones
pub last-take : {X : Type 0} (o : Option X) (xs : List X) (c : ℕ) → c < length xs → last_or o (take (suc c) xs) ≡ slice_get xs c
last-take o [] c h = absurd (omega arith)
last-take o (x ∷ xs) zero h = refl
last-take o (x ∷ xs) (suc c) h = last-take (Some x) xs c (omega arith)

pub not-le : (n i : ℕ) → nat_lt i n ≡ not (nat_le n i)
not-le n i = grind (arith, nat_tests)
