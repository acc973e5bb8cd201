-- Two lists that are gone over side by side.
use Rattle.std.proofs.Common.{◌≡◌, ℕ, zero, suc, ◌+◌, ◌<◌, Bool, true, false, cond, List, [], ◌∷◌, length, map, drop, Some, None, refl, sym, ◌∙◌, ap, arith}
use Rattle.std.specs.Prelude.{filter, slice_get}
use Rattle.std.proofs.lemmas.List.{drop_more}
use Rattle.std.proofs.lemmas.Option.{get_or_from_slice_get, slice_get_within}

-- what stands at a place, and what stands behind it
pub drop_at : {X : Type 0} (xs : List X) (i : ℕ) (x : X) → slice_get xs i ≡ Some x → drop i xs ≡ x ∷ drop (i + 1) xs
drop_at {X} xs i x at =
    drop_more xs i x (slice_get_within xs i x at)
    ∙ ap (λ (y : X). y ∷ drop (i + 1) xs) (get_or_from_slice_get xs i x x at)

-- nothing stands behind the end
pub drop_past : {X : Type 0} (xs : List X) (i : ℕ) → slice_get xs i ≡ None → drop i xs ≡ []
drop_past [] zero at = refl
drop_past [] (suc i) at = refl
drop_past (x ∷ xs) zero at = let no : Some x ≡ None = at in absurd cc
drop_past (x ∷ xs) (suc i) at = drop_past xs i at

-- an item that the test keeps, and one that it does not
pub kept_at : {X : Type 0} (q : X → Bool) (xs : List X) (i : ℕ) (x : X) → slice_get xs i ≡ Some x → q x ≡ true
    → filter q (drop i xs) ≡ x ∷ filter q (drop (i + 1) xs)
kept_at q xs i x at passes = ap (filter q) (drop_at xs i x at) ∙ rw passes refl

pub passed_at : {X : Type 0} (q : X → Bool) (xs : List X) (i : ℕ) (x : X) → slice_get xs i ≡ Some x → q x ≡ false
    → filter q (drop i xs) ≡ filter q (drop (i + 1) xs)
passed_at q xs i x at fails = ap (filter q) (drop_at xs i x at) ∙ rw fails refl

-- the same item at a place of each
pub alike_at : {X : Type 0} (q : X → Bool) (xs ys : List X) (i j : ℕ) (x y : X) → slice_get xs i ≡ Some x
    → slice_get ys j ≡ Some y → x ≡ y → filter q (drop (i + 1) xs) ≡ filter q (drop (j + 1) ys)
    → filter q (drop i xs) ≡ filter q (drop j ys)
alike_at {X} q xs ys i j x y at there same rest =
    ap (filter q) (drop_at xs i x at) ∙ by_test (q x)
    ∙ ap (λ (z : X). filter q (z ∷ drop (j + 1) ys)) same ∙ sym (ap (filter q) (drop_at ys j y there))
  where
    by_test : (b : Bool) → cond b (x ∷ filter q (drop (i + 1) xs)) (filter q (drop (i + 1) xs))
        ≡ cond b (x ∷ filter q (drop (j + 1) ys)) (filter q (drop (j + 1) ys))
    by_test true = ap (λ (zs : List X). x ∷ zs) rest
    by_test false = rest

-- an item that the test keeps, and one that looks like it
pub mapped_at : {X Y : Type 0} (q : X → Bool) (f : X → Y) (xs ys : List X) (i j : ℕ) (x y : X) → slice_get xs i ≡ Some x
    → slice_get ys j ≡ Some y → q x ≡ true → f x ≡ f y
    → map f (filter q (drop (i + 1) xs)) ≡ map f (drop (j + 1) ys) → map f (filter q (drop i xs)) ≡ map f (drop j ys)
mapped_at {X} {Y} q f xs ys i j x y at there passes same rest =
    ap (map f) (kept_at q xs i x at passes) ∙ ap (λ (zs : List Y). f x ∷ zs) rest
    ∙ ap (λ (z : Y). z ∷ map f (drop (j + 1) ys)) same ∙ sym (ap (map f) (drop_at ys j y there))

-- something stands at each place
pub there_is : {X : Type 0} (xs : List X) (i : ℕ) → i < length xs → (x : X) × (slice_get xs i ≡ Some x)
there_is [] i lt = absurd (omega (arith, lt))
there_is (x ∷ xs) zero lt = (x, refl)
there_is (x ∷ xs) (suc i) lt = there_is xs i (omega (arith, lt))
