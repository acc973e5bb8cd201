-- Sums over lists that were changed.
use Rattle.std.proofs.Common.{◌≡◌, ◌≢◌, ⊎_elim, true, false, ℕ, zero, suc, ◌+◌, ◌%◌, ◌<◌, ◌≤◌, ◌==◌, List, [], ◌∷◌, map, All, refl, ap, ◌∙◌, arith, eq-eqb, ne_eqb}
use Rattle.std.specs.Prelude.{sum_by}
use Rattle.std.specs.List.{filter}
use Rattle.std.proofs.Math.Nat.{mod-lt}
use Rattle.std.proofs.lemmas.Bool.Decides.{eqb_tells}
use Rattle.std.proofs.lemmas.List.Sums.{sum_by-cons}
use Rattle.std.proofs.lemmas.List.Elements.{All-head, All-tail}
use Rattle.slice_core.specs.Named.{named_from}

pub sum_by-mapped : {A B : Type 0} (h : B → ℕ) (f : A → B) (xs : List A) → sum_by h (map f xs) ≡ sum_by (λ x. h (f x)) xs
sum_by-mapped h f [] = refl
sum_by-mapped {A} h f (x ∷ xs) = let a = sum_by-cons h (f x) (map f xs) in let b = sum_by-cons (λ (x : A). h (f x)) x xs in let c = sum_by-mapped h f xs in omega arith

pub sum_both : {X : Type 0} (f g : X → ℕ) (xs : List X) → sum_by f xs + sum_by g xs ≡ sum_by (λ x. f x + g x) xs
sum_both f g [] = refl
sum_both {X} f g (x ∷ xs) = let a = sum_by-cons f x xs in let b = sum_by-cons g x xs in let c = sum_by-cons (λ (x : X). f x + g x) x xs in let d = sum_both f g xs in omega arith

-- where two functions add up to a third at each element, so do their sums
pub sum_all : {X : Type 0} (f g k : X → ℕ) (xs : List X) → All (λ x. f x + g x ≡ k x) xs → sum_by f xs + sum_by g xs ≡ sum_by k xs
sum_all f g k [] h = refl
sum_all {X} f g k (x ∷ xs) h =
    let P : X → Type 0 = λ x. f x + g x ≡ k x in
    let a = sum_by-cons f x xs in let b = sum_by-cons g x xs in let c = sum_by-cons k x xs in
    let e : f x + g x ≡ k x = All-head P x xs h in
    let d = sum_all f g k xs (All-tail P x xs h) in
    omega arith

pub sum_none : {X : Type 0} (f : X → ℕ) (xs : List X) → All (λ x. f x ≡ 0) xs → sum_by f xs ≡ 0
sum_none f [] h = refl
sum_none {X} f (x ∷ xs) h =
    let P : X → Type 0 = λ x. f x ≡ 0 in
    let a = sum_by-cons f x xs in
    let e : f x ≡ 0 = All-head P x xs h in
    let d = sum_none f xs (All-tail P x xs h) in
    omega arith

-- dealing a list by a key loses nothing
module _ {X : Type 0} (key : X → ℕ) (h : X → ℕ) (x : X) (xs : List X) (n : ℕ) where
  here : (l : ℕ) → key x % n ≡ l → sum_by h (filter (λ x. key x % n == l) (x ∷ xs)) ≡ h x + sum_by h (filter (λ x. key x % n == l) xs)
  here l e = let a : filter (λ x. key x % n == l) (x ∷ xs) ≡ x ∷ filter (λ x. key x % n == l) xs = rw (eq-eqb (key x % n) l e) refl in ap (sum_by h) a ∙ sum_by-cons h x (filter (λ x. key x % n == l) xs)

  else_ : (l : ℕ) → key x % n ≢ l → sum_by h (filter (λ x. key x % n == l) (x ∷ xs)) ≡ sum_by h (filter (λ x. key x % n == l) xs)
  else_ l e = let a : filter (λ x. key x % n == l) (x ∷ xs) ≡ filter (λ x. key x % n == l) xs = rw (ne_eqb (key x % n) l e) refl in ap (sum_by h) a

  past : (s m : ℕ) → key x % n < s → sum_by (λ l. sum_by h l) (named_from (λ l. filter (λ x. key x % n == l) (x ∷ xs)) s m) ≡ sum_by (λ l. sum_by h l) (named_from (λ l. filter (λ x. key x % n == l) xs) s m)
  past s zero lt = refl
  past s (suc m) lt =
      let k : List X → ℕ = λ l. sum_by h l in
      let a = sum_by-cons k (filter (λ x. key x % n == s) (x ∷ xs)) (named_from (λ l. filter (λ x. key x % n == l) (x ∷ xs)) (s + 1) m) in
      let b = sum_by-cons k (filter (λ x. key x % n == s) xs) (named_from (λ l. filter (λ x. key x % n == l) xs) (s + 1) m) in
      let c = else_ s (λ e. omega arith) in
      let d = past (s + 1) m (omega arith) in
      omega arith

  once : (s m : ℕ) → s ≤ key x % n → key x % n < s + m → sum_by (λ l. sum_by h l) (named_from (λ l. filter (λ x. key x % n == l) (x ∷ xs)) s m) ≡ h x + sum_by (λ l. sum_by h l) (named_from (λ l. filter (λ x. key x % n == l) xs) s m)
  once s zero low high = absurd (omega arith)
  once s (suc m) low high =
      let k : List X → ℕ = λ l. sum_by h l in
      let a = sum_by-cons k (filter (λ x. key x % n == s) (x ∷ xs)) (named_from (λ l. filter (λ x. key x % n == l) (x ∷ xs)) (s + 1) m) in
      let b = sum_by-cons k (filter (λ x. key x % n == s) xs) (named_from (λ l. filter (λ x. key x % n == l) xs) (s + 1) m) in ⊎_elim
      (λ (e : ((key x % n == s) ≡ true) × (key x % n ≡ s)). let c = here s e.1 in let d = past (s + 1) m (let i = e.1 in omega arith) in omega arith)
      (λ (e : ((key x % n == s) ≡ false) × (key x % n ≢ s)). let c = else_ s e.1 in let d = once (s + 1) m (let i = e.1 in omega arith) (omega arith) in omega arith)
      (eqb_tells (key x % n) s)

nothing : {X : Type 0} (h : X → ℕ) (s m : ℕ) → sum_by (λ l. sum_by h l) (named_from (λ _. []) s m) ≡ 0
nothing h s zero = refl
nothing {X} h s (suc m) = let a = sum_by-cons (λ (l : List X). sum_by h l) [] (named_from (λ _. []) (s + 1) m) in let b = nothing h (s + 1) m in omega arith

pub filtered_sum : {X : Type 0} (key : X → ℕ) (h : X → ℕ) (xs : List X) (n : ℕ) → 0 < n → sum_by (λ l. sum_by h l) (named_from (λ l. filter (λ x. key x % n == l) xs) 0 n) ≡ sum_by h xs
filtered_sum key h [] n some = nothing h 0 n
filtered_sum key h (x ∷ xs) n some = let a = once key h x xs n 0 n (omega arith) (let b = mod-lt (key x) some in omega arith) in let c = filtered_sum key h xs n some in let d = sum_by-cons h x xs in omega arith
