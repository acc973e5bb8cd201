-- Places in a list that grows.
use Rattle.std.proofs.Common.{◌≡◌, ◌≢◌, is_some, nat_lt, Bor, ℕ, zero, suc, ◌+◌, ◌<◌, ◌≤◌, Bool, true, false, ◌&&◌, cond, List, [], ◌∷◌, ◌++◌, length, map, take, refl, sym, ◌∙◌, ap, subst, Option, None, Some, ◌||◌, ◌⊎◌, inl, inr, arith, get_or, leb}
use Rattle.std.proofs.lemmas.Bool.{lt-leb}
use Rattle.std.proofs.Math.Nat.{eq-or-lt_of_le}
use Rattle.std.specs.Prelude.{slice_get, option_map, slice_set}
use Rattle.std.specs.Option.{IfSome}
use Rattle.std.proofs.lemmas.Bool.Decides.{nat_tests}
use Rattle.std.specs.List.{list_any}
use Rattle.std.proofs.lemmas.Option.{slice_get_within, slice_get_past, slice_get-map, slice_get_read}
use Rattle.marks.specs.Placed.{passes, last_place, in_front, newest_first}

pub and-left : (a b : Bool) → (a && b) ≡ true → a ≡ true
and-left true b h = refl
and-left false b h = h

pub and-right : (a b : Bool) → (a && b) ≡ true → b ≡ true
and-right true b h = h
and-right false b h = cc

-- what is after a number fails a test for those up to it
pub after-not : (b : Bool) (n s : ℕ) → s < n → (b && leb n s) ≡ false
after-not true n s h = lt-leb n s h
after-not false n s h = refl

pub or-second : (a b : Bool) → b ≡ true → (a || b) ≡ true
or-second true b h = refl
or-second false b h = h

-- ---- items of a longer list

pub slice_get-front : {X : Type 0} (xs ys : List X) (i : ℕ) → i < length xs → slice_get (xs ++ ys) i ≡ slice_get xs i
slice_get-front [] ys i h = absurd (omega (arith, h))
slice_get-front (x ∷ xs) ys zero h = refl
slice_get-front (x ∷ xs) ys (suc i) h = slice_get-front xs ys i (omega (arith, h))

pub slice_get-next : {X : Type 0} (xs : List X) (y : X) → slice_get (xs ++ y ∷ []) (length xs) ≡ Some y
slice_get-next [] y = refl
slice_get-next (x ∷ xs) y = slice_get-next xs y

pub slice_get-kept : {X : Type 0} (xs ys : List X) (i : ℕ) (x : X) → slice_get xs i ≡ Some x → slice_get (xs ++ ys) i ≡ Some x
slice_get-kept xs ys i x e = slice_get-front xs ys i (slice_get_within xs i x e) ∙ e

-- an item that was read from a slice of the list
pub read_item : {X : Type 0} (xs slice : List X) (i : ℕ) (x : X) → slice ≡ xs → i < length slice → x ≡ get_or slice i x → slice_get xs i ≡ Some x
read_item xs slice i x same within is = subst (λ ys. slice_get ys i ≡ Some x) same (slice_get_read slice (length slice) i x refl within is)

-- what `get` gave
pub read_option : {X : Type 0} (xs : List X) (i : ℕ) (o : Option (Bor X)) → is_some o ≡ nat_lt i (length xs)
    → IfSome o (λ x. x.now ≡ get_or xs i x.now) → option_map (λ (x : Bor X). x.now) o ≡ slice_get xs i
read_option xs i None within is =
    let no : false ≡ nat_lt i (length xs) = within in
    let past : length xs ≤ i = grind (arith, nat_tests) in
    sym (slice_get_past xs i past)
read_option xs i (Some x) within is =
    let yes : true ≡ nat_lt i (length xs) = within in
    let inside : i < length xs = grind (arith, nat_tests) in
    sym (slice_get_read xs (length xs) i x.now refl inside is)

-- an item of a list that is one longer
pub slice_get-cases : {X : Type 0} (xs : List X) (y : X) (i : ℕ) (x : X) → slice_get (xs ++ y ∷ []) i ≡ Some x → (slice_get xs i ≡ Some x) ⊎ ((i ≡ length xs) × (y ≡ x))
slice_get-cases [] y zero x e = inr (refl, cc)
slice_get-cases [] y (suc i) x e = absurd cc
slice_get-cases (z ∷ zs) y zero x e = inl e
slice_get-cases (z ∷ zs) y (suc i) x e = elim (slice_get-cases zs y i x e) [
  | inl h ↦ inl h
  | inr h ↦ inr (ap suc h.0, h.1)
]

-- an item of a list in which one was replaced
pub slice_get-set : {X : Type 0} (xs : List X) (i k : ℕ) (x y : X) → slice_get (slice_set xs i y) k ≡ Some x → ((k ≡ i) × (y ≡ x)) ⊎ ((k ≢ i) × (slice_get xs k ≡ Some x))
slice_get-set [] i k x y e = absurd cc
slice_get-set (z ∷ zs) zero zero x y e = inl (refl, cc)
slice_get-set (z ∷ zs) zero (suc k) x y e = inr (λ h. omega (arith, h), e)
slice_get-set (z ∷ zs) (suc i) zero x y e = inr (λ h. omega (arith, h), e)
slice_get-set (z ∷ zs) (suc i) (suc k) x y e = elim (slice_get-set zs i k x y e) [
  | inl h ↦ inl (ap suc h.0, h.1)
  | inr h ↦ inr (λ s. h.0 (let same : k ≡ i = omega (arith, s) in same), h.1)
]

pub length-set : {X : Type 0} (xs : List X) (i : ℕ) (y : X) → length (slice_set xs i y) ≡ length xs
length-set [] i y = refl
length-set (x ∷ xs) zero y = refl
length-set (x ∷ xs) (suc i) y = ap suc (length-set xs i y)

-- items at which two functions agree
pub map-same_items : {X Y : Type 0} (f g : X → Y) (xs : List X) → ((i : ℕ) (x : X) → slice_get xs i ≡ Some x → f x ≡ g x) → map f xs ≡ map g xs
map-same_items f g [] same = refl
map-same_items f g (x ∷ xs) same = rw (same zero x refl, map-same_items f g xs (λ i y e. same (suc i) y e)) refl

pub length-more : {X : Type 0} (xs : List X) (y : X) → length (xs ++ y ∷ []) ≡ suc (length xs)
length-more [] y = refl
length-more (x ∷ xs) y = ap suc (length-more xs y)

-- a list by its last item
pub with_last : {X : Type 0} (xs : List X) (n : ℕ) (x : X) → slice_get xs n ≡ Some x → length xs ≡ suc n → xs ≡ take n xs ++ x ∷ []
with_last [] n x at long = absurd cc
with_last (y ∷ []) zero x at long = cc
with_last (y ∷ z ∷ zs) zero x at long = absurd (omega (arith, long))
with_last (y ∷ ys) (suc n) x at long = ap (λ zs. y ∷ zs) (with_last ys n x at (omega (arith, long)))

pub last_place-front : {X : Type 0} (p : X → Bool) (xs ys : List X) (n : ℕ) → n ≤ length xs → last_place p (xs ++ ys) n ≡ last_place p xs n
last_place-front p xs ys zero h = refl
last_place-front p xs ys (suc n) h =
    let further = last_place-front p xs ys n (omega (arith, h)) in
    let here = slice_get-front xs ys n (omega (arith, h)) in
    rw (here, further) refl

-- ---- the last place

pub last_place-within : {X : Type 0} (p : X → Bool) (xs : List X) (n : ℕ) → last_place p xs n ≤ n
last_place-within p xs zero = omega arith
last_place-within p xs (suc n) = pick (passes p (slice_get xs n)) (last_place-within p xs n)
  where
    pick : (b : Bool) → last_place p xs n ≤ n → cond b (suc n) (last_place p xs n) ≤ suc n
    pick true h = omega arith
    pick false h = omega (arith, h)

-- the item at the last place passes
pub at_last_place : {X : Type 0} (p : X → Bool) (xs : List X) (n m : ℕ) → last_place p xs n ≡ suc m → (x : X) × (slice_get xs m ≡ Some x) × (p x ≡ true) × (m < n)
at_last_place p xs zero m e = absurd cc
at_last_place {X} p xs (suc n) m e = pick (slice_get xs n) refl e (at_last_place p xs n m)
  where
    Before : Type 0
    Before = last_place p xs n ≡ suc m → (x : X) × (slice_get xs m ≡ Some x) × (p x ≡ true) × (m < n)

    Found : Type 0
    Found = (x : X) × (slice_get xs m ≡ Some x) × (p x ≡ true) × (m < suc n)

    later : Before → last_place p xs n ≡ suc m → Found
    later before h = let w = before h in let less = w.3 in (w.0, w.1, w.2, omega (arith, less))

    by_test : (x : X) → slice_get xs n ≡ Some x → (b : Bool) → p x ≡ b → cond b (suc n) (last_place p xs n) ≡ suc m → Before → Found
    by_test x is true t h before =
        let same : n ≡ m = omega (arith, h) in
        (x, subst (λ (k : ℕ). slice_get xs k ≡ Some x) same is, t, omega (arith, same))
    by_test x is false t h before = later before h

    pick : (o : Option X) → slice_get xs n ≡ o → cond (passes p o) (suc n) (last_place p xs n) ≡ suc m → Before → Found
    pick None is h before = later before h
    pick (Some x) is h before = by_test x is (p x) refl h before

pub last_place-here : {X : Type 0} (p : X → Bool) (xs : List X) (m : ℕ) (x : X) → slice_get xs m ≡ Some x → p x ≡ true → last_place p xs (suc m) ≡ suc m
last_place-here p xs m x is t = rw (is, t) refl

-- tests that agree on the items
pub last_place-same : {X : Type 0} (p q : X → Bool) (xs : List X) → ((i : ℕ) (x : X) → slice_get xs i ≡ Some x → p x ≡ q x) → (n : ℕ) → last_place p xs n ≡ last_place q xs n
last_place-same p q xs same zero = refl
last_place-same {X} p q xs same (suc n) = pick (slice_get xs n) refl (last_place-same p q xs same n)
  where
    pick : (o : Option X) → slice_get xs n ≡ o → last_place p xs n ≡ last_place q xs n → cond (passes p o) (suc n) (last_place p xs n) ≡ cond (passes q o) (suc n) (last_place q xs n)
    pick None is h = h
    pick (Some x) is h = rw (same n x is, h) refl

-- where no item passes
pub last_place-none : {X : Type 0} (p : X → Bool) (xs : List X) → ((i : ℕ) (x : X) → slice_get xs i ≡ Some x → p x ≡ false) → (n : ℕ) → last_place p xs n ≡ 0
last_place-none p xs none zero = refl
last_place-none {X} p xs none (suc n) = pick (slice_get xs n) refl (last_place-none p xs none n)
  where
    pick : (o : Option X) → slice_get xs n ≡ o → last_place p xs n ≡ 0 → cond (passes p o) (suc n) (last_place p xs n) ≡ 0
    pick None is h = h
    pick (Some x) is h = rw (none n x is) h

-- of what a function gives
pub last_place-map : {X Y : Type 0} (f : X → Y) (p : Y → Bool) (xs : List X) (n : ℕ) → last_place p (map f xs) n ≡ last_place (λ x. p (f x)) xs n
last_place-map f p xs zero = refl
last_place-map {X} f p xs (suc n) = rw (slice_get-map f xs n, last_place-map f p xs n) (pick (slice_get xs n))
  where
    pick : (o : Option X) → cond (passes p (option_map f o)) (suc n) (last_place (λ x. p (f x)) xs n) ≡ cond (passes (λ x. p (f x)) o) (suc n) (last_place (λ x. p (f x)) xs n)
    pick None = refl
    pick (Some x) = refl

-- with one more item
pub last_place-more : {X : Type 0} (p : X → Bool) (xs : List X) (y : X) → last_place p (xs ++ y ∷ []) (length (xs ++ y ∷ [])) ≡ cond (p y) (suc (length xs)) (last_place p xs (length xs))
last_place-more p xs y =
    ap (last_place p (xs ++ y ∷ [])) (length-more xs y)
    ∙ ap (λ o. cond (passes p o) (suc (length xs)) (last_place p (xs ++ y ∷ []) (length xs))) (slice_get-next xs y)
    ∙ ap (λ n. cond (p y) (suc (length xs)) n) (last_place-front p xs (y ∷ []) (length xs) (let h : length xs ≤ length xs = omega arith in h))

-- ---- the items, the last first

pub newest_first-through : {X : Type 0} (p q : X → Bool) → ((x : X) → p x ≡ true → q x ≡ true) → (xs : List X) (n : ℕ) → newest_first p xs n ≡ newest_first p xs (last_place q xs n)
newest_first-through p q sub xs zero = refl
newest_first-through {X} p q sub xs (suc n) = pick (slice_get xs n) refl (newest_first-through p q sub xs n)
  where
    Before : Type 0
    Before = newest_first p xs n ≡ newest_first p xs (last_place q xs n)

    by_tests : (x : X) → slice_get xs n ≡ Some x → (b c : Bool) → p x ≡ b → q x ≡ c → Before → cond b (x ∷ newest_first p xs n) (newest_first p xs n) ≡ newest_first p xs (cond c (suc n) (last_place q xs n))
    by_tests x is b true t u before = ap (λ (v : Bool). cond v (x ∷ newest_first p xs n) (newest_first p xs n)) (sym t) ∙ ap (λ (o : Option X). in_front p o (newest_first p xs n)) (sym is)
    by_tests x is true false t u before = absurd (let h = sub x t in cc)
    by_tests x is false false t u before = before

    pick : (o : Option X) → slice_get xs n ≡ o → Before → in_front p o (newest_first p xs n) ≡ newest_first p xs (cond (passes q o) (suc n) (last_place q xs n))
    pick None is before = before
    pick (Some x) is before = by_tests x is (p x) (q x) refl refl before

pub newest_first-here : {X : Type 0} (p : X → Bool) (xs : List X) (m : ℕ) (x : X) → slice_get xs m ≡ Some x → p x ≡ true → newest_first p xs (suc m) ≡ x ∷ newest_first p xs m
newest_first-here p xs m x is t = rw (is, t) refl

pub newest_first-not_here : {X : Type 0} (p : X → Bool) (xs : List X) (m : ℕ) (x : X) → slice_get xs m ≡ Some x → p x ≡ false → newest_first p xs (suc m) ≡ newest_first p xs m
newest_first-not_here p xs m x is t = rw (is, t) refl

-- places past which no item passes
pub newest_first-past : {X : Type 0} (p : X → Bool) (xs : List X) (a d : ℕ) → ((i : ℕ) (x : X) → a ≤ i → i < a + d → slice_get xs i ≡ Some x → p x ≡ false) → newest_first p xs (a + d) ≡ newest_first p xs a
newest_first-past p xs a zero none = ap (newest_first p xs) (let e : a + 0 ≡ a = omega arith in e)
newest_first-past {X} p xs a (suc d) none =
    ap (newest_first p xs) (let e : a + suc d ≡ suc (a + d) = omega arith in e)
    ∙ pick (slice_get xs (a + d)) refl
    ∙ newest_first-past p xs a d (λ i x h k is. none i x h (omega (arith, k)) is)
  where
    pick : (o : Option X) → slice_get xs (a + d) ≡ o → in_front p o (newest_first p xs (a + d)) ≡ newest_first p xs (a + d)
    pick None is = refl
    pick (Some x) is = rw (none (a + d) x (omega arith) (omega arith) is) refl

-- ---- what is among them

-- a test that one of them passes
pub given_at : {X : Type 0} (p r : X → Bool) (xs : List X) (n : ℕ) → list_any r (newest_first p xs n) ≡ true → (m : ℕ) × (x : X) × (m < n) × (slice_get xs m ≡ Some x) × (p x ≡ true) × (r x ≡ true)
given_at p r xs zero h = absurd cc
given_at {X} p r xs (suc n) h = pick (slice_get xs n) refl h (given_at p r xs n)
  where
    Before : Type 0
    Before = list_any r (newest_first p xs n) ≡ true → (m : ℕ) × (x : X) × (m < n) × (slice_get xs m ≡ Some x) × (p x ≡ true) × (r x ≡ true)

    Found : Type 0
    Found = (m : ℕ) × (x : X) × (m < suc n) × (slice_get xs m ≡ Some x) × (p x ≡ true) × (r x ≡ true)

    later : Before → list_any r (newest_first p xs n) ≡ true → Found
    later before k = let w = before k in let less = w.2 in (w.0, w.1, omega (arith, less), w.3, w.4, w.5)

    by_tests : (x : X) → slice_get xs n ≡ Some x → (b c : Bool) → p x ≡ b → r x ≡ c → list_any r (cond b (x ∷ newest_first p xs n) (newest_first p xs n)) ≡ true → Before → Found
    by_tests x is true true t u k before = (n, x, omega arith, is, t, u)
    by_tests x is true false t u k before = later before (ap (λ v. v || list_any r (newest_first p xs n)) (sym u) ∙ k)
    by_tests x is false c t u k before = later before k

    pick : (o : Option X) → slice_get xs n ≡ o → list_any r (in_front p o (newest_first p xs n)) ≡ true → Before → Found
    pick None is k before = later before k
    pick (Some x) is k before = by_tests x is (p x) (r x) refl refl k before

pub given_from : {X : Type 0} (p r : X → Bool) (xs : List X) (n m : ℕ) (x : X) → m < n → slice_get xs m ≡ Some x → p x ≡ true → r x ≡ true → list_any r (newest_first p xs n) ≡ true
given_from p r xs zero m x h is t u = absurd (omega (arith, h))
given_from {X} p r xs (suc n) m x h is t u = by_place (eq-or-lt_of_le (let k : m ≤ n = omega (arith, h) in k)) (λ less. given_from p r xs n m x less is t u)
  where
    by_test : (y : X) (b : Bool) → list_any r (newest_first p xs n) ≡ true → list_any r (cond b (y ∷ newest_first p xs n) (newest_first p xs n)) ≡ true
    by_test y true e = or-second (r y) _ e
    by_test y false e = e

    pick : (o : Option X) → list_any r (newest_first p xs n) ≡ true → list_any r (in_front p o (newest_first p xs n)) ≡ true
    pick None e = e
    pick (Some y) e = by_test y (p y) e

    by_place : (m ≡ n) ⊎ (m < n) → (m < n → list_any r (newest_first p xs n) ≡ true) → list_any r (newest_first p xs (suc n)) ≡ true
    by_place (inl same) before = rw (subst (λ (k : ℕ). slice_get xs k ≡ Some x) same is, t, u) refl
    by_place (inr less) before = pick (slice_get xs n) (before less)
