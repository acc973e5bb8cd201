-- Tables of values by number, and lists that are such tables.
use Rattle.std.proofs.Common.{◌≡◌, ◌≢◌, ◌⊎◌, inl, inr, ⊎_elim, ℕ, zero, suc, ◌+◌, ◌<◌, ◌≤◌, List, [], ◌∷◌, ◌++◌, length, set, get_or, map, take, drop, All, sym, refl, ap, ◌∙◌, subst, arith, add-zero, length-append}
use Rattle.std.specs.Prelude.{Option, Some, None, IfNone, slice_get}
use Rattle.std.proofs.lemmas.List.{map-append, length-map}
use Rattle.std.proofs.lemmas.List.FromFn.{map-range_with_len_more}
use Rattle.std.proofs.Math.ListN.{get_or-map, get_or-append}
use Rattle.std.proofs.Math.Seq.{get_or-append_seam}
use Rattle.slice_core.specs.Named.{named_from}

named_from-length : {Y : Type 0} (f : ℕ → Y) (s n : ℕ) → length (named_from f s n) ≡ n
named_from-length f s zero = refl
named_from-length f s (suc n) = ap suc (named_from-length f (s + 1) n)

-- two tables that agree
named_from-same : {Y : Type 0} (f g : ℕ → Y) (s n : ℕ) → ((k : ℕ) → s ≤ k → k < s + n → f k ≡ g k) → named_from f s n ≡ named_from g s n
named_from-same f g s zero h = refl
named_from-same f g s (suc n) h =
    let first = h s (omega arith) (omega arith) in
    let rest = named_from-same f g (s + 1) n (λ k low high. h k (omega arith) (omega arith)) in
    λ i. first i ∷ rest i

named_from-map : {Y Z : Type 0} (g : Y → Z) (f : ℕ → Y) (s n : ℕ) → map g (named_from f s n) ≡ named_from (λ k. g (f k)) s n
named_from-map g f s zero = refl
named_from-map g f s (suc n) = ap (λ l. g (f s) ∷ l) (named_from-map g f (s + 1) n)

named_from_at : {X Y : Type 0} (g : X → Y) (f : ℕ → Y) (s n : ℕ) (xs : List X) (i : ℕ) (d : X) → map g xs ≡ named_from f s n → i < n → g (get_or xs i d) ≡ f (s + i)
named_from_at g f s zero xs i d e lt = absurd (omega arith)
named_from_at g f s (suc n) [] i d e lt = absurd (cc)
named_from_at g f s (suc n) (x ∷ xs) zero d e lt = let h : g x ≡ f s = cc in rw (add-zero s) h
named_from_at g f s (suc n) (x ∷ xs) (suc i) d e lt =
    let t : map g xs ≡ named_from f (s + 1) n = cc in
    let k : (s + 1) + i ≡ s + suc i = omega arith in
    named_from_at g f (s + 1) n xs i d t (omega arith) ∙ ap f k

-- the element at a number
pub table_at : {X Y : Type 0} (g : X → Y) (f : ℕ → Y) (n : ℕ) (xs : List X) (i : ℕ) (d : X) → map g xs ≡ named_from f 0 n → i < n → g (get_or xs i d) ≡ f i
table_at g f n xs i d e lt = named_from_at g f 0 n xs i d e lt ∙ ap f (let z : 0 + i ≡ i = omega arith in z)

set_from : {X Y : Type 0} (g : X → Y) (f f' : ℕ → Y) (s n : ℕ) (xs : List X) (i : ℕ) (y : X) → map g xs ≡ named_from f s n → i < n → g y ≡ f' (s + i) → ((k : ℕ) → s ≤ k → k < s + n → k ≢ s + i → f k ≡ f' k) → map g (set xs i y) ≡ named_from f' s n
set_from g f f' s zero xs i y e lt new old = absurd (omega arith)
set_from g f f' s (suc n) [] i y e lt new old = absurd (cc)
set_from g f f' s (suc n) (x ∷ xs) zero y e lt new old =
    let t : map g xs ≡ named_from f (s + 1) n = cc in
    let here : g y ≡ f' s = new ∙ ap f' (add-zero s) in
    let rest = t ∙ named_from-same f f' (s + 1) n (λ k low high. old k (omega arith) (omega arith) (λ is. omega arith)) in
    λ j. here j ∷ rest j
set_from g f f' s (suc n) (x ∷ xs) (suc i) y e lt new old =
    let t : map g xs ≡ named_from f (s + 1) n = cc in
    let h : g x ≡ f s = cc in
    let first = h ∙ old s (omega arith) (omega arith) (λ is. omega arith) in
    let k : s + suc i ≡ (s + 1) + i = omega arith in
    let rest = set_from g f f' (s + 1) n xs i y t (omega arith) (new ∙ ap f' k) (λ j low high other. old j (omega arith) (omega arith) (λ is. other (is ∙ k))) in
    λ j. first j ∷ rest j

-- one element replaced
pub table_set : {X Y : Type 0} (g : X → Y) (f f' : ℕ → Y) (n : ℕ) (xs : List X) (i : ℕ) (y : X) → map g xs ≡ named_from f 0 n → i < n → g y ≡ f' i → ((k : ℕ) → k < n → k ≢ i → f k ≡ f' k) → map g (set xs i y) ≡ named_from f' 0 n
table_set g f f' n xs i y e lt new old =
    let z : i ≡ 0 + i = omega arith in
    set_from g f f' 0 n xs i y e lt (new ∙ ap f' z) (λ k low high other. old k (omega arith) (λ is. other (is ∙ z)))

pub table_same : {Y : Type 0} (f g : ℕ → Y) (n : ℕ) → ((k : ℕ) → k < n → f k ≡ g k) → named_from f 0 n ≡ named_from g 0 n
table_same f g n h = named_from-same f g 0 n (λ k low high. h k (omega arith))

pub table_map : {Y Z : Type 0} (g : Y → Z) (f : ℕ → Y) (n : ℕ) → map g (named_from f 0 n) ≡ named_from (λ k. g (f k)) 0 n
table_map g f n = named_from-map g f 0 n

pub table_length : {Y : Type 0} (f : ℕ → Y) (n : ℕ) → length (named_from f 0 n) ≡ n
table_length f n = named_from-length f 0 n

-- one more at the end
pub table_push : {X Y : Type 0} (g : X → Y) (f : ℕ → Y) (s n : ℕ) (xs new : List X) (x : X) → new ≡ xs ++ x ∷ [] → map g xs ≡ named_from f s n → g x ≡ f (s + n) → map g new ≡ named_from f s (n + 1)
table_push g f s n xs new x e so_far is =
    ap (map g) e ∙ map-append g xs (x ∷ []) ∙ ap (λ l. l ++ g x ∷ []) so_far ∙ ap (λ y. named_from f s n ++ y ∷ []) is ∙ sym (map-range_with_len_more f s n (s + n) refl)

-- a list is the table of its elements
pub table_from : {X Y : Type 0} (g : X → Y) (f : ℕ → Y) (s : ℕ) (xs : List X) → ((k : ℕ) (d : X) → k < length xs → g (get_or xs k d) ≡ f (s + k)) → map g xs ≡ named_from f s (length xs)
table_from g f s [] h = refl
table_from g f s (x ∷ xs) h =
    let first : g x ≡ f s = h 0 x (omega arith) ∙ ap f (add-zero s) in
    let rest = table_from g f (s + 1) xs (λ k d lt. h (suc k) d (omega arith) ∙ ap f (let e : s + suc k ≡ (s + 1) + k = omega arith in e)) in
    λ i. first i ∷ rest i

kept : {X : Type 0} (ys zs : List X) → take (length ys) (ys ++ zs) ≡ ys
kept [] [] = refl
kept [] (z ∷ zs) = refl
kept (y ∷ ys) zs = ap (λ l. y ∷ l) (kept ys zs)

-- a slice that was passed on and written back
pub written_back : {X : Type 0} (n : ℕ) (xs new : List X) → length new ≡ n → length xs ≡ n → take n (new ++ drop (length new) xs) ≡ new
written_back n [] [] e h = rw (sym e) refl
written_back n (x ∷ xs) [] e h = absurd (let a = e ∙ sym h in omega arith)
written_back n xs (y ∷ ys) e h = rw (sym e) (ap (λ l. y ∷ l) (kept ys (drop (length (y ∷ ys)) xs)))

pub get_map : {A B : Type 0} (f : A → B) (xs : List A) (i : ℕ) (d : A) → i < length xs → slice_get (map f xs) i ≡ Some (f (get_or xs i d))
get_map f [] i d h = absurd (omega arith)
get_map f (x ∷ xs) zero d h = refl
get_map f (x ∷ xs) (suc i) d h = get_map f xs i d (omega arith)

pub below_set : {X : Type 0} (P : X → Type 0) (xs : List X) (i : ℕ) (y : X) → i < length xs → ((k : ℕ) (d : X) → k < i → P (get_or xs k d)) → P y → (k : ℕ) (d : X) → k < i + 1 → P (get_or (set xs i y) k d)
below_set P [] i y lt h p k d below = absurd (omega arith)
below_set P (x ∷ xs) zero y lt h p zero d below = p
below_set P (x ∷ xs) zero y lt h p (suc k) d below = absurd (omega arith)
below_set P (x ∷ xs) (suc i) y lt h p zero d below = h 0 d (omega arith)
below_set P (x ∷ xs) (suc i) y lt h p (suc k) d below = below_set P xs i y (omega arith) (λ j e l. h (suc j) e (omega arith)) p k d (omega arith)

pub below_more : {X : Type 0} (P : X → Type 0) (xs : List X) (i : ℕ) → i < length xs → ((k : ℕ) (d : X) → k < i → P (get_or xs k d)) → ((d : X) → P (get_or xs i d)) → (k : ℕ) (d : X) → k < i + 1 → P (get_or xs k d)
below_more P [] i lt h p k d below = absurd (omega arith)
below_more P (x ∷ xs) zero lt h p zero d below = p d
below_more P (x ∷ xs) zero lt h p (suc k) d below = absurd (omega arith)
below_more P (x ∷ xs) (suc i) lt h p zero d below = h 0 d (omega arith)
below_more P (x ∷ xs) (suc i) lt h p (suc k) d below = below_more P xs i (omega arith) (λ j e l. h (suc j) e (omega arith)) p k d (omega arith)

mapped_at : {X Y : Type 0} (P : Y → Type 0) (g : X → Y) (xs : List X) → All (λ x. P (g x)) xs → (k : ℕ) (d : Y) → k < length xs → P (get_or (map g xs) k d)
mapped_at P g [] h k d lt = absurd (omega arith)
mapped_at P g (x ∷ xs) h zero d lt = h 0 x (omega arith)
mapped_at P g (x ∷ xs) h (suc k) d lt = mapped_at P g xs (λ j e l. h (suc j) e (omega arith)) k d (omega arith)

pub All_map : {X Y : Type 0} (P : Y → Type 0) (g : X → Y) (xs : List X) → All (λ x. P (g x)) xs → All P (map g xs)
All_map P g xs h = λ k d lt. mapped_at P g xs h k d (let n = length-map xs g in omega arith)

pub All_unmap : {X Y : Type 0} (P : Y → Type 0) (g : X → Y) (xs : List X) → All P (map g xs) → All (λ x. P (g x)) xs
All_unmap P g xs h = λ k d lt. let n = length-map xs g in subst P (get_or-map g xs k d) (h k (g d) (omega arith))

-- what is so of all elements of one list is so of another that g cannot tell from it
pub All_along : {X Y : Type 0} (P : Y → Type 0) (g : X → Y) (xs ys : List X) → map g ys ≡ map g xs → All (λ x. P (g x)) xs → All (λ y. P (g y)) ys
All_along P g xs ys e h = All_unmap P g ys (subst (All P) (sym e) (All_map P g xs h))

-- the element between a front and a back
pub All_mid : {X : Type 0} (P : X → Type 0) (xs front back : List X) (x : X) → xs ≡ front ++ x ∷ back → All P xs → P x
All_mid P xs front back x e h =
    let n = length-append front (x ∷ back) in
    subst P (get_or-append_seam front x back x) (subst (λ l. All P l) e h (length front) x (omega arith))

pub below_or_past : (a b : ℕ) → (a < b) ⊎ (b ≤ a)
below_or_past zero zero = inr (omega arith)
below_or_past zero (suc b) = inl (omega arith)
below_or_past (suc a) zero = inr (omega arith)
below_or_past (suc a) (suc b) = ⊎_elim (λ (h : a < b). inl (omega arith)) (λ (h : b ≤ a). inr (omega arith)) (below_or_past a b)

pub map_id : {X : Type 0} (xs : List X) → map (λ x. x) xs ≡ xs
map_id [] = refl
map_id (x ∷ xs) = ap (λ l. x ∷ l) (map_id xs)

pub default_at : {X : Type 0} (xs : List X) (k : ℕ) (d e : X) → k < length xs → get_or xs k d ≡ get_or xs k e
default_at [] k d e lt = absurd (omega arith)
default_at (x ∷ xs) zero d e lt = refl
default_at (x ∷ xs) (suc k) d e lt = default_at xs k d e (omega arith)

-- the table of a list's own elements
pub own_table : {X : Type 0} (xs : List X) (d : X) → xs ≡ named_from (λ k. get_or xs k d) 0 (length xs)
own_table xs d = sym (map_id xs) ∙ table_from (λ x. x) (λ k. get_or xs k d) 0 xs (λ k e lt. default_at xs k e d lt ∙ ap (λ j. get_or xs j d) (let z : k ≡ 0 + k = omega arith in z))

pub get_within : {X : Type 0} (xs : List X) (i : ℕ) (x : X) → slice_get xs i ≡ Some x → i < length xs
get_within [] i x e = absurd (cc)
get_within (y ∷ ys) zero x e = omega arith
get_within (y ∷ ys) (suc i) x e = let t = get_within ys i x e in omega arith

-- what stands at a number that is known
pub get_is : {X : Type 0} (xs : List X) (i : ℕ) (x d : X) → slice_get xs i ≡ Some x → get_or xs i d ≡ x
get_is [] i x d e = absurd (cc)
get_is (y ∷ ys) zero x d e = cc
get_is (y ∷ ys) (suc i) x d e = get_is ys i x d e

-- the element between a front and a back
pub table_mid : {X Y : Type 0} (g : X → Y) (f : ℕ → Y) (n : ℕ) (xs front back : List X) (x : X) → xs ≡ front ++ x ∷ back → map g xs ≡ named_from f 0 n → g x ≡ f (length front)
table_mid g f n xs front back x e table =
    let len : length xs ≡ n = sym (length-map xs g) ∙ ap length table ∙ named_from-length f 0 n in
    let m = ap length e ∙ length-append front (x ∷ back) in
    ap g (sym (get_or-append_seam front x back x) ∙ ap (λ l. get_or l (length front) x) (sym e)) ∙ table_at g f n xs (length front) x table (omega arith)

get_from : {Y : Type 0} (f : ℕ → Y) (s n i : ℕ) → i < n → slice_get (named_from f s n) i ≡ Some (f (s + i))
get_from f s zero i lt = absurd (omega arith)
get_from f s (suc n) zero lt = ap (λ k. Some (f k)) (sym (add-zero s))
get_from f s (suc n) (suc i) lt = get_from f (s + 1) n i (omega arith) ∙ ap (λ k. Some (f k)) (let e : (s + 1) + i ≡ s + suc i = omega arith in e)

pub table_get : {Y : Type 0} (f : ℕ → Y) (n i : ℕ) → i < n → slice_get (named_from f 0 n) i ≡ Some (f i)
table_get f n i lt = get_from f 0 n i lt ∙ ap (λ k. Some (f k)) (let z : 0 + i ≡ i = omega arith in z)

all_from : {Y : Type 0} (P : Y → Type 0) (f : ℕ → Y) (s n : ℕ) → ((k : ℕ) → s ≤ k → k < s + n → P (f k)) → (i : ℕ) (d : Y) → i < n → P (get_or (named_from f s n) i d)
all_from P f s zero h i d lt = absurd (omega arith)
all_from P f s (suc n) h zero d lt = h s (omega arith) (omega arith)
all_from P f s (suc n) h (suc i) d lt = all_from P f (s + 1) n (λ k low high. h k (omega arith) (omega arith)) i d (omega arith)

-- what is so of each number's value is so of the table
pub table_all : {Y : Type 0} (P : Y → Type 0) (f : ℕ → Y) (n : ℕ) → ((k : ℕ) → k < n → P (f k)) → All P (named_from f 0 n)
table_all P f n h = λ i d lt. let e = named_from-length f 0 n in all_from P f 0 n (λ k low high. h k (omega arith)) i d (omega arith)

pub map_map : {X Y Z : Type 0} (g : Y → Z) (f : X → Y) (xs : List X) → map g (map f xs) ≡ map (λ x. g (f x)) xs
map_map g f [] = refl
map_map g f (x ∷ xs) = ap (λ l. g (f x) ∷ l) (map_map g f xs)

pub same_count : {X Y : Type 0} (g : X → Y) (xs ys : List X) → map g ys ≡ map g xs → length ys ≡ length xs
same_count g xs ys e = sym (length-map ys g) ∙ ap length e ∙ length-map xs g

-- the front of a table
pub table_front : {X Y : Type 0} (g : X → Y) (f : ℕ → Y) (s n : ℕ) (xs front back : List X) → xs ≡ front ++ back → map g xs ≡ named_from f s n → map g front ≡ named_from f s (length front)
table_front g f s n xs front back e table =
    let len : length xs ≡ n = sym (length-map xs g) ∙ ap length table ∙ named_from-length f s n in
    let m = ap length e ∙ length-append front back in
    table_from g f s front (λ k d lt.
    ap g (sym (get_or-append front back d k lt) ∙ ap (λ l. get_or l k d) (sym e)) ∙ named_from_at g f s n xs k d table (omega arith))

pub empty : {X : Type 0} (xs : List X) → length xs ≡ 0 → xs ≡ []
empty [] e = refl
empty (x ∷ xs) e = absurd (omega arith)

pub on_none : {X : Type 0} (P Q : Type 0) (o : Option X) → (P → Q) → IfNone o P → IfNone o Q
on_none P Q None f h = f h
on_none P Q (Some x) f h = h
