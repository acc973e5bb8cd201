-- The touches of a tuple from the newest back, and what they say of the store and of its history.
use Rattle.std.proofs.Common.{◌≡◌, ℕ, zero, suc, ◌+◌, ◌-◌, ◌≤◌, Bool, true, false, cond, List, [], ◌∷◌, ◌++◌, length, map, reverse, refl, sym, ◌∙◌, ap, subst, Some, arith, take, ◌&&◌, leb, append-nil}
use Rattle.std.specs.Prelude.{slice_get, filter}
use Rattle.std.specs.List.{list_any}
use Rattle.std.proofs.Math.Seq.{take-length}
use Rattle.std.proofs.lemmas.List.{reverse-append, map-append}
use Rattle.std.proofs.lemmas.List.Elements.{filter-append}
use Rattle.tuple_text.specs.Tuples.{TupleValue}
use Rattle.tuple_text.specs.Order.{tuple_eq}
use Rattle.tuple_text.proofs.ValueLemmas.{tuple_eq-same}
use Rattle.version_chains.specs.Commits.{Touch, touches_to, until, last_live}
use Rattle.version_chains.specs.Given.{AreLaterFrom, LeadsBack}
use Rattle.marks.specs.Placed.{in_front, last_place, newest_first, IsLinkedPlace, IsWalk}
use Rattle.version_chains.proofs.ArenaLemmas.{item_within}
use Rattle.marks.proofs.PlacedLemmas.{after-not, and-left, newest_first-here, newest_first-past, given_at}
use Rattle.marks.proofs.WalkLemmas.{linked_item, linked_older, left_older, walk_start, walk_found, walk_end}

-- the first n items and the next
pub take-next : {X : Type 0} (xs : List X) (n : ℕ) (x : X) → slice_get xs n ≡ Some x → take (suc n) xs ≡ take n xs ++ x ∷ []
take-next [] n x e = absurd cc
take-next (y ∷ ys) zero x e = let same : y ≡ x = cc in ap (λ z. z ∷ []) same
take-next (y ∷ ys) (suc n) x e = ap (λ zs. y ∷ zs) (take-next ys n x e)

-- the items that pass, the last first
newest_first-taken : {X : Type 0} (p : X → Bool) (xs : List X) (n : ℕ) → n ≤ length xs → newest_first p xs n ≡ reverse (filter p (take n xs))
newest_first-taken p xs zero h = refl
newest_first-taken {X} p xs (suc n) h =
    let w = item_within xs n (omega (arith, h)) in
    ap (λ o. in_front p o (newest_first p xs n)) w.1
    ∙ by_test w.0 (p w.0) (newest_first-taken p xs n (omega (arith, h)))
    ∙ ap reverse (sym (filter-append p (take n xs) (w.0 ∷ [])))
    ∙ ap (λ ys. reverse (filter p ys)) (sym (take-next xs n w.0 w.1))
  where
    by_test : (x : X) (b : Bool) → newest_first p xs n ≡ reverse (filter p (take n xs)) → cond b (x ∷ newest_first p xs n) (newest_first p xs n) ≡ reverse (filter p (take n xs) ++ cond b (x ∷ []) [])
    by_test x true before = ap (λ ys. x ∷ ys) before ∙ sym (reverse-append (filter p (take n xs)) (x ∷ []))
    by_test x false before = before ∙ ap reverse (sym (append-nil (filter p (take n xs))))

pub newest_first-reverse : {X : Type 0} (p : X → Bool) (xs : List X) → newest_first p xs (length xs) ≡ reverse (filter p xs)
newest_first-reverse p xs = newest_first-taken p xs (length xs) (let h : length xs ≤ length xs = omega arith in h) ∙ ap (λ ys. reverse (filter p ys)) (take-length xs)

-- whether the newest of these touches adds; where there is none, the given answer
abbrev pub first_live : Bool → List Touch → Bool
first_live before [] = before
first_live before (x ∷ xs) = x.live

first_live-last : (before : Bool) (xs : List Touch) (x : Touch) → first_live before (xs ++ x ∷ []) ≡ first_live x.live xs
first_live-last before [] x = refl
first_live-last before (y ∷ ys) x = refl

last_live-reverse : (before : Bool) (xs : List Touch) → last_live before xs ≡ first_live before (reverse xs)
last_live-reverse before [] = refl
last_live-reverse before (x ∷ xs) = last_live-reverse x.live xs ∙ sym (first_live-last before (reverse xs) x) ∙ ap (first_live before) (sym (reverse-append (x ∷ []) xs))

touches_until : (t : TupleValue) (s : ℕ) (xs : List Touch) → touches_to t (until s xs) ≡ filter (λ x. tuple_eq x.tuple t && leb x.at s) xs
touches_until t s [] = refl
touches_until t s (x ∷ xs) = by_tests (leb x.at s) (tuple_eq x.tuple t) refl refl (touches_until t s xs)
  where
    by_tests : (a b : Bool) → leb x.at s ≡ a → tuple_eq x.tuple t ≡ b → touches_to t (until s xs) ≡ filter (λ x. tuple_eq x.tuple t && leb x.at s) xs
        → touches_to t (cond a (x ∷ until s xs) (until s xs)) ≡ cond (b && a) (x ∷ filter (λ x. tuple_eq x.tuple t && leb x.at s) xs) (filter (λ x. tuple_eq x.tuple t && leb x.at s) xs)
    by_tests true true p q h = rw q (ap (λ ys. x ∷ ys) h)
    by_tests true false p q h = rw q h
    by_tests false true p q h = h
    by_tests false false p q h = h

-- the store at a timestamp
pub live_newest : (t : TupleValue) (s : ℕ) (xs : List Touch) → last_live false (touches_to t (until s xs)) ≡ first_live false (newest_first (λ x. tuple_eq x.tuple t && leb x.at s) xs (length xs))
live_newest t s xs =
    ap (last_live false) (touches_until t s xs)
    ∙ last_live-reverse false (filter (λ x. tuple_eq x.tuple t && leb x.at s) xs)
    ∙ ap (first_live false) (sym (newest_first-reverse (λ x. tuple_eq x.tuple t && leb x.at s) xs))

map-reverse : {X Y : Type 0} (f : X → Y) (xs : List X) → map f (reverse xs) ≡ reverse (map f xs)
map-reverse f [] = refl
map-reverse f (x ∷ xs) =
    ap (map f) (reverse-append (x ∷ []) xs)
    ∙ map-append f (reverse xs) (x ∷ [])
    ∙ ap (λ ys. ys ++ f x ∷ []) (map-reverse f xs)
    ∙ sym (reverse-append (f x ∷ []) (map f xs))

-- the history of a tuple
abbrev touched : Touch → ℕ × Bool
touched x = (x.at, x.live)

pub touches_newest : (t : TupleValue) (xs : List Touch) → reverse (map touched (touches_to t xs)) ≡ map touched (newest_first (λ x. tuple_eq x.tuple t) xs (length xs))
touches_newest t xs = sym (map-reverse touched (touches_to t xs)) ∙ ap (map touched) (sym (newest_first-reverse (λ x. tuple_eq x.tuple t) xs))

-- a tuple that no touch is of
none_pass : {X : Type 0} (p : X → Bool) (xs : List X) → ((i : ℕ) (x : X) → slice_get xs i ≡ Some x → p x ≡ false) → filter p xs ≡ []
none_pass p [] none = refl
none_pass p (x ∷ xs) none = rw (none zero x refl, none_pass p xs (λ i y e. none (suc i) y e)) refl

pub untouched_live : (t : TupleValue) (s : ℕ) (xs : List Touch) → ((i : ℕ) (x : Touch) → slice_get xs i ≡ Some x → tuple_eq x.tuple t ≡ false) → false ≡ last_live false (touches_to t (until s xs))
untouched_live t s xs none =
    sym (ap (last_live false) (touches_until t s xs ∙ none_pass (λ x. tuple_eq x.tuple t && leb x.at s) xs (λ i x e. ap (λ (b : Bool). b && leb x.at s) (none i x e))))

-- a stored tuple was touched
pub live_touched : (t : TupleValue) (s : ℕ) (xs : List Touch) → last_live false (touches_to t (until s xs)) ≡ true → (i : ℕ) × (x : Touch) × (slice_get xs i ≡ Some x) × (tuple_eq x.tuple t ≡ true)
live_touched t s xs e =
    let some = some_first (newest_first (λ x. tuple_eq x.tuple t && leb x.at s) xs (length xs)) (sym (live_newest t s xs) ∙ e) in
    let w = given_at (λ x. tuple_eq x.tuple t && leb x.at s) (λ _. true) xs (length xs) some in
    (w.0, w.1, w.3, and-left (tuple_eq w.1.tuple t) (leb w.1.at s) w.4)
  where
    some_first : (ys : List Touch) → first_live false ys ≡ true → list_any (λ _. true) ys ≡ true
    some_first [] h = cc
    some_first (y ∷ ys) h = refl

-- ---- a walk over the touches of a tuple, for the last one up to a timestamp

module _ (t : TupleValue) (s : ℕ) (xs : List Touch) where
  abbrev linked : Touch → Bool
  linked x = tuple_eq x.tuple t

  abbrev wanted : Touch → Bool
  wanted x = tuple_eq x.tuple t && leb x.at s

  wanted_linked : (x : Touch) → wanted x ≡ true → linked x ≡ true
  wanted_linked x h = and-left (tuple_eq x.tuple t) (leb x.at s) h

  pub live_start : (place : ℕ) → place ≡ last_place linked xs (length xs) → IsWalk linked wanted xs place
  live_start place e = walk_start linked wanted wanted_linked xs place e

  -- and from the last one among the first touches, where the others are after the timestamp
  pub live_start_among : (n place : ℕ) → n ≤ length xs → AreLaterFrom s xs n → place ≡ last_place linked xs n → IsWalk linked wanted xs place
  live_start_among n place within later e = record {
    on = (n, within, e);
    left =
        ap (newest_first wanted xs) (let all : length xs ≡ n + (length xs - n) = omega (arith, within) in all)
        ∙ newest_first-past wanted xs n (length xs - n) (λ i x past below here. after-not (tuple_eq x.tuple t) x.at s (later i x here past))
        ∙ left_older linked wanted wanted_linked xs n place e;
  }

  pub live_end : (place : ℕ) → place ≡ 0 → IsWalk linked wanted xs place → false ≡ last_live false (touches_to t (until s xs))
  live_end place none walk = sym (live_newest t s xs ∙ ap (first_live false) (walk_end linked wanted wanted_linked xs (subst (IsWalk linked wanted xs) none walk)))

  module _ (place m : ℕ) (x : Touch) (next : place ≡ suc m) (walk : IsWalk linked wanted xs place) (here : slice_get xs m ≡ Some x) where
    walk_here : IsWalk linked wanted xs (suc m)
    walk_here = subst (IsWalk linked wanted xs) next walk

    -- the touch is one of the tuple
    of_tuple : tuple_eq x.tuple t ≡ true
    of_tuple =
        let w = linked_item linked xs m walk_here.on in
        let same : x ≡ w.0 = (let e : Some x ≡ Some w.0 = sym here ∙ w.1 in cc) in
        subst (λ (y : Touch). tuple_eq y.tuple t ≡ true) (sym same) w.2

    pub live_found : leb x.at s ≡ true → x.live ≡ last_live false (touches_to t (until s xs))
    live_found before = sym (live_newest t s xs ∙ ap (first_live false) (walk_found linked wanted wanted_linked xs m x walk_here here (rw (of_tuple, before) refl)))

    pub live_on : (further : ℕ) → LeadsBack x.tuple s xs m further → IsWalk linked wanted xs further
    live_on further back =
        let same = tuple_eq-same x.tuple t of_tuple in
        let leads = subst (λ (u : TupleValue). LeadsBack u s xs m further) same back in
        record { on = leads.on; left = walk_here.left ∙ leads.passes_none }

-- ---- a walk over the touches of a tuple, for its history

pub history_start : (t : TupleValue) (xs : List Touch) (place : ℕ) → place ≡ last_place (λ x. tuple_eq x.tuple t) xs (length xs) → map touched (newest_first (λ x. tuple_eq x.tuple t) xs place) ≡ reverse (map touched (touches_to t xs))
history_start t xs place e = sym (touches_newest t xs ∙ ap (map touched) (left_older (λ x. tuple_eq x.tuple t) (λ x. tuple_eq x.tuple t) (λ x h. h) xs (length xs) place e))

module _ (t : TupleValue) (xs : List Touch) (m : ℕ) (on : IsLinkedPlace (λ x. tuple_eq x.tuple t) xs (suc m)) (x : Touch) (here : slice_get xs m ≡ Some x) (older : ℕ) (link : older ≡ last_place (λ y. tuple_eq y.tuple x.tuple) xs m) where
  is_of_tuple : tuple_eq x.tuple t ≡ true
  is_of_tuple =
      let w = linked_item (λ x. tuple_eq x.tuple t) xs m on in
      let same : x ≡ w.0 = (let e : Some x ≡ Some w.0 = sym here ∙ w.1 in cc) in
      subst (λ (y : Touch). tuple_eq y.tuple t ≡ true) (sym same) w.2

  link_of_tuple : older ≡ last_place (λ y. tuple_eq y.tuple t) xs m
  link_of_tuple = link ∙ ap (λ (u : TupleValue). last_place (λ y. tuple_eq y.tuple u) xs m) (tuple_eq-same x.tuple t is_of_tuple)

  pub history_on : IsLinkedPlace (λ x. tuple_eq x.tuple t) xs older
  history_on = linked_older (λ x. tuple_eq x.tuple t) xs m older on link_of_tuple

  pub history_gives : map touched (newest_first (λ x. tuple_eq x.tuple t) xs (suc m)) ≡ touched x ∷ map touched (newest_first (λ x. tuple_eq x.tuple t) xs older)
  history_gives =
      ap (map touched)
      (newest_first-here (λ x. tuple_eq x.tuple t) xs m x here is_of_tuple
      ∙ ap (λ ys. x ∷ ys) (left_older (λ x. tuple_eq x.tuple t) (λ x. tuple_eq x.tuple t) (λ x h. h) xs m older link_of_tuple))
