-- The users that the arena gives are those stored, each once.
use Rattle.std.proofs.Common.{◌≡◌, ℕ, zero, suc, ◌<◌, Bool, true, false, cond, List, [], ◌∷◌, length, map, refl, sym, ◌∙◌, ap, subst, Some, None, Option, arith, ◌||◌, ◌&&◌, nat_eq}
use Rattle.std.specs.Prelude.{slice_get}
use Rattle.std.specs.Cmp.{booleans_Decides}
use Rattle.std.specs.List.{list_any, IsDistinct, AllByRecursion}
use Rattle.std.proofs.lemmas.Option.{slice_get_within}
use Rattle.std.proofs.lemmas.Bool.{eqb-true, eq-eqb}
use Rattle.tuple_text.specs.Sets.{SetValue, set_eq}
use Rattle.tuple_text.specs.Tuples.{TupleValue, tuple_of}
use Rattle.tuple_text.specs.Order.{user_eq}
use Rattle.tuple_text.specs.declared.users.User.{User}
use Rattle.tuple_text.proofs.ValueLemmas.{set_eq-same, set_eq-itself, user_eq-same, user_eq-itself, tuple_eq-same}
use Rattle.version_chains.specs.Arena.{Held, AreApartAt}
use Rattle.version_chains.specs.Commits.{touches_to, until, last_live}
use Rattle.version_chains.specs.Given.{AreTouchesKnown, is_of_kind, is_given, users_before, has_mark_of}
use Rattle.marks.specs.Marks.{set_mark, kind_mark, held_mark, is_userset}
use Rattle.marks.specs.Placed.{in_front, last_place, newest_first, IsLinkedPlace}
use Rattle.version_chains.proofs.NewestLemmas.{live_touched}
use Rattle.marks.proofs.PlacedLemmas.{and-left, and-right, given_at, given_from, last_place-within, newest_first-here, newest_first-not_here}
use Rattle.marks.proofs.WalkLemmas.{linked_item, linked_older, left_older}

list_any-map : {X Y : Type 0} (f : X → Y) (p : Y → Bool) (xs : List X) → list_any p (map f xs) ≡ list_any (λ x. p (f x)) xs
list_any-map f p [] = refl
list_any-map f p (x ∷ xs) = ap (λ b. p (f x) || b) (list_any-map f p xs)

pub none_same : (u : User) (us : List User) → list_any (user_eq u) us ≡ false → AllByRecursion (λ y. user_eq u y ≡ false) us
none_same u [] h = tt
none_same u (y ∷ ys) h = pick (user_eq u y) refl h (none_same u ys)
  where
    pick : (b : Bool) → user_eq u y ≡ b → (b || list_any (user_eq u) ys) ≡ false → (list_any (user_eq u) ys ≡ false → AllByRecursion (λ y. user_eq u y ≡ false) ys) → (user_eq u y ≡ false) × AllByRecursion (λ y. user_eq u y ≡ false) ys
    pick true e k further = absurd cc
    pick false e k further = (e, further k)

module _ (g : SetValue) (k : Bool) (s : ℕ) (h : Held) where
  -- a tuple that is given is the userset's
  pub of_set : (t : TupleValue) → is_given g k s h.touches t ≡ true → t.set ≡ g
  of_set t e = set_eq-same t.set g (and-left (set_eq t.set g) _ e)

  -- and its user is of the kind
  of_kind : (t : TupleValue) → is_given g k s h.touches t ≡ true → is_of_kind k t.user ≡ true
  of_kind t e = and-left (is_of_kind k t.user) _ (and-right (set_eq t.set g) _ e)

  given_marked : (t : TupleValue) → is_given g k s h.touches t ≡ true → has_mark_of g k t ≡ true
  given_marked t e =
      let kind : k ≡ is_userset t.user = sym ((booleans_Decides (is_userset t.user) k).0 (of_kind t e)) in
      eq-eqb (kind_mark (set_mark g) k) (held_mark t) (λ i. kind_mark (set_mark (sym (of_set t e) i)) (kind i))

  -- one with the same user is the same tuple
  same_tuple : (t u : TupleValue) → is_given g k s h.touches t ≡ true → is_given g k s h.touches u ≡ true → user_eq t.user u.user ≡ true → t ≡ u
  same_tuple t u p q e = λ i. record { set = (of_set t p ∙ sym (of_set u q)) i; user = user_eq-same t.user u.user e i }

  module _ (apart : AreApartAt h.tuples) where
    not_before : (n : ℕ) (t : TupleValue) → slice_get h.tuples n ≡ Some t → is_given g k s h.touches t ≡ true → list_any (user_eq t.user) (users_before g k s h n) ≡ false
    not_before n t here p = by_test (list_any (user_eq t.user) (users_before g k s h n)) refl
      where
        by_test : (b : Bool) → list_any (user_eq t.user) (users_before g k s h n) ≡ b → b ≡ false
        by_test false e = refl
        by_test true e =
            let w = given_at (is_given g k s h.touches) (λ u. user_eq t.user u.user) h.tuples n (sym (list_any-map (λ u. u.user) (user_eq t.user) (newest_first (is_given g k s h.touches) h.tuples n)) ∙ e) in
            let same = same_tuple t w.1 p w.4 w.5 in
            let place : n ≡ w.0 = apart n w.0 t here (subst (λ (u : TupleValue). slice_get h.tuples w.0 ≡ Some u) (sym same) w.3) in
            let less = w.2 in
            absurd (omega (arith, place, less))

    pub users_distinct : (n : ℕ) → IsDistinct user_eq (users_before g k s h n)
    unfolding IsDistinct
    users_distinct zero = tt
    users_distinct (suc n) = pick (slice_get h.tuples n) refl (users_distinct n)
      where
        by_test : (t : TupleValue) → slice_get h.tuples n ≡ Some t → (b : Bool) → is_given g k s h.touches t ≡ b → IsDistinct user_eq (users_before g k s h n) → IsDistinct user_eq (map (λ t. t.user) (cond b (t ∷ newest_first (is_given g k s h.touches) h.tuples n) (newest_first (is_given g k s h.touches) h.tuples n)))
        by_test t here true p before = (none_same t.user (users_before g k s h n) (not_before n t here p), before)
        by_test t here false p before = before

        pick : (o : Option TupleValue) → slice_get h.tuples n ≡ o → IsDistinct user_eq (users_before g k s h n) → IsDistinct user_eq (map (λ t. t.user) (in_front (is_given g k s h.touches) o (newest_first (is_given g k s h.touches) h.tuples n)))
        pick None here before = before
        pick (Some t) here before = by_test t here (is_given g k s h.touches t) refl before

  module _ (known : AreTouchesKnown h) (u : User) where
    abbrev stored : Bool
    stored = last_live false (touches_to (tuple_of g u) (until s h.touches))

    abbrev given : Bool
    given = list_any (user_eq u) (users_before g k s h (length h.tuples))

    by_user : given ≡ list_any (λ t. user_eq u t.user) (newest_first (is_given g k s h.touches) h.tuples (length h.tuples))
    by_user = list_any-map (λ t. t.user) (user_eq u) (newest_first (is_given g k s h.touches) h.tuples (length h.tuples))

    stored_given : is_of_kind k u ≡ true → stored ≡ true → given ≡ true
    stored_given kind e =
        let touch = live_touched (tuple_of g u) s h.touches e in
        let number = known touch.0 touch.1 touch.2 in
        let here : slice_get h.tuples number.0 ≡ Some (tuple_of g u) = number.1 ∙ ap Some (tuple_eq-same touch.1.tuple (tuple_of g u) touch.3) in
        by_user
        ∙ given_from (is_given g k s h.touches) (λ t. user_eq u t.user) h.tuples (length h.tuples) number.0 (tuple_of g u) (slice_get_within h.tuples number.0 (tuple_of g u) here) here
        (rw (set_eq-itself g, kind, e) refl) (user_eq-itself u)

    given_stored : given ≡ true → (is_of_kind k u && stored) ≡ true
    given_stored e =
        let w = given_at (is_given g k s h.touches) (λ t. user_eq u t.user) h.tuples (length h.tuples) (sym by_user ∙ e) in
        let same : w.1 ≡ tuple_of g u = λ i. record { set = of_set w.1 w.4 i; user = sym (user_eq-same u w.1.user w.5) i } in
        subst (λ (t : TupleValue). (is_of_kind k t.user && last_live false (touches_to t (until s h.touches))) ≡ true) same (and-right (set_eq w.1.set g) _ w.4)

    pub users_stored : given ≡ (is_of_kind k u && stored)
    users_stored = by_tests given (is_of_kind k u && stored) refl refl
      where
        by_tests : (a b : Bool) → given ≡ a → (is_of_kind k u && stored) ≡ b → a ≡ b
        by_tests true true p q = refl
        by_tests false false p q = refl
        by_tests true false p q = sym (given_stored p) ∙ q
        by_tests false true p q = sym p ∙ stored_given (and-left (is_of_kind k u) stored q) (and-right (is_of_kind k u) stored q)

  -- ---- the walk over them

  pub users_start : (place : ℕ) → place ≡ last_place (has_mark_of g k) h.tuples (length h.tuples) → users_before g k s h place ≡ users_before g k s h (length h.tuples)
  users_start place e = ap (map (λ t. t.user)) (sym (left_older (has_mark_of g k) (is_given g k s h.touches) given_marked h.tuples (length h.tuples) place e))

  pub user_at : (m : ℕ) → IsLinkedPlace (has_mark_of g k) h.tuples (suc m) → (t : TupleValue) × (slice_get h.tuples m ≡ Some t)
  user_at m on = let w = linked_item (has_mark_of g k) h.tuples m on in (w.0, w.1)

  module _ (m : ℕ) (on : IsLinkedPlace (has_mark_of g k) h.tuples (suc m)) (older : ℕ) (link : (t : TupleValue) → slice_get h.tuples m ≡ Some t → older ≡ last_place (has_mark_of t.set (is_userset t.user)) h.tuples m) where
    link_of_set : older ≡ last_place (has_mark_of g k) h.tuples m
    link_of_set =
        let w = linked_item (has_mark_of g k) h.tuples m on in
        link w.0 w.1 ∙ ap (λ (mark : ℕ). last_place (λ t. nat_eq mark (held_mark t)) h.tuples m) (sym (eqb-true (kind_mark (set_mark g) k) (held_mark w.0) w.2))

    pub users_smaller : (place : ℕ) → place ≡ suc m → older < place
    users_smaller place e =
        let is = link_of_set in
        let below = last_place-within (has_mark_of g k) h.tuples m in
        omega (arith, is, below, e)

    pub users_on : IsLinkedPlace (has_mark_of g k) h.tuples older
    users_on = linked_older (has_mark_of g k) h.tuples m older on link_of_set

    left : newest_first (is_given g k s h.touches) h.tuples m ≡ newest_first (is_given g k s h.touches) h.tuples older
    left = left_older (has_mark_of g k) (is_given g k s h.touches) given_marked h.tuples m older link_of_set

    pub users_give : (t : TupleValue) → slice_get h.tuples m ≡ Some t → is_given g k s h.touches t ≡ true → users_before g k s h (suc m) ≡ t.user ∷ users_before g k s h older
    users_give t here p = ap (map (λ t. t.user)) (newest_first-here (is_given g k s h.touches) h.tuples m t here p ∙ ap (λ ts. t ∷ ts) left)

    pub users_skip : (t : TupleValue) → slice_get h.tuples m ≡ Some t → is_given g k s h.touches t ≡ false → users_before g k s h (suc m) ≡ users_before g k s h older
    users_skip t here p = ap (map (λ t. t.user)) (newest_first-not_here (is_given g k s h.touches) h.tuples m t here p ∙ left)
