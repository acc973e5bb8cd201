-- Users of two kinds: usersets and ids.
use Rattle.std.proofs.Common.{◌≡◌, Bool, true, false, List, [], ◌∷◌, ◌++◌, refl, sym, ◌∙◌, ap, ◌||◌, ◌&&◌}
use Rattle.std.specs.Cmp.{booleans_Decides}
use Rattle.std.specs.List.{list_any, IsDistinct, AllByRecursion}
use Rattle.std.proofs.lemmas.List.Folds.{list_any-append}
use Rattle.tuple_text.specs.Order.{user_eq}
use Rattle.tuple_text.specs.Sets.{SetValue, set_eq}
use Rattle.tuple_text.specs.declared.users.User.{User}
use Rattle.tuple_text.specs.declared.users.User.TheVariants.{Id, Set}
use Rattle.tuple_text.proofs.ValueLemmas.{user_eq-itself}
use Rattle.version_chains.specs.Given.{is_of_kind, usersets_of, AreUsersets}
use Rattle.marks.specs.Marks.{is_userset}
use Rattle.marks.proofs.PlacedLemmas.{and-left, or-second}
use Rattle.version_chains.proofs.UserLemmas.{none_same}

first_there : (u : User) (us : List User) → list_any (user_eq u) (u ∷ us) ≡ true
first_there u us = ap (λ b. b || list_any (user_eq u) us) (user_eq-itself u)

each-parts : (P : User → Type 0) (us vs : List User) → AllByRecursion P us → AllByRecursion P vs → AllByRecursion P (us ++ vs)
each-parts P [] vs h k = k
each-parts P (u ∷ us) vs h k = (h.0, each-parts P us vs h.1 k)

-- two lists that have no user in common
distinct-parts : (us vs : List User) → IsDistinct user_eq us → IsDistinct user_eq vs → ((u : User) → list_any (user_eq u) us ≡ true → list_any (user_eq u) vs ≡ false) → IsDistinct user_eq (us ++ vs)
unfolding IsDistinct
distinct-parts [] vs d e apart = e
distinct-parts (u ∷ us) vs d e apart = (
  each-parts (λ y. user_eq u y ≡ false) us vs d.0 (none_same u vs (apart u (first_there u us))),
  distinct-parts us vs d.1 e (λ x h. apart x (or-second (user_eq x u) _ h)),
)

either_kind : (u : User) (b : Bool) → ((is_of_kind true u && b) || (is_of_kind false u && b)) ≡ b
either_kind (Id n) b = refl
either_kind (Set g) true = refl
either_kind (Set g) false = refl

not_both_kinds : (u : User) (b : Bool) → (is_of_kind true u && b) ≡ true → (is_of_kind false u && b) ≡ false
not_both_kinds (Id n) b h = cc
not_both_kinds (Set g) b h = refl

-- the usersets that `stored` has, and the ids
module _ (stored : User → Bool) (us vs : List User)
    (usersets : (u : User) → list_any (user_eq u) us ≡ (is_of_kind true u && stored u)) (ids : (u : User) → list_any (user_eq u) vs ≡ (is_of_kind false u && stored u)) where
  pub both_distinct : IsDistinct user_eq us → IsDistinct user_eq vs → IsDistinct user_eq (us ++ vs)
  both_distinct d e = distinct-parts us vs d e (λ u h. ids u ∙ not_both_kinds u (stored u) (sym (usersets u) ∙ h))

  pub both_stored : (u : User) → list_any (user_eq u) (us ++ vs) ≡ stored u
  both_stored u = list_any-append (user_eq u) us vs ∙ (λ i. usersets u i || ids u i) ∙ either_kind u (stored u)

-- ---- usersets alone

pub usersets_any : (g : SetValue) (us : List User) → list_any (set_eq g) (usersets_of us) ≡ list_any (user_eq (Set g)) us
usersets_any g [] = refl
usersets_any g (Id n ∷ us) = usersets_any g us
usersets_any g (Set s ∷ us) = ap (λ b. set_eq g s || b) (usersets_any g us)

others : (g : SetValue) (us : List User) → AllByRecursion (λ y. user_eq (Set g) y ≡ false) us → AllByRecursion (λ y. set_eq g y ≡ false) (usersets_of us)
others g [] h = tt
others g (Id n ∷ us) h = others g us h.1
others g (Set s ∷ us) h = (h.0, others g us h.1)

pub usersets_distinct : (us : List User) → IsDistinct user_eq us → IsDistinct set_eq (usersets_of us)
unfolding IsDistinct
usersets_distinct [] d = tt
usersets_distinct (Id n ∷ us) d = usersets_distinct us d.1
usersets_distinct (Set g ∷ us) d = (others g us d.0, usersets_distinct us d.1)

pub are_usersets : (stored : User → Bool) (us : List User) → ((u : User) → list_any (user_eq u) us ≡ (is_of_kind true u && stored u)) → AreUsersets us
are_usersets stored us has = each us (λ u h. (booleans_Decides (is_userset u) true).0 (and-left (is_of_kind true u) (stored u) (sym (has u) ∙ h)))
  where
    each : (xs : List User) → ((u : User) → list_any (user_eq u) xs ≡ true → is_userset u ≡ true) → AreUsersets xs
    each [] h = tt
    each (x ∷ xs) h = (h x (first_there x xs), each xs (λ u k. h u (or-second (user_eq u x) _ k)))
