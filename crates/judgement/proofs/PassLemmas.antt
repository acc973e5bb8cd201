-- What a pass over the stored usersets of a userset shows.
use Rattle.std.proofs.Common.{map, option_map, ◌≡◌, ℕ, ◌+◌, ◌<◌, length, arith, Bool, true, false, List, [], ◌∷◌, Option, ◌⊎◌, inl, inr, ◌↔◌, refl, sym, ◌∙◌, ap, subst, ◌||◌}
use Rattle.std.proofs.Math.Nat.{eq-or-lt_of_le}
use Rattle.std.proofs.lemmas.Option.{slice_get_within, slice_get_read, slice_get-map, get_or_from_slice_get}
use Rattle.std.specs.Prelude.{Contains, slice_get, Some}
use Rattle.std.specs.List.{list_any}
use Rattle.tuple_text.specs.Sets.{SetValue, set_eq}
use Rattle.tuple_text.specs.Tuples.{tuple_of}
use Rattle.tuple_text.specs.declared.users.User.TheVariants.{Set}
use Rattle.tuple_text.proofs.ValueLemmas.{set_eq-same, set_eq-itself}
use Rattle.namespaces.specs.Lookup.{Lookup}
use Rattle.version_chains.specs.Commits.{Commit, is_stored, store_at}
use Rattle.version_chains.proofs.StoreLemmas.{store_at-iff}
use Rattle.judgement.specs.Judgement.{KnownValue}
use Rattle.judgement.specs.Passes.{GivesId, BarsId, SomeSet, EachSet, IsLed, IsBarred}

first_there : (g : SetValue) (gs : List SetValue) → list_any (set_eq g) (g ∷ gs) ≡ true
first_there g gs = ap (λ b. b || list_any (set_eq g) gs) (set_eq-itself g)

or_second : (a b : Bool) → b ≡ true → (a || b) ≡ true
or_second true b h = refl
or_second false b h = h

pub some_given : (P : SetValue → Type 0) (gs : List SetValue) → SomeSet P gs → (g : SetValue) × (list_any (set_eq g) gs ≡ true) × P g
some_given P [] h = absurd h
some_given P (x ∷ xs) (inl p) = (x, first_there x xs, p)
some_given P (x ∷ xs) (inr h) = let w = some_given P xs h in (w.0, or_second (set_eq w.0 x) _ w.1, w.2)

-- the userset is the first, or among the others
split : (g x : SetValue) (xs : List SetValue) → list_any (set_eq g) (x ∷ xs) ≡ true → (g ≡ x) ⊎ (list_any (set_eq g) xs ≡ true)
split g x xs h = by_test (set_eq g x) refl h
  where
    by_test : (b : Bool) → set_eq g x ≡ b → (b || list_any (set_eq g) xs) ≡ true → (g ≡ x) ⊎ (list_any (set_eq g) xs ≡ true)
    by_test true e k = inl (set_eq-same g x e)
    by_test false e k = inr k

none_there : (g : SetValue) → list_any (set_eq g) [] ≡ true → ⊥
none_there g h = cc

pub some_from : (P : SetValue → Type 0) (gs : List SetValue) (g : SetValue) → list_any (set_eq g) gs ≡ true → P g → SomeSet P gs
some_from P [] g h p = none_there g h
some_from P (x ∷ xs) g h p = by_cases (λ k. some_from P xs g k p) (split g x xs h)
  where
    by_cases : (list_any (set_eq g) xs ≡ true → SomeSet P xs) → (g ≡ x) ⊎ (list_any (set_eq g) xs ≡ true) → P x ⊎ SomeSet P xs
    by_cases further (inl e) = inl (subst P e p)
    by_cases further (inr k) = inr (further k)

each_at : (P : SetValue → Type 0) (gs : List SetValue) → EachSet P gs → (g : SetValue) → list_any (set_eq g) gs ≡ true → P g
each_at P [] h g k = absurd (none_there g k)
each_at P (x ∷ xs) h g k = by_cases (λ m. each_at P xs h.1 g m) (split g x xs k)
  where
    by_cases : (list_any (set_eq g) xs ≡ true → P g) → (g ≡ x) ⊎ (list_any (set_eq g) xs ≡ true) → P g
    by_cases further (inl e) = subst P (sym e) h.0
    by_cases further (inr m) = further m

each_from : (P : SetValue → Type 0) (gs : List SetValue) → ((g : SetValue) → list_any (set_eq g) gs ≡ true → P g) → EachSet P gs
each_from P [] h = tt
each_from P (x ∷ xs) h = (h x (first_there x xs), each_from P xs (λ g k. h g (or_second (set_eq g x) _ k)))

-- ---- elements by their places

pub element_at : {X : Type 0} (names : List X) (k : ℕ) (c : X) → slice_get names k ≡ Some c → Contains names c
element_at names k c h = (k, slice_get_within names k c h, get_or_from_slice_get names k c c h)

pub place_of_element : {X : Type 0} (names : List X) (c : X) → Contains names c → (k : ℕ) × (k < length names) × (slice_get names k ≡ Some c)
place_of_element names c (k, within, is) = (k, within, slice_get_read names (length names) k c refl within (sym is))

pub mapped_element : {X Y : Type 0} (f : X → Y) (names : List X) (c : X) → Contains names c → Contains (map f names) (f c)
mapped_element f names c there =
    let p = place_of_element names c there in
    element_at (map f names) p.0 (f c) (slice_get-map f names p.0 ∙ ap (option_map f) p.2)

-- where each place was looked at, so was each element
pub each_element : {X : Type 0} (P : X → Type 0) (names : List X) → ((k : ℕ) (c : X) → k < length names → slice_get names k ≡ Some c → P c)
    → (c : X) → Contains names c → P c
each_element P names h c there = let p = place_of_element names c there in h p.0 c p.1 p.2

-- one place more
pub next_element : {X : Type 0} (P : X → Type 0) (names : List X) (n : ℕ) → ((k : ℕ) (c : X) → k < n → slice_get names k ≡ Some c → P c)
    → ((c : X) → slice_get names n ≡ Some c → P c) → (k : ℕ) (c : X) → k < n + 1 → slice_get names k ≡ Some c → P c
next_element P names n before here k c within at = by_cases (eq-or-lt_of_le (omega (arith, within)))
  where
    by_cases : (k ≡ n) ⊎ (k < n) → P c
    by_cases (inl same) = here c (subst (λ m. slice_get names m ≡ Some c) same at)
    by_cases (inr less) = before k c less at

module _ (commits : List Commit) (at : ℕ) (set : SetValue) (gs : List SetValue)
    (has : (g : SetValue) → list_any (set_eq g) gs ≡ is_stored commits at (tuple_of set (Set g))) (known : KnownValue) (relation : Option (List ℕ)) (id : ℕ) where
  stored : (g : SetValue) → list_any (set_eq g) gs ≡ true → Contains (store_at commits at) (tuple_of set (Set g))
  stored g h = (store_at-iff commits at (tuple_of set (Set g))).1 (sym (has g) ∙ h)

  there : (g : SetValue) → Contains (store_at commits at) (tuple_of set (Set g)) → list_any (set_eq g) gs ≡ true
  there g c = has g ∙ (store_at-iff commits at (tuple_of set (Set g))).0 c

  pub each_by_sets : (P : SetValue → Type 0) → EachSet P gs ↔ ((g : SetValue) → Contains (store_at commits at) (tuple_of set (Set g)) → P g)
  each_by_sets P = (λ h. λ g c. each_at P gs h g (there g c), λ b. each_from P gs (λ g h. b g (stored g h)))

  pub some_by_sets : (P : SetValue → Type 0) → SomeSet P gs ↔ (g : SetValue) × Contains (store_at commits at) (tuple_of set (Set g)) × P g
  some_by_sets P = (
    λ h. let w = some_given P gs h in (w.0, stored w.0 w.1, w.2),
    λ l. some_from P gs l.0 (there l.0 l.1) l.2,
  )

  pub led_by_sets : SomeSet (GivesId known relation id) gs ↔ IsLed (store_at commits at) known set relation id
  led_by_sets = some_by_sets (GivesId known relation id)

  pub barred_by_sets : (rules : Lookup) → EachSet (BarsId rules known relation id) gs ↔ IsBarred rules (store_at commits at) known set relation id
  barred_by_sets rules = (
    λ h. λ g c. each_at (BarsId rules known relation id) gs h g (there g c),
    λ b. each_from (BarsId rules known relation id) gs (λ g h. b g (stored g h)),
  )
