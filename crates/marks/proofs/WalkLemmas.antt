-- Walks along links, from the newest item back.
use Rattle.std.proofs.Common.{◌≡◌, ℕ, suc, ◌≤◌, Bool, true, false, List, [], ◌∷◌, length, refl, sym, ◌∙◌, ap, Some, arith}
use Rattle.std.specs.Prelude.{slice_get}
use Rattle.std.specs.List.{list_any}
use Rattle.std.proofs.lemmas.Option.{slice_get_within}
use Rattle.marks.specs.Placed.{last_place, newest_first, IsLinkedPlace, IsWalk}
use Rattle.marks.proofs.PlacedLemmas.{last_place-within, at_last_place, newest_first-through, newest_first-here, newest_first-not_here, given_from}

pub linked_newest : {X : Type 0} (linked : X → Bool) (xs : List X) (place : ℕ) → place ≡ last_place linked xs (length xs) → IsLinkedPlace linked xs place
linked_newest linked xs place e = (length xs, omega arith, e)

-- where such a place is
pub linked_within : {X : Type 0} (linked : X → Bool) (xs : List X) (place : ℕ) → IsLinkedPlace linked xs place → place ≤ length xs
linked_within linked xs place on =
    let below = last_place-within linked xs on.0 in
    let less = on.1 in
    let e = on.2 in
    omega (arith, below, less, e)

-- what stands there
pub linked_item : {X : Type 0} (linked : X → Bool) (xs : List X) (m : ℕ) → IsLinkedPlace linked xs (suc m) → (x : X) × (slice_get xs m ≡ Some x) × (linked x ≡ true)
linked_item linked xs m on = let w = at_last_place linked xs on.0 m (sym on.2) in (w.0, w.1, w.2)

-- the place before it
pub linked_older : {X : Type 0} (linked : X → Bool) (xs : List X) (m place : ℕ) → IsLinkedPlace linked xs (suc m) → place ≡ last_place linked xs m → IsLinkedPlace linked xs place
linked_older linked xs m place on e = let within = linked_within linked xs (suc m) on in (m, omega (arith, within), e)

module _ {X : Type 0} (linked wanted : X → Bool) (sub : (x : X) → wanted x ≡ true → linked x ≡ true) (xs : List X) where
  -- what is wanted before a place is wanted before the place to which the link leads
  pub left_older : (m place : ℕ) → place ≡ last_place linked xs m → newest_first wanted xs m ≡ newest_first wanted xs place
  left_older m place e = newest_first-through wanted linked sub xs m ∙ ap (newest_first wanted xs) (sym e)

  pub walk_start : (place : ℕ) → place ≡ last_place linked xs (length xs) → IsWalk linked wanted xs place
  walk_start place e = record { on = linked_newest linked xs place e; left = left_older (length xs) place e }

  pub walk_on : (m place : ℕ) (x : X) → IsWalk linked wanted xs (suc m) → slice_get xs m ≡ Some x → wanted x ≡ false → place ≡ last_place linked xs m → IsWalk linked wanted xs place
  walk_on m place x walk here out e = record {
    on = linked_older linked xs m place walk.on e;
    left = walk.left ∙ newest_first-not_here wanted xs m x here out ∙ left_older m place e;
  }

  pub walk_found : (m : ℕ) (x : X) → IsWalk linked wanted xs (suc m) → slice_get xs m ≡ Some x → wanted x ≡ true → newest_first wanted xs (length xs) ≡ x ∷ newest_first wanted xs m
  walk_found m x walk here in_it = walk.left ∙ newest_first-here wanted xs m x here in_it

  pub walk_end : IsWalk linked wanted xs 0 → newest_first wanted xs (length xs) ≡ []
  walk_end walk = walk.left

  pub walk_none : IsWalk linked wanted xs 0 → (i : ℕ) (x : X) → slice_get xs i ≡ Some x → wanted x ≡ false
  walk_none walk i x here = by_test (wanted x) refl
    where
      by_test : (b : Bool) → wanted x ≡ b → b ≡ false
      by_test false t = refl
      by_test true t = absurd (let any = given_from wanted (λ _. true) xs (length xs) i x (slice_get_within xs i x here) here t refl in let none : list_any {X = X} (λ _. true) [] ≡ true = sym (ap (list_any (λ _. true)) walk.left) ∙ any in cc)
