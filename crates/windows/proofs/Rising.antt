-- Lists by numbers that rise.
use Rattle.std.proofs.Common.{ℕ, ◌<◌, Bool, true, false, cond, List, [], ◌∷◌}
use Rattle.std.specs.Prelude.{filter}
use Rattle.std.specs.List.{AllByRecursion}
use Rattle.std.proofs.lemmas.List.Elements.{All-filter, All-from_recursion, recursion_from_All}

module _ {X : Type 0} (at : X → ℕ) where
  -- each is before all later ones
  abbrev pub AreInOrder : List X → Type 0
  AreInOrder [] = Unit {0}
  AreInOrder (x ∷ xs) = AllByRecursion (λ y. at x < at y) xs × AreInOrder xs

  pub order_kept : (p : X → Bool) (xs : List X) → AreInOrder xs → AreInOrder (filter p xs)
  order_kept p [] h = tt
  order_kept p (x ∷ xs) h = by_test (order_kept p xs h.1) (p x)
    where
      by_test : AreInOrder (filter p xs) → (b : Bool) → AreInOrder (cond b (x ∷ filter p xs) (filter p xs))
      by_test rest true =
          let later : X → Type 0 = λ y. at x < at y in
          (recursion_from_All later (filter p xs) (All-filter p later xs (All-from_recursion later xs h.0)), rest)
      by_test rest false = rest
