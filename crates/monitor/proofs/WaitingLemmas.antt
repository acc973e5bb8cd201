-- Keys of a set that is kept in order, as they are put in and let go.
use Rattle.std.proofs.Common.{◌≡◌, ℕ, zero, suc, ◌<◌, ◌⊎◌, inl, inr, List, [], ◌∷◌, length, Ordering, refl, sym, subst, arith}
use Rattle.std.specs.Prelude.{Contains}
use Rattle.std.specs.BTreeSet.{insert_key}
use Rattle.std.specs.Ordering.{match_ordering, nat_cmp, ordering_then}
use Rattle.std.specs.declared.cmp.Ordering.TheVariants.{Less, Equal, Greater}
use Rattle.std.proofs.lemmas.Map.Lookups.{CmpEqualImpliesEq, exact_pairs, exact_unsigned}

module _ {K : Type 0} where
  pub first_there : (x : K) (xs : List K) → Contains (x ∷ xs) x
  first_there x xs = (0, omega arith, refl)

  pub later_there : (x : K) (xs : List K) (k : K) → Contains xs k → Contains (x ∷ xs) k
  later_there x xs k (n, lt, is) = (suc n, omega (arith, lt), is)

  pub first_or_later : (x : K) (xs : List K) (k : K) → Contains (x ∷ xs) k → (k ≡ x) ⊎ Contains xs k
  first_or_later x xs k (zero, lt, is) = inl (sym is)
  first_or_later x xs k (suc n, lt, is) = inr (n, omega (arith, lt), is)

  pub none_there : (k : K) → Contains [] k → ⊥
  none_there k (n, lt, is) = omega (arith, lt)

  pub none_left : (xs : List K) → ¬ (0 < length xs) → xs ≡ []
  none_left [] h = refl
  none_left (x ∷ xs) h = absurd (h (omega arith))

  module _ (cmp : K → K → Ordering) (exact : CmpEqualImpliesEq cmp) (k : K) where
    pub inserted_there : (xs : List K) → Contains (insert_key cmp xs k) k
    inserted_there [] = first_there k []
    inserted_there (x ∷ xs) = by_order (inserted_there xs) (cmp k x) refl
      where
        by_order : Contains (insert_key cmp xs k) k → (r : Ordering) → cmp k x ≡ r
            → Contains (match_ordering r (k ∷ x ∷ xs) (x ∷ xs) (x ∷ insert_key cmp xs k)) k
        by_order rest Less is = first_there k (x ∷ xs)
        by_order rest Equal is = subst (λ (y : K). Contains (y ∷ xs) k) (exact k x is) (first_there k xs)
        by_order rest Greater is = later_there x (insert_key cmp xs k) k rest

    pub inserted_kept : (xs : List K) (q : K) → Contains xs q → Contains (insert_key cmp xs k) q
    inserted_kept [] q h = absurd (none_there q h)
    inserted_kept (x ∷ xs) q h = by_order (inserted_kept xs q) (cmp k x)
      where
        by_order : (Contains xs q → Contains (insert_key cmp xs k) q) → (r : Ordering)
            → Contains (match_ordering r (k ∷ x ∷ xs) (x ∷ xs) (x ∷ insert_key cmp xs k)) q
        by_order rest Less = later_there k (x ∷ xs) q h
        by_order rest Equal = h
        by_order rest Greater = elim (first_or_later x xs q h) [
          | inl first ↦ subst (λ (y : K). Contains (x ∷ insert_key cmp xs k) y) (sym first) (first_there x (insert_key cmp xs k))
          | inr later ↦ later_there x (insert_key cmp xs k) q (rest later)
        ]

    pub inserted_only : (xs : List K) (q : K) → Contains (insert_key cmp xs k) q → (q ≡ k) ⊎ Contains xs q
    inserted_only [] q h = elim (first_or_later k [] q h) [
      | inl first ↦ inl first
      | inr later ↦ absurd (none_there q later)
    ]
    inserted_only (x ∷ xs) q h = by_order (inserted_only xs q) (cmp k x) h
      where
        by_order : (Contains (insert_key cmp xs k) q → (q ≡ k) ⊎ Contains xs q) → (r : Ordering)
            → Contains (match_ordering r (k ∷ x ∷ xs) (x ∷ xs) (x ∷ insert_key cmp xs k)) q → (q ≡ k) ⊎ Contains (x ∷ xs) q
        by_order rest Less h = first_or_later k (x ∷ xs) q h
        by_order rest Equal h = inr h
        by_order rest Greater h = elim (first_or_later x (insert_key cmp xs k) q h) [
          | inl first ↦ inr (subst (λ (y : K). Contains (x ∷ xs) y) (sym first) (first_there x xs))
          | inr later ↦ elim (rest later) [
            | inl same ↦ inl same
            | inr there ↦ inr (later_there x xs q there)
          ]
        ]

-- ---- keys of a timestamp and a number

abbrev pub key_cmp : ℕ × ℕ → ℕ × ℕ → Ordering
key_cmp x y = ordering_then (nat_cmp x.0 y.0) (nat_cmp x.1 y.1)

pub exact_keys : CmpEqualImpliesEq key_cmp
exact_keys = exact_pairs nat_cmp nat_cmp exact_unsigned exact_unsigned
