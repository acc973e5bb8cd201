-- Rounds and strata: a stratum is settled once it is passed, and a round keeps what the earlier ones have.
use Rattle.std.proofs.Common.{◌≡◌, ℕ, zero, suc, ◌≤◌, ◌<◌, List, Some, ◌⊎◌, inl, inr, ◌↔◌, subst, ap, sym, arith}
use Rattle.tuple_text.specs.Tuples.{TupleValue, FactValue}
use Rattle.namespaces.specs.Lookup.{Rule, Lookup, rule_of}
use Rattle.strata.specs.Meaning.{Body, Below, At, In, Member}
use Rattle.strata.specs.Strata.{IsAtMost, IsLower, HasValidStrata}
use Rattle.strata.proofs.Premises.{each_premise-map, body-map, body-more, body-round, kept_up_to, le_cases}

pub same_rule : (lookup : Lookup) (f : FactValue) (r s : Rule) → rule_of lookup f.set ≡ Some r → rule_of lookup f.set ≡ Some s → r ≡ s
same_rule lookup f r s p q = cc

pub lower_than_next : (lookup : Lookup) (f : FactValue) (r : Rule) → rule_of lookup f.set ≡ Some r → IsLower lookup (suc r.stratum) f
lower_than_next lookup f r e s d =
    let k : s.stratum ≡ r.stratum = ap (λ (x : Rule). x.stratum) (same_rule lookup f s r d e) in omega arith

module _ (lookup : Lookup) (store : List TupleValue) (valid : HasValidStrata lookup store) where
  -- below k nothing is added at k
  abbrev pub Settled : ℕ → Type 0
  Settled k = (f : FactValue) → IsLower lookup k f → Below lookup store (suc k) f → Below lookup store k f

  abbrev pub Rising : ℕ → Type 0
  Rising k = (n : ℕ) (f : FactValue) → At lookup store k n f → At lookup store k (suc n) f

  -- the premises of a rule of stratum j at most k: under a subtracted side k and k + 1 agree
  agree : (k : ℕ) → Settled k → (j : ℕ) → j ≤ k → (g : FactValue) → IsLower lookup j g → Below lookup store (suc k) g → Below lookup store k g
  agree k settled j le g low b = settled g (λ s e. let lt : s.stratum < j = low s e in omega arith) b

  rising_from_first : (k : ℕ) → ((f : FactValue) → Below lookup store k f → At lookup store k 1 f) → Rising k
  rising_from_first k first zero f b = first f b
  rising_from_first k first (suc n) f a = (
    a.0,
    a.1,
    a.2,
    body-more store (At lookup store k n) (Below lookup store k) (At lookup store k (suc n))
        (λ g. rising_from_first k first n g) f a.0.expression a.3,
  )

  first_round : (k : ℕ) → Settled k → Rising k → (f : FactValue) → Below lookup store (suc k) f → At lookup store (suc k) 1 f
  first_round k settled rising f b = go (rising b.0 f b.1)
    where
      go : At lookup store k (suc b.0) f → At lookup store (suc k) 1 f
      go a = (
        a.0,
        a.1,
        omega (arith, a.2),
        body-map store (At lookup store k b.0) (Below lookup store k) (Below lookup store (suc k)) (Below lookup store (suc k))
            f a.0.expression
            (each_premise-map store (IsAtMost lookup a.0.stratum) (IsLower lookup a.0.stratum)
            (λ g. At lookup store k b.0 g → Below lookup store (suc k) g)
            (λ g. Below lookup store k g ↔ Below lookup store (suc k) g)
            (λ g _ h. (b.0, h))
            (λ g low. (λ h. (0, h), agree k settled a.0.stratum a.2 g low))
            f a.0.expression (valid f a.0 a.1))
            a.3,
      )

  settled_zero : Settled 0
  settled_zero f low (zero, a) = a
  settled_zero f low (suc n, a) = let lt : a.0.stratum < 0 = low a.0 a.1 in absurd (omega arith)

  settled_at : (k : ℕ) → Settled k → Rising k → (n : ℕ) (f : FactValue)
      → IsLower lookup (suc k) f → At lookup store (suc k) n f → Below lookup store (suc k) f
  settled_at k settled rising zero f low a = a
  settled_at k settled rising (suc n) f low a =
      let lt : a.0.stratum < suc k = low a.0 a.1 in
      let le : a.0.stratum ≤ k = omega arith in
      let s = body-round store (At lookup store k) (Below lookup store k) rising f a.0.expression
      (body-map store (At lookup store (suc k) n) (Below lookup store (suc k)) (Below lookup store (suc k)) (Below lookup store k)
      f a.0.expression
      (each_premise-map store (IsAtMost lookup a.0.stratum) (IsLower lookup a.0.stratum)
      (λ g. At lookup store (suc k) n g → Below lookup store (suc k) g)
      (λ g. Below lookup store (suc k) g ↔ Below lookup store k g)
      (λ g most. settled_at k settled rising n g (λ s e. let m : s.stratum ≤ a.0.stratum = most s e in omega arith))
      (λ g under. (agree k settled a.0.stratum le g under, λ h. (0, h)))
      f a.0.expression (valid f a.0 a.1))
      a.3) in
      (suc s.0, (a.0, a.1, le, s.1))

  pub settled_and_rising : (k : ℕ) → Settled k × Rising k
  settled_and_rising zero = (settled_zero, rising_from_first 0 (λ f b. absurd b))
  settled_and_rising (suc k) =
      let h = settled_and_rising k in (
        (λ f low b. settled_at k h.0 h.1 b.0 f low b.1),
        rising_from_first (suc k) (first_round k h.0 h.1),
      )

  -- what holds below k is of a stratum below k
  pub lower_from_below : (k : ℕ) (f : FactValue) → Below lookup store k f → IsLower lookup k f
  lower_from_below zero f b = absurd b
  lower_from_below (suc k) f b =
      let a = (settled_and_rising k).1 b.0 f b.1 in
      λ s e. let lt : s.stratum < suc a.0.stratum = lower_than_next lookup f a.0 a.1 s e in omega (arith, a.2)

  -- what holds below a stratum holds below any higher one
  pub below_up : (j k : ℕ) → j ≤ k → (f : FactValue) → Below lookup store j f → Below lookup store k f
  below_up j k le f b = kept_up_to (λ i. Below lookup store i f) (λ i h. (0, h)) j k le b

  -- and the other way where f's relation is of a stratum below the lower of the two
  pub below_down : (j k : ℕ) → j ≤ k → (f : FactValue) → IsLower lookup j f → Below lookup store k f → Below lookup store j f
  below_down j zero le f low b = absurd b
  below_down j (suc k) le f low b = by_cases (λ h. below_down j k h f low) (le_cases j k le)
    where
      by_cases : (j ≤ k → Below lookup store k f → Below lookup store j f) → (j ≤ k) ⊎ (j ≡ suc k) → Below lookup store j f
      by_cases step (inl h) =
          step h ((settled_and_rising k).0 f (λ s e. let lt : s.stratum < j = low s e in omega arith) b)
      by_cases step (inr e) = subst (λ i. Below lookup store i f) (sym e) b

  pub stable_law : (f : FactValue) (r : Rule) → rule_of lookup f.set ≡ Some r
      → (k : ℕ) → r.stratum ≤ k → (In lookup store k f ↔ In lookup store r.stratum f)
  stable_law f r e k le = (
    below_down (suc r.stratum) (suc k) (omega arith) f (lower_than_next lookup f r e),
    below_up (suc r.stratum) (suc k) (omega arith) f,
  )

  -- a member holds below each stratum that is higher than its own
  pub below_from_member : (k : ℕ) (f : FactValue) → IsLower lookup k f → Member lookup store f → Below lookup store k f
  below_from_member k f low m =
      let lt : m.0.stratum < k = low m.0 m.1 in below_up (suc m.0.stratum) k (omega arith) f m.2

  -- what holds below some stratum is a member
  pub member_from_below : (k : ℕ) (f : FactValue) → Below lookup store k f → Member lookup store f
  member_from_below zero f b = absurd b
  member_from_below (suc k) f b = go ((settled_and_rising k).1 b.0 f b.1)
    where
      go : At lookup store k (suc b.0) f → Member lookup store f
      go a = (
        a.0,
        a.1,
        below_down (suc a.0.stratum) (suc k) (omega (arith, a.2)) f (lower_than_next lookup f a.0 a.1) b,
      )

  pub closed_law : (f : FactValue) (r : Rule) → rule_of lookup f.set ≡ Some r
      → Body store (Member lookup store) (Member lookup store) f r.expression → Member lookup store f
  closed_law f r e b =
      let s = body-round store (At lookup store r.stratum) (Below lookup store r.stratum)
      ((settled_and_rising r.stratum).1) f r.expression
      (body-map store (Member lookup store) (Member lookup store) (Below lookup store (suc r.stratum)) (Below lookup store r.stratum)
      f r.expression
      (each_premise-map store (IsAtMost lookup r.stratum) (IsLower lookup r.stratum)
      (λ g. Member lookup store g → Below lookup store (suc r.stratum) g)
      (λ g. Member lookup store g ↔ Below lookup store r.stratum g)
      (λ g most. below_from_member (suc r.stratum) g (λ s d. let m : s.stratum ≤ r.stratum = most s d in omega arith))
      (λ g low. (below_from_member r.stratum g low, member_from_below r.stratum g))
      f r.expression (valid f r e))
      b) in
      (r, e, (suc s.0, (r, e, omega arith, s.1)))
