-- Members are the least relation that is closed under the rules.
use Rattle.std.proofs.Common.{◌≡◌, ℕ, zero, suc, ◌≤◌, ◌<◌, Bool, true, false, IsTrue, List, Option, Some, None, ◌⊎◌, inl, inr, ◌↔◌, refl, sym, ◌∙◌, subst, ap, arith}
use Rattle.tuple_text.specs.Tuples.{TupleValue, FactValue}
use Rattle.rewrites.specs.Expression.{Expression, this, computed, tuple_to, union, inter, minus, Expressions, no_child, child}
use Rattle.namespaces.specs.Lookup.{Rule, Lookup, rule_of}
use Rattle.strata.specs.Laws.{IsClosedUnderRules, Meets, HasMemberTest, IsWithoutExclusion, AreWithoutExclusion, HasNoExclusion, AgreesBelow, IsClosedAt}
use Rattle.strata.specs.Meaning.{Body, Below, At, In, Member}
use Rattle.strata.specs.Strata.{EachPremise, EachPremises, IsAtMost, IsLower, HasValidStrata, HasNames}
use Rattle.strata.proofs.LeastRound.{dec_holds_at}
use Rattle.strata.proofs.Lists.{dec_same}
use Rattle.std.proofs.lemmas.Bool.{cases_lt}
use Rattle.strata.proofs.Premises.{each_premise-map, body-map}
use Rattle.strata.proofs.Rounds.{same_rule, settled_and_rising, lower_from_below, below_from_member, member_from_below}

-- ---- rules without exclusion

-- what holds of all facts holds of each premise, where none is subtracted
mutual
  each_premise-all : (store : List TupleValue) (P N : FactValue → Type 0) → ((g : FactValue) → P g) → (f : FactValue) (e : Expression) → IsWithoutExclusion e → EachPremise store P N f e
  each_premise-all store P N all f this plain = λ g s. all _
  each_premise-all store P N all f (computed q) plain = all _
  each_premise-all store P N all f (tuple_to q c) plain = λ g s. all _
  each_premise-all store P N all f (union es) plain = each_premises-all store P N all f es plain
  each_premise-all store P N all f (inter es) plain = each_premises-all store P N all f es plain
  each_premise-all store P N all f (minus a b) plain = absurd plain

  each_premises-all : (store : List TupleValue) (P N : FactValue → Type 0) → ((g : FactValue) → P g) → (f : FactValue) (es : Expressions) → AreWithoutExclusion es → EachPremises store P N f es
  each_premises-all store P N all f no_child plain = tt
  each_premises-all store P N all f (child e es) plain = (each_premise-all store P N all f e plain.0, each_premises-all store P N all f es plain.1)

module _ (rules : Lookup) (store : List TupleValue) (plain : HasNoExclusion rules) (test : FactValue → Bool) (closed : IsClosedUnderRules rules store (Meets test)) where
  at_round : (k : ℕ) → ((f : FactValue) → Below rules store k f → Meets test f) → (n : ℕ) (f : FactValue) → At rules store k n f → Meets test f
  at_round k below zero f b = below f b
  at_round k below (suc n) f a =
      closed f a.0 a.1
      (body-map store (At rules store k n) (Below rules store k) (Meets test) (Meets test) f a.0.expression
      (each_premise-all store (λ g. At rules store k n g → Meets test g) (λ g. Below rules store k g ↔ Meets test g) (at_round k below n) f a.0.expression
      (plain f.set.namespace f.set.relation a.0 a.1))
      a.3)

  at_strata_below : (k : ℕ) (f : FactValue) → Below rules store k f → Meets test f
  at_strata_below zero f b = absurd b
  at_strata_below (suc k) f b = at_round k (at_strata_below k) b.0 f b.1

pub least_law : (rules : Lookup) (store : List TupleValue) → HasNoExclusion rules → (test : FactValue → Bool) → IsClosedUnderRules rules store (Meets test)
    → (f : FactValue) → Member rules store f → Meets test f
least_law rules store plain test closed f m = at_strata_below rules store plain test closed (suc m.0.stratum) f m.2

-- ---- stratum by stratum

lower_by_rule : (rules : Lookup) (k : ℕ) (f : FactValue) (r : Rule) → rule_of rules f.set ≡ Some r → r.stratum < k → IsLower rules k f
lower_by_rule rules k f r e lt s d = let same : s.stratum ≡ r.stratum = ap (λ (x : Rule). x.stratum) (same_rule rules f s r d e) in omega (arith, same, lt)

module _ (rules : Lookup) (store : List TupleValue) (valid : HasValidStrata rules store) (k : ℕ) (test : FactValue → Bool)
    (agrees : AgreesBelow rules store k (Meets test)) (closed : IsClosedAt rules store k (Meets test)) where
  at_stratum : (n : ℕ) (f : FactValue) → At rules store k n f → Meets test f
  at_stratum zero f b = (agrees f (lower_from_below rules store valid k f b)).1 (member_from_below rules store valid k f b)
  at_stratum (suc n) f a = by_stratum (at_stratum n) (cases_lt a.0.stratum k)
    where
      by_stratum : ((g : FactValue) → At rules store k n g → Meets test g) → (a.0.stratum < k) ⊎ (k ≤ a.0.stratum) → Meets test f
      by_stratum before (inl lower) = (agrees f (lower_by_rule rules k f a.0 a.1 lower)).1 (member_from_below rules store valid (suc k) f (suc n, a))
      by_stratum before (inr ge) =
          closed f a.0 a.1 (omega (arith, ge, a.2))
          (body-map store (At rules store k n) (Below rules store k) (Meets test) (Meets test) f a.0.expression
          (each_premise-map store (IsAtMost rules a.0.stratum) (IsLower rules a.0.stratum)
          (λ g. At rules store k n g → Meets test g) (λ g. Below rules store k g ↔ Meets test g)
          (λ g most. before g)
          (λ g low. same_below g (λ s e. let lt : s.stratum < a.0.stratum = low s e in omega (arith, lt, a.2)))
          f a.0.expression (valid f a.0 a.1))
          a.3)
        where
          same_below : (g : FactValue) → IsLower rules k g → (Below rules store k g ↔ Meets test g)
          same_below g low = (
            λ b. (agrees g low).1 (member_from_below rules store valid k g b),
            λ m. below_from_member rules store valid k g low ((agrees g low).0 m),
          )

pub least_at_law : (rules : Lookup) (store : List TupleValue) → HasValidStrata rules store → (k : ℕ) (test : FactValue → Bool) → AgreesBelow rules store k (Meets test) → IsClosedAt rules store k (Meets test)
    → (f : FactValue) (r : Rule) → rule_of rules f.set ≡ Some r → r.stratum ≡ k → Member rules store f → Meets test f
least_at_law rules store valid k test agrees closed f r e is m =
    let own : m.0.stratum < suc k = (let same : m.0.stratum ≡ r.stratum = ap (λ (x : Rule). x.stratum) (same_rule rules f m.0 r m.1 e) in omega (arith, same, is)) in
    let b : Below rules store (suc k) f = below_from_member rules store valid (suc k) f (lower_by_rule rules (suc k) f m.0 m.1 own) m in
    at_stratum rules store valid k test agrees closed b.0 f b.1

-- ---- a fixed point

pub derived_law : (rules : Lookup) (store : List TupleValue) → HasValidStrata rules store → (f : FactValue) (r : Rule) → rule_of rules f.set ≡ Some r → Member rules store f
    → Body store (Member rules store) (Member rules store) f r.expression
derived_law rules store valid f r e m = by_round ((settled_and_rising rules store valid m.0.stratum).1 m.2.0 f m.2.1)
  where
    by_round : At rules store m.0.stratum (suc m.2.0) f → Body store (Member rules store) (Member rules store) f r.expression
    by_round a =
        subst (λ (s : Rule). Body store (Member rules store) (Member rules store) f s.expression) (same_rule rules f a.0 r a.1 e)
        (body-map store (At rules store m.0.stratum m.2.0) (Below rules store m.0.stratum) (Member rules store) (Member rules store) f a.0.expression
        (each_premise-map store (IsAtMost rules a.0.stratum) (IsLower rules a.0.stratum)
        (λ g. At rules store m.0.stratum m.2.0 g → Member rules store g) (λ g. Below rules store m.0.stratum g ↔ Member rules store g)
        (λ g most h. member_from_below rules store valid (suc m.0.stratum) g (m.2.0, h))
        (λ g low. (
          member_from_below rules store valid m.0.stratum g,
          below_from_member rules store valid m.0.stratum g (λ s d. let lt : s.stratum < a.0.stratum = low s d in omega (arith, lt, a.2)),
        ))
        f a.0.expression (valid f a.0 a.1))
        a.3)

-- ---- one of the relations that a test tells

told : {A : Type 0} → Dec A → (b : Bool) × (IsTrue b ↔ A)
told (yes a) = (true, (λ t. a, λ _. refl))
told (no n) = (false, (λ t. absurd cc, λ a. absurd (n a)))

dec_member : (rules : Lookup) (store : List TupleValue) → HasValidStrata rules store → (names : List (List ℕ)) → HasNames rules names → (f : FactValue) → Dec (Member rules store f)
dec_member rules store valid names named f = by_rule (rule_of rules f.set) refl
  where
    by_rule : (o : Option Rule) → rule_of rules f.set ≡ o → Dec (Member rules store f)
    by_rule None e = no (λ m. let none : Some m.0 ≡ None = sym m.1 ∙ e in cc)
    by_rule (Some r) e =
        dec_same (λ i. (r, e, i)) (λ m. subst (λ (s : Rule). In rules store s.stratum f) (same_rule rules f m.0 r m.1 e) m.2)
        (dec_holds_at rules store valid names named (suc r.stratum) 0 f)

pub member_test_law : (rules : Lookup) (store : List TupleValue) → HasValidStrata rules store → (names : List (List ℕ)) → HasNames rules names → HasMemberTest rules store
member_test_law rules store valid names named =
    (λ f. (told (dec_member rules store valid names named f)).0, λ f. (told (dec_member rules store valid names named f)).1)
