-- The meaning does not depend on the strata, where they are valid.
use Rattle.std.proofs.Common.{◌≡◌, ℕ, zero, suc, ◌≤◌, ◌<◌, List, Option, Some, None, option_map, ◌↔◌, refl, subst, ap, sym, ◌∙◌, arith}
use Rattle.tuple_text.specs.Tuples.{TupleValue, FactValue}
use Rattle.namespaces.specs.Lookup.{Rule, Lookup, rule_of}
use Rattle.strata.specs.Meaning.{Body, Below, At, Member}
use Rattle.strata.specs.Strata.{EachPremise, IsAtMost, IsLower, HasValidStrata, HaveSameExpressions}
use Rattle.strata.proofs.Premises.{each_premise-map, each_premise-both, body-map}
use Rattle.strata.proofs.Rounds.{lower_than_next, lower_from_below, below_from_member, member_from_below, closed_law}

-- the rule of the other lookup, with the same expression
pub other_rule : (old new : Lookup) → HaveSameExpressions old new → (f : FactValue) (r : Rule) → rule_of old f.set ≡ Some r
    → (s : Rule) × (rule_of new f.set ≡ Some s) × (r.expression ≡ s.expression)
other_rule old new same f r e =
    go (rule_of new f.set) refl (ap (option_map (λ (x : Rule). x.expression)) (sym e) ∙ same f.set.namespace f.set.relation)
  where
    go : (o : Option Rule) → rule_of new f.set ≡ o → Some r.expression ≡ option_map (λ (x : Rule). x.expression) o
        → (s : Rule) × (rule_of new f.set ≡ Some s) × (r.expression ≡ s.expression)
    go None d h = absurd (let n : Some r.expression ≡ None = h in cc)
    go (Some s) d h = (s, d, (let n : Some r.expression ≡ Some s.expression = h in cc))

module _ (old new : Lookup) (store : List TupleValue) (valid : HasValidStrata old store) (valid' : HasValidStrata new store)
    (same : HaveSameExpressions old new) where
  back_rule : (f : FactValue) (s : Rule) → rule_of new f.set ≡ Some s → (r : Rule) × (rule_of old f.set ≡ Some r) × (s.expression ≡ r.expression)
  back_rule = other_rule new old (λ n r. sym (same n r))

  abbrev SameBelow : ℕ → Type 0
  SameBelow k = (f : FactValue) → IsLower old k f → (Member old store f ↔ Member new store f)

  forth_at : (k : ℕ) → SameBelow k → (n : ℕ) (f : FactValue) → At old store k n f → Member new store f
  forth_at k ih zero f b = (ih f (lower_from_below old store valid k f b)).0 (member_from_below old store valid k f b)
  forth_at k ih (suc n) f a =
      let s = other_rule old new same f a.0 a.1 in
      closed_law new store valid' f s.0 s.1
      (subst (λ x. Body store (Member new store) (Member new store) f x) s.2
      (body-map store (At old store k n) (Below old store k) (Member new store) (Member new store) f a.0.expression
      (each_premise-map store (IsAtMost old a.0.stratum) (IsLower old a.0.stratum)
      (λ g. At old store k n g → Member new store g) (λ g. Below old store k g ↔ Member new store g)
      (λ g _. forth_at k ih n g)
      (λ g low. let under : IsLower old k g = (λ t e. let lt : t.stratum < a.0.stratum = low t e in omega (arith, a.2)) in (
        λ b. (ih g under).0 (member_from_below old store valid k g b),
        λ m. below_from_member old store valid k g under ((ih g under).1 m),
      ))
      f a.0.expression (valid f a.0 a.1))
      a.3))

  back_at : (k : ℕ) → SameBelow k → (j : ℕ) → ((f : FactValue) → IsLower old (suc k) f → Below new store j f → Member old store f)
      → (n : ℕ) (f : FactValue) → IsLower old (suc k) f → At new store j n f → Member old store f
  back_at k ih j below zero f low b = below f low b
  back_at k ih j below (suc n) f low a =
      let r = back_rule f a.0 a.1 in
      let lt : r.0.stratum < suc k = low r.0 r.1 in
      closed_law old store valid f r.0 r.1
      (body-map store (At new store j n) (Below new store j) (Member old store) (Member old store) f r.0.expression
      (each_premise-map store (λ g. IsAtMost old r.0.stratum g × IsAtMost new a.0.stratum g) (λ g. IsLower old r.0.stratum g × IsLower new a.0.stratum g)
      (λ g. At new store j n g → Member old store g) (λ g. Below new store j g ↔ Member old store g)
      (λ g most. back_at k ih j below n g (λ t e. let le : t.stratum ≤ r.0.stratum = most.0 t e in omega arith))
      (λ g under. let deep : IsLower old k g = (λ t e. let l : t.stratum < r.0.stratum = under.0 t e in omega arith) in (
        λ b. (ih g deep).1 (member_from_below new store valid' j g b),
        λ m. below_from_member new store valid' j g
            (λ t e. let l : t.stratum < a.0.stratum = under.1 t e in omega (arith, a.2)) ((ih g deep).0 m),
      ))
      f r.0.expression
      (each_premise-both store (IsAtMost old r.0.stratum) (IsLower old r.0.stratum) (IsAtMost new a.0.stratum) (IsLower new a.0.stratum)
      f r.0.expression (valid f r.0 r.1)
      (subst (λ x. EachPremise store (IsAtMost new a.0.stratum) (IsLower new a.0.stratum) f x) r.2 (valid' f a.0 a.1))))
      (subst (λ x. Body store (At new store j n) (Below new store j) f x) r.2 a.3))

  back_below : (k : ℕ) → SameBelow k → (j : ℕ) (f : FactValue) → IsLower old (suc k) f → Below new store j f → Member old store f
  back_below k ih zero f low b = absurd b
  back_below k ih (suc j) f low b = back_at k ih j (back_below k ih j) b.0 f low b.1

  same_below : (k : ℕ) → SameBelow k
  same_below zero f low = (
    (λ m. let lt : m.0.stratum < 0 = low m.0 m.1 in absurd (omega arith)),
    (λ m. let r = back_rule f m.0 m.1 in let lt : r.0.stratum < 0 = low r.0 r.1 in absurd (omega arith)),
  )
  same_below (suc k) f low = (
    (λ m. let lt : m.0.stratum < suc k = low m.0 m.1 in
        let b = below_from_member old store valid (suc k) f low m in forth_at k (same_below k) b.0 f b.1),
    (λ m. back_below k (same_below k) (suc m.0.stratum) f low m.2),
  )

  pub same_meaning_law : (f : FactValue) → (Member old store f ↔ Member new store f)
  same_meaning_law f = (
    (λ m. (same_below (suc m.0.stratum) f (lower_than_next old f m.0 m.1)).0 m),
    (λ m. let r = back_rule f m.0 m.1 in (same_below (suc r.0.stratum) f (lower_than_next old f r.0 r.1)).1 m),
  )
