-- Steps that are found stratum by stratum are accepted, and settle each fact of a list that holds its premises.
use Rattle.std.proofs.Common.{◌≡◌, ℕ, zero, suc, ◌+◌, ◌≤◌, ◌<◌, List, [], ◌∷◌, ◌++◌, length, Option, None, Some, ◌⊎◌, inl, inr, ◌↔◌, refl, subst, sym, ◌∙◌, arith}
use Rattle.std.specs.Prelude.{Contains}
use Rattle.std.proofs.lemmas.List.Elements.{Contains-push, Contains-append_right}
use Rattle.tuple_text.specs.Tuples.{TupleValue, FactValue}
use Rattle.namespaces.specs.Lookup.{Rule, Lookup, rule_of}
use Rattle.strata.specs.Strata.{IsAtMost, IsLower, HasValidStrata}
use Rattle.strata.proofs.Lists.{Contains-cons_cases, Contains-here, Contains-there, not_in_nil, without, dec_not, dec_both, dec_either, dec_some, dec_contains}
use Rattle.strata.proofs.Premises.{each_premise-map, each_premise-both}
use Rattle.judgement.specs.Judgement.{KnownValue}
use Rattle.judgement.specs.Decided.{same_facts, dec_undeclared}
use Rattle.evidence_check.specs.Accepted.{nothing_known, with_yes, with_no, after_step, after_steps, IsAccepted, AreAccepted, IsProved}
use Rattle.evidence_check.specs.Decided.{dec_accepted}
use Rattle.evidence_check.specs.Steps.{StepValue, yes_step, no_step}
use Rattle.evidence_check.proofs.Growing.{with_yes-grows, with_no-grows}
use Rattle.goal_cone.specs.Cone.{IsMet, HasItsPremises}
use Rattle.evidence_maker.specs.Own.{HasOwnRelations}
use Rattle.evidence_maker.specs.Settled.{IsSettled}
use Rattle.evidence_maker.specs.Saturation.{IsLeftOver, AreUnsettled, IsSaturating, HasEvidence}
use Rattle.evidence_maker.proofs.Kept.{settled_kept}
use Rattle.evidence_maker.proofs.LeftOver.{left_over_law}

-- ---- one more step

pub after_steps-push : (ss : List StepValue) (known : KnownValue) (s : StepValue) → after_steps known (ss ++ s ∷ []) ≡ after_step (after_steps known ss) s
after_steps-push [] known s = refl
after_steps-push (t ∷ ts) known s = after_steps-push ts (after_step known t) s

accepted-push : (rules : Lookup) (store : List TupleValue) (ss : List StepValue) (known : KnownValue) (s : StepValue)
    → AreAccepted rules store known ss → IsAccepted rules store (after_steps known ss) s → AreAccepted rules store known (ss ++ s ∷ [])
accepted-push rules store [] known s before last = (last, tt)
accepted-push rules store (t ∷ ts) known s before last = (before.0, accepted-push rules store ts (after_step known t) s before.1 last)

-- ---- what can be decided

dec_settled : (rules : Lookup) (known : KnownValue) (f : FactValue) → Dec (IsSettled rules known f)
dec_settled rules known f =
    dec_either (dec_contains same_facts known.yes f)
    (dec_either (dec_undeclared (rule_of rules f.set)) (dec_contains same_facts known.no f))

cases_le : (m n : ℕ) → (m ≤ n) ⊎ (n < m)
cases_le m n = grind arith

dec_at_most : (rules : Lookup) (k : ℕ) (f : FactValue) → Dec (IsAtMost rules k f)
dec_at_most rules k f = by_rule (rule_of rules f.set) refl
  where
    by_rule : (o : Option Rule) → rule_of rules f.set ≡ o → Dec (IsAtMost rules k f)
    by_rule None e = yes (λ r d. absurd (let d' : Some r ≡ None = sym d ∙ e in cc))
    by_rule (Some s) e = by_cases (cases_le s.stratum k)
      where
        by_cases : (s.stratum ≤ k) ⊎ (k < s.stratum) → Dec (IsAtMost rules k f)
        by_cases (inl le) = yes (λ r d. let same : s ≡ r = (let d' : Some s ≡ Some r = sym e ∙ d in cc) in subst (λ (t : Rule). t.stratum ≤ k) same le)
        by_cases (inr lt) = no (λ h. let le : s.stratum ≤ k = h s e in omega arith)

-- the members of a list that meet Q
kept_of : (Q : FactValue → Type 0) → ((f : FactValue) → Dec (Q f)) → (fs : List FactValue)
    → (gs : List FactValue) × ((f : FactValue) → (Contains gs f ↔ (Contains fs f × Q f)))
kept_of Q d [] = ([], λ f. (λ c. absurd (not_in_nil f c), λ t. t.0))
kept_of Q d (x ∷ xs) = by_cases (kept_of Q d xs) (d x)
  where
    by_cases : (gs : List FactValue) × ((f : FactValue) → (Contains gs f ↔ (Contains xs f × Q f))) → Dec (Q x)
        → (gs : List FactValue) × ((f : FactValue) → (Contains gs f ↔ (Contains (x ∷ xs) f × Q f)))
    by_cases t (yes q) = (
      x ∷ t.0,
      λ f. (
        λ c. elim (Contains-cons_cases x t.0 f c) [
          | inl e ↦ (subst (Contains (x ∷ xs)) e (Contains-here x xs), subst Q e q)
          | inr h ↦ (Contains-there x xs f ((t.1 f).0 h).0, ((t.1 f).0 h).1)
        ],
        λ h. elim (Contains-cons_cases x xs f h.0) [
          | inl e ↦ subst (Contains (x ∷ t.0)) e (Contains-here x t.0)
          | inr c ↦ Contains-there x t.0 f ((t.1 f).1 (c, h.1))
        ],
      ),
    )
    by_cases t (no n) = (
      t.0,
      λ f. (
        λ c. (Contains-there x xs f ((t.1 f).0 c).0, ((t.1 f).0 c).1),
        λ h. elim (Contains-cons_cases x xs f h.0) [
          | inl e ↦ absurd (n (subst Q (sym e) h.1))
          | inr c ↦ (t.1 f).1 (c, h.1)
        ],
      ),
    )

-- some stratum is higher than those of all facts of a list
higher_than_one : (rules : Lookup) (f : FactValue) → (k : ℕ) × IsLower rules k f
higher_than_one rules f = by_rule (rule_of rules f.set) refl
  where
    by_rule : (o : Option Rule) → rule_of rules f.set ≡ o → (k : ℕ) × IsLower rules k f
    by_rule None e = (0, λ r d. absurd (let d' : Some r ≡ None = sym d ∙ e in cc))
    by_rule (Some s) e =
        (s.stratum + 1, λ r d. let same : s ≡ r = (let d' : Some s ≡ Some r = sym e ∙ d in cc) in subst (λ (t : Rule). t.stratum < s.stratum + 1) same (omega arith))

higher_than_all : (rules : Lookup) (fs : List FactValue) → (k : ℕ) × ((f : FactValue) → Contains fs f → IsLower rules k f)
higher_than_all rules [] = (0, λ f c. absurd (not_in_nil f c))
higher_than_all rules (x ∷ xs) = both (higher_than_one rules x) (higher_than_all rules xs)
  where
    both : (k : ℕ) × IsLower rules k x → (k : ℕ) × ((f : FactValue) → Contains xs f → IsLower rules k f)
        → (k : ℕ) × ((f : FactValue) → Contains (x ∷ xs) f → IsLower rules k f)
    both s t = (s.0 + t.0, λ f c. by_cases f (Contains-cons_cases x xs f c))
      where
        by_cases : (f : FactValue) → (x ≡ f) ⊎ Contains xs f → IsLower rules (s.0 + t.0) f
        by_cases f (inl e) = λ r d. let lt : r.stratum < s.0 = subst (IsLower rules s.0) e s.1 r d in omega arith
        by_cases f (inr c) = λ r d. let lt : r.stratum < t.0 = t.1 f c r d in omega arith

module _ (rules : Lookup) (store : List TupleValue) (C : List FactValue) where
  pub start_law : IsSaturating rules store C 0 []
  start_law = record { accepted = tt; below = λ f c low. inr (inl (undeclared f (rule_of rules f.set) refl low)) }
    where
      undeclared : (f : FactValue) (o : Option Rule) → rule_of rules f.set ≡ o → IsLower rules 0 f → rule_of rules f.set ≡ None
      undeclared f None e low = e
      undeclared f (Some r) e low = let lt : r.stratum < 0 = low r e in absurd (omega arith)

  module _ (k : ℕ) (ss : List StepValue) (saturating : IsSaturating rules store C k ss) where
    pub yes_kept : (f : FactValue) → IsProved rules store (after_steps nothing_known ss) f → IsSaturating rules store C k (ss ++ yes_step f ∷ [])
    yes_kept f proved = record {
      accepted = accepted-push rules store ss nothing_known (yes_step f) saturating.accepted proved;
      below = λ g c low. subst (λ (known : KnownValue). IsSettled rules known g) (sym (after_steps-push ss nothing_known (yes_step f)))
          (settled_kept rules store (after_steps nothing_known ss) (with_yes (after_steps nothing_known ss) f)
          (with_yes-grows (after_steps nothing_known ss) f) g (saturating.below g c low));
    }

    module _ (own : HasOwnRelations rules) (valid : HasValidStrata rules store) (premises : HasItsPremises rules store C)
        (R : List FactValue) (left : AreUnsettled rules (after_steps nothing_known ss) C k R)
        (unproved : (f : FactValue) → Contains R f → ¬ IsProved rules store (after_steps nothing_known ss) f) where
      -- a premise of the stratum is settled or left over
      settled_or_left : (p : FactValue) → IsAtMost rules k p → IsMet rules C p → IsSettled rules (after_steps nothing_known ss) p ⊎ Contains R p
      settled_or_left p low (inl u) = inl (inr (inl u))
      settled_or_left p low (inr c) = by_cases (dec_settled rules (after_steps nothing_known ss) p)
        where
          by_cases : Dec (IsSettled rules (after_steps nothing_known ss) p) → IsSettled rules (after_steps nothing_known ss) p ⊎ Contains R p
          by_cases (yes s) = inl s
          by_cases (no n) = inr ((left p).1 (c, low, n))

      -- a premise of a lower stratum is settled
      settled_below : (p : FactValue) → IsLower rules k p → IsMet rules C p → IsSettled rules (after_steps nothing_known ss) p
      settled_below p low (inl u) = inr (inl u)
      settled_below p low (inr c) = saturating.below p c low

      left_over : IsLeftOver rules store (after_steps nothing_known ss) R
      left_over = record {
        unsettled = λ f c. ((left f).0 c).2;
        unproved = unproved;
        premises = λ f c r e.
            let le : r.stratum ≤ k = ((left f).0 c).1 r e in
            each_premise-map store
            (λ p. IsAtMost rules r.stratum p × IsMet rules C p) (λ p. IsLower rules r.stratum p × IsMet rules C p)
            (λ p. IsSettled rules (after_steps nothing_known ss) p ⊎ Contains R p) (IsSettled rules (after_steps nothing_known ss))
            (λ p h. settled_or_left p (λ s d. let lt : s.stratum ≤ r.stratum = h.0 s d in omega arith) h.1)
            (λ p h. settled_below p (λ s d. let lt : s.stratum < r.stratum = h.0 s d in omega arith) h.1)
            f r.expression
            (each_premise-both store (IsAtMost rules r.stratum) (IsLower rules r.stratum) (IsMet rules C) (IsMet rules C) f r.expression
            (valid f r e) (premises f ((left f).0 c).0 r e));
      }

      settled_after : (f : FactValue) → Contains C f → IsLower rules (k + 1) f → IsSettled rules (with_no (after_steps nothing_known ss) R) f
      settled_after f c low = by_cases
          (settled_or_left f (λ r e. let lt : r.stratum < k + 1 = low r e in omega arith) (inr c))
        where
          by_cases : IsSettled rules (after_steps nothing_known ss) f ⊎ Contains R f → IsSettled rules (with_no (after_steps nothing_known ss) R) f
          by_cases (inl s) =
              settled_kept rules store (after_steps nothing_known ss) (with_no (after_steps nothing_known ss) R)
              (with_no-grows (after_steps nothing_known ss) R) f s
          by_cases (inr d) = inr (inr (Contains-append_right (after_steps nothing_known ss).no R f d))

      pub no_kept : IsSaturating rules store C (k + 1) (ss ++ no_step R ∷ [])
      no_kept = record {
        accepted = accepted-push rules store ss nothing_known (no_step R) saturating.accepted
            (left_over_law rules store (after_steps nothing_known ss) R own left_over);
        below = λ f c low. subst (λ (known : KnownValue). IsSettled rules known f) (sym (after_steps-push ss nothing_known (no_step R)))
            (settled_after f c low);
      }

-- ---- there is such evidence

-- the steps are saturating, and no unsettled fact of C is proved
record IsSaturated (rules : Lookup) (store : List TupleValue) (C : List FactValue) (k : ℕ) (ss : List StepValue) : Type 0 where
  saturating : IsSaturating rules store C k ss
  unproved : (f : FactValue) → Contains C f → ¬ IsSettled rules (after_steps nothing_known ss) f
      → ¬ IsProved rules store (after_steps nothing_known ss) f

module _ (rules : Lookup) (store : List TupleValue) (C : List FactValue) where
  saturate : (k n : ℕ) (ss : List StepValue) (U : List FactValue) → length U ≤ n → IsSaturating rules store C k ss
      → ((f : FactValue) → Contains C f → ¬ IsSettled rules (after_steps nothing_known ss) f → Contains U f)
      → (ts : List StepValue) × IsSaturated rules store C k ts
  saturate k zero ss U le saturating covers = (
    ss,
    record { saturating = saturating; unproved = λ f c n _. let h : Contains U f = covers f c n in omega (arith, h.1, le) },
  )
  saturate k (suc n) ss U le saturating covers = by_cases (saturate k n)
      (dec_some (λ f. (¬ IsSettled rules (after_steps nothing_known ss) f) × IsProved rules store (after_steps nothing_known ss) f) C
      (λ f c. dec_both (dec_not (dec_settled rules (after_steps nothing_known ss) f)) (dec_accepted rules store (after_steps nothing_known ss) (yes_step f))))
    where
      by_cases : ((ss : List StepValue) (U : List FactValue) → length U ≤ n → IsSaturating rules store C k ss
          → ((f : FactValue) → Contains C f → ¬ IsSettled rules (after_steps nothing_known ss) f → Contains U f)
          → (ts : List StepValue) × IsSaturated rules store C k ts)
          → Dec ((f : FactValue) × Contains C f × ((¬ IsSettled rules (after_steps nothing_known ss) f) × IsProved rules store (after_steps nothing_known ss) f))
          → (ts : List StepValue) × IsSaturated rules store C k ts
      by_cases further (no none) = (ss, record { saturating = saturating; unproved = λ f c n p. none (f, c, (n, p)) })
      by_cases further (yes t) =
          let rest = without U t.0 (covers t.0 t.1 t.2.0) in
          further (ss ++ yes_step t.0 ∷ []) rest.0 (omega (arith, rest.1, le)) (yes_kept rules store C k ss saturating t.0 t.2.1)
          (λ f c n. still f c
          (λ s. n (subst (λ (known : KnownValue). IsSettled rules known f) (sym (after_steps-push ss nothing_known (yes_step t.0))) s))
          rest.0 (rest.2 f))
        where
          still : (f : FactValue) → Contains C f → ¬ IsSettled rules (with_yes (after_steps nothing_known ss) t.0) f
              → (V : List FactValue) → (Contains U f → (t.0 ≡ f) ⊎ Contains V f) → Contains V f
          still f c n V split = by_split (split (covers f c (λ s. n
              (settled_kept rules store (after_steps nothing_known ss) (with_yes (after_steps nothing_known ss) t.0)
              (with_yes-grows (after_steps nothing_known ss) t.0) f s))))
            where
              by_split : (t.0 ≡ f) ⊎ Contains V f → Contains V f
              by_split (inl e) = absurd (n (inl (subst (Contains ((after_steps nothing_known ss).yes ++ t.0 ∷ [])) e (Contains-push (after_steps nothing_known ss).yes t.0))))
              by_split (inr c) = c

  module _ (own : HasOwnRelations rules) (valid : HasValidStrata rules store) (premises : HasItsPremises rules store C) where
    up_to : (k : ℕ) → (ss : List StepValue) × IsSaturating rules store C k ss
    up_to zero = ([], start_law rules store C)
    up_to (suc k) = next (up_to k)
      where
        settle : (ss : List StepValue) → IsSaturated rules store C k ss → (ts : List StepValue) × IsSaturating rules store C (suc k) ts
        settle ss saturated =
            let left = kept_of (λ f. IsAtMost rules k f × (¬ IsSettled rules (after_steps nothing_known ss) f))
            (λ f. dec_both (dec_at_most rules k f) (dec_not (dec_settled rules (after_steps nothing_known ss) f))) C in
            let higher : IsSaturating rules store C (k + 1) (ss ++ no_step left.0 ∷ []) =
            no_kept rules store C k ss saturated.saturating own valid premises left.0
            (λ f. (λ c. let h = (left.1 f).0 c in (h.0, h.1.0, h.1.1), λ h. (left.1 f).1 (h.0, (h.1, h.2))))
            (λ f c. let h = (left.1 f).0 c in saturated.unproved f h.0 h.1.1) in
            let e : k + 1 ≡ suc k = omega arith in
            (ss ++ no_step left.0 ∷ [], subst (λ (n : ℕ). IsSaturating rules store C n (ss ++ no_step left.0 ∷ [])) e higher)

        next : (ss : List StepValue) × IsSaturating rules store C k ss → (ts : List StepValue) × IsSaturating rules store C (suc k) ts
        next s = let t = saturate k (length C) s.0 C (omega arith) s.1 (λ f c _. c) in settle t.0 t.1

    pub complete_law : HasEvidence rules store C
    complete_law = finish (higher_than_all rules C)
      where
        finish : (k : ℕ) × ((f : FactValue) → Contains C f → IsLower rules k f) → HasEvidence rules store C
        finish h = let s = up_to h.0 in record {
          steps = s.0;
          accepted = s.1.accepted;
          settled = λ f c. s.1.below f c (h.1 f c);
        }
