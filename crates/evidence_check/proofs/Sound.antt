-- Accepted evidence is true.
use Rattle.std.proofs.Common.{◌≡◌, ℕ, zero, suc, ◌<◌, List, [], ◌∷◌, Some, None, ◌⊎◌, inl, inr, subst, sym, ◌∙◌, arith}
use Rattle.std.specs.Prelude.{Contains}
use Rattle.std.specs.List.{AllByRecursion}
use Rattle.std.proofs.lemmas.List.Elements.{Contains-append_cases}
use Rattle.tuple_text.specs.Tuples.{TupleValue, FactValue}
use Rattle.rewrites.specs.Expression.{Expression, this, computed, tuple_to, union, inter, minus, Expressions, no_child, child}
use Rattle.namespaces.specs.Lookup.{Rule, Lookup, rule_of}
use Rattle.strata.specs.Laws.{IsStable, IsClosed}
use Rattle.strata.specs.Meaning.{Body, SomeBody, EachBody, Below, At, Member}
use Rattle.strata.specs.Strata.{EachPremise, EachPremises, IsAtMost, IsLower, HasValidStrata}
use Rattle.strata.proofs.Lists.{Contains-cons_cases, not_in_nil}
use Rattle.strata.proofs.Premises.{each_premise-map}
use Rattle.judgement.specs.Judgement.{KnownValue, IsUndeclared, IsOut, Established, SomeEstablished, EachEstablished, Refuted, SomeRefuted, EachRefuted}
use Rattle.evidence_check.specs.Accepted.{IsProved, IsDisproved, with_no, IsAccepted, AreAccepted, after_step, after_steps, nothing_known, IsTrueOf}
use Rattle.evidence_check.specs.Steps.{StepValue, yes_step, no_step}

-- what holds of each fact of a list holds of one that it contains
pub each_contained : (P : FactValue → Type 0) (fs : List FactValue) → AllByRecursion P fs → (f : FactValue) → Contains fs f → P f
each_contained P [] h f c = absurd (not_in_nil f c)
each_contained P (x ∷ xs) h f c = by_cases (λ k. each_contained P xs h.1 f k) (Contains-cons_cases x xs f c)
  where
    by_cases : (Contains xs f → P f) → (x ≡ f) ⊎ Contains xs f → P f
    by_cases further (inl e) = subst P e h.0
    by_cases further (inr k) = further k

-- a premise that is known yes holds
abbrev pub Supports : KnownValue → (FactValue → Type 0) → FactValue → Type 0
Supports known P g = Contains known.yes g → P g

-- a premise that is known no, or undeclared, does not hold
abbrev pub Excludes : Lookup → KnownValue → (FactValue → Type 0) → FactValue → Type 0
Excludes lookup known P g = IsOut lookup known g → ¬ P g

abbrev pub Agrees : Lookup → KnownValue → (FactValue → Type 0) → FactValue → Type 0
Agrees lookup known P g = Supports known P g × Excludes lookup known P g

only_supports : (lookup : Lookup) (store : List TupleValue) (known : KnownValue) (N : FactValue → Type 0) (f : FactValue) (e : Expression)
    → EachPremise store (Agrees lookup known N) (Agrees lookup known N) f e
    → EachPremise store (Supports known N) (Agrees lookup known N) f e
only_supports lookup store known N f e =
    each_premise-map store (Agrees lookup known N) (Agrees lookup known N) (Supports known N) (Agrees lookup known N)
    (λ g h. h.0) (λ g h. h) f e

only_excludes : (lookup : Lookup) (store : List TupleValue) (known : KnownValue) (N : FactValue → Type 0) (f : FactValue) (e : Expression)
    → EachPremise store (Agrees lookup known N) (Agrees lookup known N) f e
    → EachPremise store (Excludes lookup known N) (Agrees lookup known N) f e
only_excludes lookup store known N f e =
    each_premise-map store (Agrees lookup known N) (Agrees lookup known N) (Excludes lookup known N) (Agrees lookup known N)
    (λ g h. h.1) (λ g h. h) f e

-- Where what is known agrees with N under subtracted sides, an expression that is established holds by the P that
-- known facts support, and one that is refuted fails by the P that they exclude.
mutual
  pub established_holds : (lookup : Lookup) (store : List TupleValue) (known : KnownValue) (P N : FactValue → Type 0) (f : FactValue) (e : Expression)
      → EachPremise store (Supports known P) (Agrees lookup known N) f e
      → Established lookup store known f e → Body store P N f e
  established_holds lookup store known P N f this h (inl s) = inl s
  established_holds lookup store known P N f this h (inr t) = inr (t.0, t.1, h t.0 t.1 t.2)
  established_holds lookup store known P N f (computed q) h d = h d
  established_holds lookup store known P N f (tuple_to q c) h d = (d.0, d.1, h d.0 d.1 d.2)
  established_holds lookup store known P N f (union es) h d = some_established_holds lookup store known P N f es h d
  established_holds lookup store known P N f (inter es) h d = each_established_holds lookup store known P N f es h d
  established_holds lookup store known P N f (minus a b) h d =
      (established_holds lookup store known P N f a h.0 d.0, refuted_fails lookup store known N N f b (only_excludes lookup store known N f b h.1) d.1)

  pub some_established_holds : (lookup : Lookup) (store : List TupleValue) (known : KnownValue) (P N : FactValue → Type 0) (f : FactValue) (es : Expressions)
      → EachPremises store (Supports known P) (Agrees lookup known N) f es
      → SomeEstablished lookup store known f es → SomeBody store P N f es
  some_established_holds lookup store known P N f no_child h d = d
  some_established_holds lookup store known P N f (child e es) h (inl d) = inl (established_holds lookup store known P N f e h.0 d)
  some_established_holds lookup store known P N f (child e es) h (inr d) = inr (some_established_holds lookup store known P N f es h.1 d)

  pub each_established_holds : (lookup : Lookup) (store : List TupleValue) (known : KnownValue) (P N : FactValue → Type 0) (f : FactValue) (es : Expressions)
      → EachPremises store (Supports known P) (Agrees lookup known N) f es
      → EachEstablished lookup store known f es → EachBody store P N f es
  each_established_holds lookup store known P N f no_child h d = tt
  each_established_holds lookup store known P N f (child e es) h d =
      (established_holds lookup store known P N f e h.0 d.0, each_established_holds lookup store known P N f es h.1 d.1)

  pub refuted_fails : (lookup : Lookup) (store : List TupleValue) (known : KnownValue) (P N : FactValue → Type 0) (f : FactValue) (e : Expression)
      → EachPremise store (Excludes lookup known P) (Agrees lookup known N) f e
      → Refuted lookup store known f e → ¬ Body store P N f e
  refuted_fails lookup store known P N f this h d (inl s) = d.0 s
  refuted_fails lookup store known P N f this h d (inr t) = h t.0 t.1 (d.1 t.0 t.1) t.2
  refuted_fails lookup store known P N f (computed q) h d b = h (inr d) b
  refuted_fails lookup store known P N f (tuple_to q c) h d b = h b.0 b.1 (d b.0 b.1) b.2
  refuted_fails lookup store known P N f (union es) h d b = each_refuted_fails lookup store known P N f es h d b
  refuted_fails lookup store known P N f (inter es) h d b = some_refuted_fails lookup store known P N f es h d b
  refuted_fails lookup store known P N f (minus a b) h (inl d) t = refuted_fails lookup store known P N f a h.0 d t.0
  refuted_fails lookup store known P N f (minus a b) h (inr d) t = t.1 (established_holds lookup store known N N f b (only_supports lookup store known N f b h.1) d)

  pub each_refuted_fails : (lookup : Lookup) (store : List TupleValue) (known : KnownValue) (P N : FactValue → Type 0) (f : FactValue) (es : Expressions)
      → EachPremises store (Excludes lookup known P) (Agrees lookup known N) f es
      → EachRefuted lookup store known f es → ¬ SomeBody store P N f es
  each_refuted_fails lookup store known P N f no_child h d b = b
  each_refuted_fails lookup store known P N f (child e es) h d (inl b) = refuted_fails lookup store known P N f e h.0 d.0 b
  each_refuted_fails lookup store known P N f (child e es) h d (inr b) = each_refuted_fails lookup store known P N f es h.1 d.1 b

  pub some_refuted_fails : (lookup : Lookup) (store : List TupleValue) (known : KnownValue) (P N : FactValue → Type 0) (f : FactValue) (es : Expressions)
      → EachPremises store (Excludes lookup known P) (Agrees lookup known N) f es
      → SomeRefuted lookup store known f es → ¬ EachBody store P N f es
  some_refuted_fails lookup store known P N f no_child h d b = d
  some_refuted_fails lookup store known P N f (child e es) h (inl d) b = refuted_fails lookup store known P N f e h.0 d b.0
  some_refuted_fails lookup store known P N f (child e es) h (inr d) b = some_refuted_fails lookup store known P N f es h.1 d b.1

same_rule : (lookup : Lookup) (f : FactValue) (r s : Rule) → rule_of lookup f.set ≡ Some r → rule_of lookup f.set ≡ Some s → r ≡ s
same_rule lookup f r s p q = cc

-- what holds below k is declared, with a stratum below k
declared_at : (lookup : Lookup) (store : List TupleValue) (k n : ℕ) (f : FactValue) → At lookup store k n f
    → (Below lookup store k f → (r : Rule) × (rule_of lookup f.set ≡ Some r) × (r.stratum < k))
    → (r : Rule) × (rule_of lookup f.set ≡ Some r) × (r.stratum < suc k)
declared_at lookup store k zero f a below = let d = below a in (d.0, d.1, omega (arith, d.2))
declared_at lookup store k (suc n) f a below = (a.0, a.1, omega (arith, a.2))

declared_below : (lookup : Lookup) (store : List TupleValue) (k : ℕ) (f : FactValue) → Below lookup store k f
    → (r : Rule) × (rule_of lookup f.set ≡ Some r) × (r.stratum < k)
declared_below lookup store zero f b = absurd b
declared_below lookup store (suc k) f b = declared_at lookup store k b.0 f b.1 (declared_below lookup store k f)

module _ (lookup : Lookup) (store : List TupleValue) (valid : HasValidStrata lookup store)
    (stable : IsStable lookup store) (closed : IsClosed lookup store) (known : KnownValue) (true_of : IsTrueOf lookup store known) where
  -- a member holds below each stratum that is higher than its own
  below_from_member : (k : ℕ) (f : FactValue) → IsLower lookup k f → Member lookup store f → Below lookup store k f
  below_from_member zero f low m = let lt : m.0.stratum < 0 = low m.0 m.1 in absurd (omega arith)
  below_from_member (suc k) f low m =
      let lt : m.0.stratum < suc k = low m.0 m.1 in (stable f m.0 m.1 k (omega arith)).1 m.2

  -- what holds below some stratum is a member
  member_from_below : (k : ℕ) (f : FactValue) → Below lookup store k f → Member lookup store f
  member_from_below zero f b = absurd b
  member_from_below (suc k) f b =
      let d = declared_below lookup store (suc k) f b in
      (d.0, d.1, (stable f d.0 d.1 k (omega (arith, d.2))).0 b)

  undeclared_fails : (f : FactValue) → IsUndeclared lookup f.set → ¬ Member lookup store f
  undeclared_fails f u m = let e : Some m.0 ≡ None = sym m.1 ∙ u in cc

  pub yes_law : (f : FactValue) → IsProved lookup store known f → Member lookup store f
  yes_law f d =
      closed f d.0 d.1
      (established_holds lookup store known (Member lookup store) (Member lookup store) f d.0.expression
      (each_premise-map store (IsAtMost lookup d.0.stratum) (IsLower lookup d.0.stratum)
      (Supports known (Member lookup store)) (Agrees lookup known (Member lookup store))
      (λ g _. true_of.yes g) (λ g _. (true_of.yes g, out g)) f d.0.expression (valid f d.0 d.1))
      d.2)
    where
      out : (g : FactValue) → IsOut lookup known g → ¬ Member lookup store g
      out g (inl u) = undeclared_fails g u
      out g (inr c) = true_of.no g c

  module _ (fs : List FactValue) (disproved : AllByRecursion (IsDisproved lookup store (with_no known fs)) fs) where
    -- what is known no, with the set itself, excludes what holds at some stratum, where no fact of the set holds
    excluded : (P : FactValue → Type 0) → ((g : FactValue) → P g → Member lookup store g) → ((g : FactValue) → Contains fs g → ¬ P g)
        → (g : FactValue) → Excludes lookup (with_no known fs) P g
    excluded P member none g (inl u) p = undeclared_fails g u (member g p)
    excluded P member none g (inr c) p = by_cases (Contains-append_cases known.no fs g c)
      where
        by_cases : Contains known.no g ⊎ Contains fs g → ⊥
        by_cases (inl h) = true_of.no g h (member g p)
        by_cases (inr h) = none g h p

    -- no fact of the set holds after n rounds at k, where none holds below k
    none_at : (k : ℕ) → ((g : FactValue) → Contains fs g → ¬ Below lookup store k g)
        → (n : ℕ) (f : FactValue) → Contains fs f → ¬ At lookup store k n f
    none_at k none zero f c a = none f c a
    none_at k none (suc n) f c a =
        by_cases (none_at k none n) (each_contained (IsDisproved lookup store (with_no known fs)) fs disproved f c)
      where
        by_cases : ((g : FactValue) → Contains fs g → ¬ At lookup store k n g)
            → IsDisproved lookup store (with_no known fs) f → ⊥
        by_cases step (inl u) = let e : Some a.0 ≡ None = sym a.1 ∙ u in cc
        by_cases step (inr d) =
            let same : d.0 ≡ a.0 = same_rule lookup f d.0 a.0 d.1 a.1 in
            refuted_fails lookup store (with_no known fs) (At lookup store k n) (Below lookup store k) f a.0.expression
            (each_premise-map store (IsAtMost lookup a.0.stratum) (IsLower lookup a.0.stratum)
            (Excludes lookup (with_no known fs) (At lookup store k n)) (Agrees lookup (with_no known fs) (Below lookup store k))
            (λ g _. excluded (At lookup store k n) (λ h b. member_from_below (suc k) h (n, b)) step g)
            (λ g low. (
              λ y. below_from_member k g
                  (λ s e. let lt : s.stratum < a.0.stratum = low s e in omega (arith, a.2)) (true_of.yes g y),
              excluded (Below lookup store k) (member_from_below k) none g,
            ))
            f a.0.expression (valid f a.0 a.1))
            (subst (λ (r : Rule). Refuted lookup store (with_no known fs) f r.expression) same d.2)
            a.3

    none_below : (k : ℕ) (f : FactValue) → Contains fs f → ¬ Below lookup store k f
    none_below zero f c b = b
    none_below (suc k) f c b = none_at k (none_below k) b.0 f c b.1

    pub no_law : (f : FactValue) → Contains fs f → ¬ Member lookup store f
    no_law f c m = none_below (suc m.0.stratum) f c m.2

-- what is known after an accepted step is true
pub after_step_true : (lookup : Lookup) (store : List TupleValue) → HasValidStrata lookup store → IsStable lookup store → IsClosed lookup store → (known : KnownValue)
    → IsTrueOf lookup store known → (s : StepValue) → IsAccepted lookup store known s → IsTrueOf lookup store (after_step known s)
after_step_true lookup store valid stable closed known true_of (yes_step f) a = record {
  yes = λ g c. by_cases g (Contains-append_cases known.yes (f ∷ []) g c);
  no = true_of.no;
}
  where
    by_last : (g : FactValue) → (f ≡ g) ⊎ Contains [] g → Member lookup store g
    by_last g (inl e) = subst (Member lookup store) e (yes_law lookup store valid stable closed known true_of f a)
    by_last g (inr none) = absurd (not_in_nil g none)

    by_cases : (g : FactValue) → Contains known.yes g ⊎ Contains (f ∷ []) g → Member lookup store g
    by_cases g (inl c) = true_of.yes g c
    by_cases g (inr c) = by_last g (Contains-cons_cases f [] g c)
after_step_true lookup store valid stable closed known true_of (no_step fs) a = record {
  yes = true_of.yes;
  no = λ g c. by_cases g (Contains-append_cases known.no fs g c);
}
  where
    by_cases : (g : FactValue) → Contains known.no g ⊎ Contains fs g → ¬ Member lookup store g
    by_cases g (inl c) = true_of.no g c
    by_cases g (inr c) = no_law lookup store valid stable closed known true_of fs a g c

pub after_steps_true : (lookup : Lookup) (store : List TupleValue) → HasValidStrata lookup store → IsStable lookup store → IsClosed lookup store → (known : KnownValue)
    → IsTrueOf lookup store known → (ss : List StepValue) → AreAccepted lookup store known ss → IsTrueOf lookup store (after_steps known ss)
after_steps_true lookup store valid stable closed known true_of [] a = true_of
after_steps_true lookup store valid stable closed known true_of (s ∷ ss) a =
    after_steps_true lookup store valid stable closed (after_step known s)
    (after_step_true lookup store valid stable closed known true_of s a.0) ss a.1

pub nothing_true : (lookup : Lookup) (store : List TupleValue) → IsTrueOf lookup store nothing_known
nothing_true lookup store = record { yes = λ f c. absurd (not_in_nil f c); no = λ f c. absurd (not_in_nil f c) }

-- what is known after accepted steps, from nothing, is true
pub steps_true : (lookup : Lookup) (store : List TupleValue) → HasValidStrata lookup store → IsStable lookup store → IsClosed lookup store
    → (ss : List StepValue) → AreAccepted lookup store nothing_known ss → IsTrueOf lookup store (after_steps nothing_known ss)
steps_true lookup store valid stable closed ss a = after_steps_true lookup store valid stable closed nothing_known (nothing_true lookup store) ss a
