-- A maker's state after one more step, and what is left of a stratum.
use Rattle.std.proofs.Common.{◌≡◌, ℕ, ◌+◌, ◌≤◌, ◌<◌, length, take, get_or, take-suc, add-one, List, [], ◌∷◌, ◌++◌, ◌⊎◌, inl, inr, refl, subst, sym, ◌∙◌, ap, arith, Option, None, Some, Result, Ok, Err}
use Rattle.std.specs.Prelude.{Contains, OnOk}
use Rattle.std.proofs.lemmas.List.{append-nil, length_push}
use Rattle.std.proofs.lemmas.List.Elements.{Contains-append_left, Contains-push, Contains-push_cases}
use Rattle.tuple_text.specs.Tuples.{TupleValue, FactValue}
use Rattle.namespaces.specs.Lookup.{Rule, Lookup, rule_of}
use Rattle.strata.specs.Strata.{IsAtMost, HasValidStrata}
use Rattle.strata.proofs.Lists.{Contains-cons_cases, not_in_nil}
use Rattle.judgement.specs.Judgement.{KnownValue}
use Rattle.evidence_check.specs.Accepted.{nothing_known, after_steps, with_yes, with_no, IsProved}
use Rattle.evidence_check.specs.Growing.{Grows}
use Rattle.evidence_check.specs.Steps.{StepValue, yes_step, no_step, step_value, step_values}
use Rattle.evidence_check.specs.declared.step.Step.{Step}
use Rattle.goal_cone.specs.Cone.{HasItsPremises, AreDistinct}
use Rattle.goal_cone.proofs.Weights.{AreDistinct-append}
use Rattle.evidence_maker.specs.Own.{HasOwnRelations}
use Rattle.evidence_maker.specs.Making.{IsMaking, IsKnown, AreThose, HasStratum, IsSifted, HasLeft, AreLeft, IsMade}
use Rattle.evidence_maker.specs.Saturation.{AreUnsettled}
use Rattle.evidence_maker.specs.Settled.{IsSettled}
use Rattle.evidence_maker.proofs.Saturated.{start_law, yes_kept, no_kept, after_steps-push}
use Rattle.evidence_maker.proofs.Sparing.{sparing_push}

-- one step more
pub step_values-push : (steps : List Step) (s : Step) → step_values (steps ++ s ∷ []) ≡ step_values steps ++ step_value s ∷ []
step_values-push [] s = refl
step_values-push (t ∷ ts) s = ap (λ (ss : List StepValue). step_value t ∷ ss) (step_values-push ts s)

-- a proved fact of which nothing is known is not settled
not_settled : (rules : Lookup) (store : List TupleValue) (known : KnownValue) (f : FactValue) → IsProved rules store known f → ¬ IsKnown known f → ¬ IsSettled rules known f
not_settled rules store known f proved unknown (inl y) = unknown (inl y)
not_settled rules store known f proved unknown (inr (inl u)) = let e = sym u ∙ proved.1 in absurd (cc)
not_settled rules store known f proved unknown (inr (inr n)) = unknown (inr n)

pub making_yes : (rules : Lookup) (store : List TupleValue) (C : List FactValue) (k : ℕ) (known : KnownValue) (ss : List StepValue)
    → IsMaking rules store C k known ss → (f : FactValue) → Contains C f → IsProved rules store known f → ¬ IsKnown known f
    → IsMaking rules store C k (with_yes known f) (ss ++ yes_step f ∷ [])
making_yes rules store C k known ss making f inside proved unknown = record {
  saturating = yes_kept rules store C k ss making.saturating f (subst (λ (x : KnownValue). IsProved rules store x f) making.known_after proved);
  known_after = ap (λ (x : KnownValue). with_yes x f) making.known_after ∙ sym (after_steps-push ss nothing_known (yes_step f));
  sparing = sparing_push rules C ss making.sparing (yes_step f) (λ e. absurd (cc)) (not_in_nil f, tt) (λ g c. by_cases g (Contains-cons_cases f [] g c));
}
  where
    unsettled : ¬ IsSettled rules (after_steps nothing_known ss) f
    unsettled = subst (λ (x : KnownValue). ¬ IsSettled rules x f) making.known_after (not_settled rules store known f proved unknown)

    by_cases : (g : FactValue) → (f ≡ g) ⊎ Contains [] g → Contains C g × (¬ IsSettled rules (after_steps nothing_known ss) g)
    by_cases g (inl e) = (subst (Contains C) e inside, subst (λ (x : FactValue). ¬ IsSettled rules (after_steps nothing_known ss) x) e unsettled)
    by_cases g (inr none) = absurd (not_in_nil g none)

-- ---- what is left of a stratum

no_step_same : (R S : List FactValue) → no_step R ≡ no_step S → R ≡ S
no_step_same R S e = cc

module _ (rules : Lookup) (store : List TupleValue) (own : HasOwnRelations rules) (valid : HasValidStrata rules store)
    (C : List FactValue) (premises : HasItsPremises rules store C) (k : ℕ) (known : KnownValue) (ss : List StepValue) (making : IsMaking rules store C k known ss)
    (R : List FactValue) (left : AreUnsettled rules known C k R) (unproved : (f : FactValue) → Contains R f → ¬ IsProved rules store known f) where
  pub making_no : ¬ (R ≡ []) → AreDistinct R → IsMaking rules store C (k + 1) (with_no known R) (ss ++ no_step R ∷ [])
  making_no some distinct = record {
    saturating = no_kept rules store C k ss making.saturating own valid premises R
        (subst (λ (x : KnownValue). AreUnsettled rules x C k R) making.known_after left)
        (subst (λ (x : KnownValue). (f : FactValue) → Contains R f → ¬ IsProved rules store x f) making.known_after unproved);
    known_after = ap (λ (x : KnownValue). with_no x R) making.known_after ∙ sym (after_steps-push ss nothing_known (no_step R));
    sparing = sparing_push rules C ss making.sparing (no_step R) (λ e. some (no_step_same R [] e))
        (subst (λ (fs : List FactValue). AreDistinct fs) (sym (append-nil R)) distinct)
        (λ f c. new f (subst (λ (fs : List FactValue). Contains fs f) (append-nil R) c));
  }
    where
      new : (f : FactValue) → Contains R f → Contains C f × (¬ IsSettled rules (after_steps nothing_known ss) f)
      new f c = let t = (left f).0 c in (t.0, subst (λ (x : KnownValue). ¬ IsSettled rules x f) making.known_after t.2)

  -- where nothing is left, no step is needed
  pub making_none : R ≡ [] → IsMaking rules store C (k + 1) known ss
  making_none none = record {
    saturating = record {
      accepted = making.saturating.accepted;
      below = λ f c low.
          let more = no_kept rules store C k ss making.saturating own valid premises R
          (subst (λ (x : KnownValue). AreUnsettled rules x C k R) making.known_after left)
          (subst (λ (x : KnownValue). (f : FactValue) → Contains R f → ¬ IsProved rules store x f) making.known_after unproved) in
          subst (λ (x : KnownValue). IsSettled rules x f) same (more.below f c low);
    };
    known_after = making.known_after;
    sparing = making.sparing;
  }
    where
      same : after_steps nothing_known (ss ++ no_step R ∷ []) ≡ after_steps nothing_known ss
      same =
          after_steps-push ss nothing_known (no_step R) ∙ ap (λ (fs : List FactValue). with_no (after_steps nothing_known ss) fs) none
          ∙ ap (λ (fs : List FactValue). record (after_steps nothing_known ss) { no = fs }) (append-nil (after_steps nothing_known ss).no)

-- ---- those of a list that meet Q

pub those_none : (Q : FactValue → Type 0) → AreThose Q [] []
those_none Q = record { each = λ f. (λ c. absurd (not_in_nil f c), λ h. h.0); distinct = λ d. d }

distinct_before : (fs : List FactValue) (x : FactValue) → AreDistinct (fs ++ x ∷ []) → AreDistinct fs × (¬ Contains fs x)
distinct_before [] x d = (tt, not_in_nil x)
distinct_before (f ∷ fs) x d =
    let rest = distinct_before fs x d.1 in (
      (λ c. d.0 (Contains-append_left fs (x ∷ []) f c), rest.0),
      λ c. elim (Contains-cons_cases f fs x c)
          [ inl e ↦ d.0 (subst (Contains (fs ++ x ∷ [])) (sym e) (Contains-push fs x)) | inr h ↦ rest.1 h ],
    )

distinct_push : (fs : List FactValue) (x : FactValue) → AreDistinct fs → ¬ Contains fs x → AreDistinct (fs ++ x ∷ [])
distinct_push fs x d n =
    AreDistinct-append fs (x ∷ []) d (not_in_nil x, tt)
    (λ f c h. elim (Contains-cons_cases x [] f h) [ inl e ↦ n (subst (Contains fs) (sym e) c) | inr none ↦ not_in_nil f none ])

those_push : (Q : FactValue → Type 0) (fs R : List FactValue) (x : FactValue) → AreThose Q fs R → Q x → AreThose Q (fs ++ x ∷ []) (R ++ x ∷ [])
those_push Q fs R x h meets = record {
  each = λ f. (λ c. there f (Contains-push_cases R x f c), λ t. back f t.1 (Contains-push_cases fs x f t.0));
  distinct = λ d. let before = distinct_before fs x d in distinct_push R x (h.distinct before.0) (λ c. before.1 ((h.each x).0 c).0);
}
  where
    there : (f : FactValue) → Contains R f ⊎ (x ≡ f) → Contains (fs ++ x ∷ []) f × Q f
    there f (inl c) = let t = (h.each f).0 c in (Contains-append_left fs (x ∷ []) f t.0, t.1)
    there f (inr e) = (subst (Contains (fs ++ x ∷ [])) e (Contains-push fs x), subst Q e meets)

    back : (f : FactValue) → Q f → Contains fs f ⊎ (x ≡ f) → Contains (R ++ x ∷ []) f
    back f q (inl c) = Contains-append_left R (x ∷ []) f ((h.each f).1 (c, q))
    back f q (inr e) = subst (Contains (R ++ x ∷ [])) e (Contains-push R x)

those_pass : (Q : FactValue → Type 0) (fs R : List FactValue) (x : FactValue) → AreThose Q fs R → ¬ Q x → AreThose Q (fs ++ x ∷ []) R
those_pass Q fs R x h misses = record {
  each = λ f. (λ c. let t = (h.each f).0 c in (Contains-append_left fs (x ∷ []) f t.0, t.1), λ t. back f t.1 (Contains-push_cases fs x f t.0));
  distinct = λ d. h.distinct (distinct_before fs x d).0;
}
  where
    back : (f : FactValue) → Q f → Contains fs f ⊎ (x ≡ f) → Contains R f
    back f q (inl c) = (h.each f).1 (c, q)
    back f q (inr e) = absurd (misses (subst Q (sym e) q))

-- the same as a pass goes on
module _ (fs : List FactValue) (i : ℕ) (x : FactValue) (within : i < length fs) (at : x ≡ get_or fs i x) where
  pub take_next : take (i + 1) fs ≡ take i fs ++ x ∷ []
  take_next = rw (add-one, take-suc fs i x within, ← at) refl

  pub those_next : (Q : FactValue → Type 0) (R S : List FactValue) → AreThose Q (take i fs) R → Q x → S ≡ R ++ x ∷ [] → AreThose Q (take (i + 1) fs) S
  those_next Q R S h meets more = rw (take_next, more) (those_push Q (take i fs) R x h meets)

  pub those_same : (Q : FactValue → Type 0) (R : List FactValue) → AreThose Q (take i fs) R → ¬ Q x → AreThose Q (take (i + 1) fs) R
  those_same Q R h misses = rw take_next (those_pass Q (take i fs) R x h misses)

-- ---- looking at facts

pub known_grows : (old new : KnownValue) (f : FactValue) → Grows old new → IsKnown old f → IsKnown new f
known_grows old new f grows (inl y) = inl ((grows f).0 y)
known_grows old new f grows (inr n) = inr ((grows f).1 n)

module _ (rules : Lookup) (store : List TupleValue) (old : KnownValue) where
  pub sifted_none : IsSifted rules store old old [] []
  sifted_none = record {
    inside = λ f c. c;
    others = λ f c. inr c;
    distinct = λ d. d;
    shorter = omega arith;
    grows = λ f. (λ y. y, λ n. n);
    same = λ e. (refl, λ f c. absurd (not_in_nil f c));
  }

  module _ (now : KnownValue) (fs R : List FactValue) (x : FactValue) (h : IsSifted rules store old now fs R) where
    -- the next has become known
    pub sifted_pass : (next : KnownValue) → Grows now next → IsKnown next x → IsSifted rules store old next (fs ++ x ∷ []) R
    sifted_pass next grows known = record {
      inside = λ f c. Contains-append_left fs (x ∷ []) f (h.inside f c);
      others = λ f c. others f (Contains-push_cases fs x f c);
      distinct = λ d. h.distinct (distinct_before fs x d).0;
      shorter = (let le = h.shorter in let e = length_push fs x in omega arith);
      grows = λ f. (λ y. (grows f).0 ((h.grows f).0 y), λ n. (grows f).1 ((h.grows f).1 n));
      same = λ e. absurd (let le = h.shorter in let long = length_push fs x in omega arith);
    }
      where
        others : (f : FactValue) → Contains fs f ⊎ (x ≡ f) → IsKnown next f ⊎ Contains R f
        others f (inl c) = elim (h.others f c) [ inl k ↦ inl (known_grows now next f grows k) | inr d ↦ inr d ]
        others f (inr e) = inl (subst (IsKnown next) e known)

    -- the next is left
    pub sifted_push : (¬ IsKnown now x) → (¬ IsProved rules store now x) → IsSifted rules store old now (fs ++ x ∷ []) (R ++ x ∷ [])
    sifted_push unknown unproved = record {
      inside = λ f c. inside f (Contains-push_cases R x f c);
      others = λ f c. others f (Contains-push_cases fs x f c);
      distinct = λ d. let before = distinct_before fs x d in distinct_push R x (h.distinct before.0) (λ c. before.1 (h.inside x c));
      shorter = (let le = h.shorter in let e = length_push fs x in let f = length_push R x in omega arith);
      grows = h.grows;
      same = λ e. same (let long = length_push fs x in let longer = length_push R x in omega arith);
    }
      where
        inside : (f : FactValue) → Contains R f ⊎ (x ≡ f) → Contains (fs ++ x ∷ []) f
        inside f (inl c) = Contains-append_left fs (x ∷ []) f (h.inside f c)
        inside f (inr e) = subst (Contains (fs ++ x ∷ [])) e (Contains-push fs x)

        others : (f : FactValue) → Contains fs f ⊎ (x ≡ f) → IsKnown now f ⊎ Contains (R ++ x ∷ []) f
        others f (inl c) = elim (h.others f c) [ inl k ↦ inl k | inr d ↦ inr (Contains-append_left R (x ∷ []) f d) ]
        others f (inr e) = inr (subst (Contains (R ++ x ∷ [])) e (Contains-push R x))

        same : length R ≡ length fs → (now ≡ old) × ((f : FactValue) → Contains (R ++ x ∷ []) f → (¬ IsKnown old f) × (¬ IsProved rules store old f))
        same e = (
          (h.same e).0,
          λ f c. elim (Contains-push_cases R x f c) [
            | inl d ↦ (h.same e).1 f d
            | inr s ↦ (
              subst (λ (k : KnownValue). ¬ IsKnown k f) (h.same e).0 (subst (λ (y : FactValue). ¬ IsKnown now y) s unknown),
              subst (λ (k : KnownValue). ¬ IsProved rules store k f) (h.same e).0 (subst (λ (y : FactValue). ¬ IsProved rules store now y) s unproved),
            )
          ],
        )

-- ---- looking again

pub left_all : (known : KnownValue) (fs : List FactValue) → HasLeft known fs fs
left_all known fs = record { inside = λ f c. c; others = λ f c. inr c; distinct = λ d. d }

module _ (rules : Lookup) (store : List TupleValue) (known next : KnownValue) (fs R S : List FactValue) (h : HasLeft known fs R)
    (sifted : IsSifted rules store known next R S) where
  others_next : (f : FactValue) → Contains fs f → IsKnown next f ⊎ Contains S f
  others_next f c = elim (h.others f c) [ inl k ↦ inl (known_grows known next f sifted.grows k) | inr d ↦ sifted.others f d ]

  pub left_next : HasLeft next fs S
  left_next = record {
    inside = λ f c. h.inside f (sifted.inside f c);
    others = others_next;
    distinct = λ d. sifted.distinct (h.distinct d);
  }

  -- where nothing changed, what is left is unknown and unproved
  pub are_left : length S ≡ length R → AreLeft rules store next fs S
  are_left e = record {
    those = record {
      each = λ f. (
        λ c. (h.inside f (sifted.inside f c), subst (λ (k : KnownValue). ¬ IsKnown k f) (sym (sifted.same e).0) ((sifted.same e).1 f c).0),
        λ t. elim (others_next f t.0) [ inl k ↦ absurd (t.1 k) | inr d ↦ d ],
      );
      distinct = λ d. sifted.distinct (h.distinct d);
    };
    unproved = λ f c. subst (λ (k : KnownValue). ¬ IsProved rules store k f) (sym (sifted.same e).0) ((sifted.same e).1 f c).1;
  }

pub none_are_left : (rules : Lookup) (store : List TupleValue) (known : KnownValue) (fs R : List FactValue) → HasLeft known fs R → R ≡ [] → AreLeft rules store known fs R
none_are_left rules store known fs R h none = record {
  those = record {
    each = λ f. (λ c. absurd (not_in_nil f (subst (λ (xs : List FactValue). Contains xs f) none c)), λ t. elim (h.others f t.0) [ inl k ↦ absurd (t.1 k) | inr d ↦ d ]);
    distinct = h.distinct;
  };
  unproved = λ f c. absurd (not_in_nil f (subst (λ (xs : List FactValue). Contains xs f) none c));
}

-- ---- a stratum

pub is_none_left : (xs : List FactValue) → length xs ≤ 0 → xs ≡ []
is_none_left [] le = refl
is_none_left (x ∷ xs) le = absurd (omega arith)

module _ (rules : Lookup) (store : List TupleValue) (C : List FactValue) (k : ℕ) (known : KnownValue) (ss : List StepValue) (making : IsMaking rules store C k known ss)
    (layer : List FactValue) (those : AreThose (HasStratum rules k) C layer) (R : List FactValue) (left : AreLeft rules store known layer R) where
  pub unsettled_left : AreUnsettled rules known C k R
  unsettled_left f = (there, λ t. back t.0 t.1 t.2 (rule_of rules f.set) refl)
    where
      there : Contains R f → Contains C f × IsAtMost rules k f × (¬ IsSettled rules known f)
      there c =
          let l = (left.those.each f).0 c in
          let i = (those.each f).0 l.0 in (
            i.0,
            λ r e. (let same : i.1.0 ≡ r = (let d : Some i.1.0 ≡ Some r = sym i.1.1 ∙ e in cc) in let s : i.1.0.stratum ≡ k = i.1.2 in subst (λ (q : Rule). q.stratum ≤ k) same (omega arith)),
            λ s. elim s [ inl y ↦ l.1 (inl y) | inr o ↦ elim o [ inl u ↦ (let d : Some i.1.0 ≡ None = sym i.1.1 ∙ u in cc) | inr n ↦ l.1 (inr n) ] ],
          )

      back : Contains C f → IsAtMost rules k f → (¬ IsSettled rules known f) → (o : Option Rule) → rule_of rules f.set ≡ o → Contains R f
      back c low unsettled None e = absurd (unsettled (inr (inl e)))
      back c low unsettled (Some r) e = by_order (order r.stratum k (low r e))
        where
          order : (m n : ℕ) → m ≤ n → (m < n) ⊎ (m ≡ n)
          order m n le = grind arith

          by_order : (r.stratum < k) ⊎ (r.stratum ≡ k) → Contains R f
          by_order (inl lt) = absurd (unsettled (subst (λ (x : KnownValue). IsSettled rules x f) (sym making.known_after)
              (making.saturating.below f c (λ q d. (let same : r ≡ q = (let p : Some r ≡ Some q = sym e ∙ d in cc) in subst (λ (z : Rule). z.stratum < k) same lt)))))
          by_order (inr at) = (left.those.each f).1 ((those.each f).1 (c, (r, e, at)), λ n. unsettled (elim n [ inl y ↦ inl y | inr m ↦ inr (inr m) ]))

-- ---- from the first stratum to the last

pub ok_then : {E : Type 0} (r : Result (Unit {0}) E) (A B : Type 0) → (A → B) → OnOk r A → OnOk r B
ok_then {E} (Ok u) A B gives h = gives h
ok_then {E} (Err e) A B gives h = tt

pub making_start : (rules : Lookup) (store : List TupleValue) (C : List FactValue) → IsMaking rules store C 0 nothing_known []
making_start rules store C = record {
  saturating = start_law rules store C;
  known_after = refl;
  sparing = record { inside = λ f c. absurd (not_in_nil f c); distinct = tt; filled = not_in_nil (no_step []) };
}

pub made_of : (rules : Lookup) (store : List TupleValue) (C : List FactValue) (top : ℕ) (known : KnownValue) (ss : List StepValue) → IsMaking rules store C (top + 1) known ss
    → ((f : FactValue) → Contains C f → IsAtMost rules top f) → IsMade rules store C ss
made_of rules store C top known ss making low = record {
  accepted = making.saturating.accepted;
  settled = λ f c. making.saturating.below f c (λ r e. let le : r.stratum ≤ top = low f c r e in omega arith);
  sparing = making.sparing;
}
