-- What is proved or disproved stays so as more becomes known, so a fact that is known need not be judged again.
use Rattle.std.proofs.Common.{◌↔◌, List, [], ◌∷◌, ◌++◌, inl, inr, subst}
use Rattle.std.specs.Prelude.{Contains}
use Rattle.std.specs.List.{AllByRecursion}
use Rattle.std.proofs.lemmas.List.Elements.{Contains-append_left, Contains-append_right, Contains-append_cases, Contains-push, Contains-push_cases}
use Rattle.tuple_text.specs.Tuples.{TupleValue, FactValue}
use Rattle.rewrites.specs.Expression.{Expression, this, computed, tuple_to, union, inter, minus, Expressions, no_child, child}
use Rattle.namespaces.specs.Lookup.{Lookup}
use Rattle.strata.proofs.Lists.{Contains-here, Contains-there, Contains-cons_cases, not_in_nil}
use Rattle.strata.specs.Meaning.{with_relation, same_user}
use Rattle.judgement.specs.Judgement.{KnownValue, IsOut, Established, SomeEstablished, EachEstablished, Refuted, SomeRefuted, EachRefuted}
use Rattle.evidence_check.specs.Accepted.{IsProved, IsDisproved, with_yes, with_no, IsAccepted, after_step}
use Rattle.evidence_check.specs.Growing.{Grows, IsBorneOut, AreFresh}
use Rattle.evidence_check.specs.Steps.{StepValue, yes_step, no_step}
use Rattle.evidence_check.proofs.Sound.{each_contained}

pub with_yes-grows : (known : KnownValue) (f : FactValue) → Grows known (with_yes known f)
with_yes-grows known f g = (λ y. Contains-append_left known.yes (f ∷ []) g y, λ c. c)

pub with_no-grows : (known : KnownValue) (fs : List FactValue) → Grows known (with_no known fs)
with_no-grows known fs f = (λ y. y, λ c. Contains-append_left known.no fs f c)

-- what holds of each fact that a list contains holds of all
pub all_of_contained : (P : FactValue → Type 0) (fs : List FactValue) → ((f : FactValue) → Contains fs f → P f) → AllByRecursion P fs
all_of_contained P [] h = tt
all_of_contained P (x ∷ xs) h = (h x (Contains-here x xs), all_of_contained P xs (λ f c. h f (Contains-there x xs f c)))

module _ (rules : Lookup) (store : List TupleValue) (old new : KnownValue) (grows : Grows old new) where
  out_grows : (p : FactValue) → IsOut rules old p → IsOut rules new p
  out_grows p (inl u) = inl u
  out_grows p (inr c) = inr ((grows p).1 c)

  mutual
    pub established_grows : (f : FactValue) (e : Expression) → Established rules store old f e → Established rules store new f e
    established_grows f this (inl s) = inl s
    established_grows f this (inr t) = inr (t.0, t.1, (grows (same_user f t.0)).0 t.2)
    established_grows f (computed q) d = (grows (same_user f (with_relation f.set q))).0 d
    established_grows f (tuple_to q c) d = (d.0, d.1, (grows (same_user f (with_relation d.0 c))).0 d.2)
    established_grows f (union es) d = some_established_grows f es d
    established_grows f (inter es) d = each_established_grows f es d
    established_grows f (minus a b) d = (established_grows f a d.0, refuted_grows f b d.1)

    some_established_grows : (f : FactValue) (es : Expressions) → SomeEstablished rules store old f es → SomeEstablished rules store new f es
    some_established_grows f no_child d = d
    some_established_grows f (child e es) (inl d) = inl (established_grows f e d)
    some_established_grows f (child e es) (inr d) = inr (some_established_grows f es d)

    each_established_grows : (f : FactValue) (es : Expressions) → EachEstablished rules store old f es → EachEstablished rules store new f es
    each_established_grows f no_child d = d
    each_established_grows f (child e es) d = (established_grows f e d.0, each_established_grows f es d.1)

    pub refuted_grows : (f : FactValue) (e : Expression) → Refuted rules store old f e → Refuted rules store new f e
    refuted_grows f this d = (d.0, λ g s. out_grows (same_user f g) (d.1 g s))
    refuted_grows f (computed q) d = (grows (same_user f (with_relation f.set q))).1 d
    refuted_grows f (tuple_to q c) d = λ g s. out_grows (same_user f (with_relation g c)) (d g s)
    refuted_grows f (union es) d = each_refuted_grows f es d
    refuted_grows f (inter es) d = some_refuted_grows f es d
    refuted_grows f (minus a b) (inl d) = inl (refuted_grows f a d)
    refuted_grows f (minus a b) (inr d) = inr (established_grows f b d)

    each_refuted_grows : (f : FactValue) (es : Expressions) → EachRefuted rules store old f es → EachRefuted rules store new f es
    each_refuted_grows f no_child d = d
    each_refuted_grows f (child e es) d = (refuted_grows f e d.0, each_refuted_grows f es d.1)

    some_refuted_grows : (f : FactValue) (es : Expressions) → SomeRefuted rules store old f es → SomeRefuted rules store new f es
    some_refuted_grows f no_child d = d
    some_refuted_grows f (child e es) (inl d) = inl (refuted_grows f e d)
    some_refuted_grows f (child e es) (inr d) = inr (some_refuted_grows f es d)

  -- a fact that is proved stays proved
  pub proved_grows : (f : FactValue) → IsProved rules store old f → IsProved rules store new f
  proved_grows f d = (d.0, d.1, established_grows f d.0.expression d.2)

  -- a fact that is disproved stays disproved
  pub disproved_grows : (f : FactValue) → IsDisproved rules store old f → IsDisproved rules store new f
  disproved_grows f (inl u) = inl u
  disproved_grows f (inr d) = inr (d.0, d.1, refuted_grows f d.0.expression d.2)

module _ (rules : Lookup) (store : List TupleValue) where
  -- accepted steps leave what is known borne out
  pub borne_out_after : (known : KnownValue) (step : StepValue) → IsBorneOut rules store known → IsAccepted rules store known step
      → IsBorneOut rules store (after_step known step)
  borne_out_after known (yes_step f) borne accepted = record {
    yes = λ g c. elim (Contains-append_cases known.yes (f ∷ []) g c) [
      | inl k ↦ proved g (borne.yes g k)
      | inr l ↦ elim (Contains-cons_cases f [] g l) [ inl e ↦ subst (IsProved rules store (with_yes known f)) e (proved f accepted) | inr n ↦ absurd (not_in_nil g n) ]
    ];
    no = λ g c. disproved_grows rules store known (with_yes known f) (with_yes-grows known f) g (borne.no g c);
  }
    where
      proved : (g : FactValue) → IsProved rules store known g → IsProved rules store (with_yes known f) g
      proved = proved_grows rules store known (with_yes known f) (with_yes-grows known f)
  borne_out_after known (no_step fs) borne accepted = record {
    yes = λ g c. proved_grows rules store known (with_no known fs) (with_no-grows known fs) g (borne.yes g c);
    no = λ g c. elim (Contains-append_cases known.no fs g c) [
      | inl k ↦ disproved_grows rules store known (with_no known fs) (with_no-grows known fs) g (borne.no g k)
      | inr l ↦ each_contained (IsDisproved rules store (with_no known fs)) fs accepted g l
    ];
  }

  -- facts are all disproved where the fresh ones are
  pub fresh_decide : (known : KnownValue) (fs fresh : List FactValue) → IsBorneOut rules store known → AreFresh known.no (with_no known fs).no fresh
      → AllByRecursion (IsDisproved rules store (with_no known fs)) fresh ↔ AllByRecursion (IsDisproved rules store (with_no known fs)) fs
  fresh_decide known fs fresh borne are = (
    λ h. all_of_contained (IsDisproved rules store (with_no known fs)) fs (λ f c. elim (are.each f (Contains-append_right known.no fs f c)) [
      | inl k ↦ still f k
      | inr l ↦ each_contained (IsDisproved rules store (with_no known fs)) fresh h f l
    ]),
    λ h. all_of_contained (IsDisproved rules store (with_no known fs)) fresh (λ f c. elim (Contains-append_cases known.no fs f (are.only f c)) [
      | inl k ↦ still f k
      | inr l ↦ each_contained (IsDisproved rules store (with_no known fs)) fs h f l
    ]),
  )
    where
      still : (f : FactValue) → Contains known.no f → IsDisproved rules store (with_no known fs) f
      still f c = disproved_grows rules store known (with_no known fs) (with_no-grows known fs) f (borne.no f c)

-- ---- which facts are fresh

pub denied_again : (before denied fresh : List FactValue) (x : FactValue) → AreFresh before denied fresh → Contains denied x
    → AreFresh before (denied ++ x ∷ []) fresh
denied_again before denied fresh x are known = record {
  each = λ f c. elim (Contains-push_cases denied x f c) [ inl k ↦ are.each f k | inr e ↦ are.each f (subst (Contains denied) e known) ];
  only = λ f c. Contains-append_left denied (x ∷ []) f (are.only f c);
}

pub denied_anew : (before denied fresh : List FactValue) (x : FactValue) → AreFresh before denied fresh
    → AreFresh before (denied ++ x ∷ []) (fresh ++ x ∷ [])
denied_anew before denied fresh x are = record {
  each = λ f c. elim (Contains-push_cases denied x f c) [
    | inl k ↦ elim (are.each f k) [ inl b ↦ inl b | inr l ↦ inr (Contains-append_left fresh (x ∷ []) f l) ]
    | inr e ↦ inr (subst (Contains (fresh ++ x ∷ [])) e (Contains-push fresh x))
  ];
  only = λ f c. elim (Contains-push_cases fresh x f c) [
    | inl k ↦ Contains-append_left denied (x ∷ []) f (are.only f k)
    | inr e ↦ subst (Contains (denied ++ x ∷ [])) e (Contains-push denied x)
  ];
}
