-- An expression stays established, or refuted, where what is known of its premises is kept.
use Rattle.std.proofs.Common.{List, inl, inr}
use Rattle.tuple_text.specs.Tuples.{TupleValue, FactValue}
use Rattle.rewrites.specs.Expression.{Expression, this, computed, tuple_to, union, inter, minus, Expressions, no_child, child}
use Rattle.namespaces.specs.Lookup.{Lookup}
use Rattle.strata.specs.Meaning.{with_relation, same_user}
use Rattle.strata.specs.Strata.{EachPremise, EachPremises}
use Rattle.strata.proofs.Premises.{each_premise-map}
use Rattle.judgement.specs.Judgement.{KnownValue, IsOut, Established, SomeEstablished, EachEstablished, Refuted, EachRefuted, SomeRefuted}
use Rattle.evidence_check.specs.Growing.{KeepsYes, KeepsNo, KeepsBoth, Grows}
use Rattle.evidence_maker.specs.Settled.{IsSettled}

module _ (rules : Lookup) (store : List TupleValue) (old new : KnownValue) where
  out_kept : (p : FactValue) → KeepsNo old new p → IsOut rules old p → IsOut rules new p
  out_kept p k (inl u) = inl u
  out_kept p k (inr c) = inr (k c)

  only_yes : (f : FactValue) (e : Expression) → EachPremise store (KeepsBoth old new) (KeepsBoth old new) f e
      → EachPremise store (KeepsYes old new) (KeepsBoth old new) f e
  only_yes f e = each_premise-map store (KeepsBoth old new) (KeepsBoth old new) (KeepsYes old new) (KeepsBoth old new) (λ p k. k.0) (λ p k. k) f e

  only_no : (f : FactValue) (e : Expression) → EachPremise store (KeepsBoth old new) (KeepsBoth old new) f e
      → EachPremise store (KeepsNo old new) (KeepsBoth old new) f e
  only_no f e = each_premise-map store (KeepsBoth old new) (KeepsBoth old new) (KeepsNo old new) (KeepsBoth old new) (λ p k. k.1) (λ p k. k) f e

  mutual
    pub established_kept : (f : FactValue) (e : Expression) → EachPremise store (KeepsYes old new) (KeepsBoth old new) f e
        → Established rules store old f e → Established rules store new f e
    established_kept f this h (inl s) = inl s
    established_kept f this h (inr t) = inr (t.0, t.1, h t.0 t.1 t.2)
    established_kept f (computed q) h d = h d
    established_kept f (tuple_to q c) h d = (d.0, d.1, h d.0 d.1 d.2)
    established_kept f (union es) h d = some_established_kept f es h d
    established_kept f (inter es) h d = each_established_kept f es h d
    established_kept f (minus a b) h d = (established_kept f a h.0 d.0, refuted_kept f b (only_no f b h.1) d.1)

    some_established_kept : (f : FactValue) (es : Expressions) → EachPremises store (KeepsYes old new) (KeepsBoth old new) f es
        → SomeEstablished rules store old f es → SomeEstablished rules store new f es
    some_established_kept f no_child h d = d
    some_established_kept f (child e es) h (inl d) = inl (established_kept f e h.0 d)
    some_established_kept f (child e es) h (inr d) = inr (some_established_kept f es h.1 d)

    each_established_kept : (f : FactValue) (es : Expressions) → EachPremises store (KeepsYes old new) (KeepsBoth old new) f es
        → EachEstablished rules store old f es → EachEstablished rules store new f es
    each_established_kept f no_child h d = d
    each_established_kept f (child e es) h d = (established_kept f e h.0 d.0, each_established_kept f es h.1 d.1)

    pub refuted_kept : (f : FactValue) (e : Expression) → EachPremise store (KeepsNo old new) (KeepsBoth old new) f e
        → Refuted rules store old f e → Refuted rules store new f e
    refuted_kept f this h d = (d.0, λ g s. out_kept (same_user f g) (h g s) (d.1 g s))
    refuted_kept f (computed q) h d = h d
    refuted_kept f (tuple_to q c) h d = λ g s. out_kept (same_user f (with_relation g c)) (h g s) (d g s)
    refuted_kept f (union es) h d = each_refuted_kept f es h d
    refuted_kept f (inter es) h d = some_refuted_kept f es h d
    refuted_kept f (minus a b) h (inl d) = inl (refuted_kept f a h.0 d)
    refuted_kept f (minus a b) h (inr d) = inr (established_kept f b (only_yes f b h.1) d)

    each_refuted_kept : (f : FactValue) (es : Expressions) → EachPremises store (KeepsNo old new) (KeepsBoth old new) f es
        → EachRefuted rules store old f es → EachRefuted rules store new f es
    each_refuted_kept f no_child h d = d
    each_refuted_kept f (child e es) h d = (refuted_kept f e h.0 d.0, each_refuted_kept f es h.1 d.1)

    some_refuted_kept : (f : FactValue) (es : Expressions) → EachPremises store (KeepsNo old new) (KeepsBoth old new) f es
        → SomeRefuted rules store old f es → SomeRefuted rules store new f es
    some_refuted_kept f no_child h d = d
    some_refuted_kept f (child e es) h (inl d) = inl (refuted_kept f e h.0 d)
    some_refuted_kept f (child e es) h (inr d) = inr (some_refuted_kept f es h.1 d)

  -- what is settled stays settled
  pub settled_kept : Grows old new → (f : FactValue) → IsSettled rules old f → IsSettled rules new f
  settled_kept grows f (inl y) = inl ((grows f).0 y)
  settled_kept grows f (inr o) = inr (out_kept f (grows f).1 o)
