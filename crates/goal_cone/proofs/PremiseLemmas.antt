-- How what holds of each premise follows the premises one by one.
use Rattle.std.proofs.Common.{◌≡◌, List, inl, inr, refl, subst}
use Rattle.tuple_text.specs.Tuples.{TupleValue, FactValue}
use Rattle.rewrites.specs.Expression.{Expression, this, computed, tuple_to, union, inter, minus, Expressions, no_child, child}
use Rattle.strata.specs.Meaning.{with_relation, same_user}
use Rattle.strata.specs.Strata.{EachPremise, EachPremises}
use Rattle.goal_cone.specs.Premises.{SomePremise, SomePremises, ReadsPlainly, ReadsStrictly}

-- what holds of some premise may be weakened
mutual
  pub some_premise-map : (store : List TupleValue) (P N P' N' : FactValue → Type 0)
      → ((p : FactValue) → P p → P' p) → ((p : FactValue) → N p → N' p)
      → (f : FactValue) (e : Expression) → SomePremise store P N f e → SomePremise store P' N' f e
  some_premise-map store P N P' N' p n f this s = (s.0, s.1, p (same_user f s.0) s.2)
  some_premise-map store P N P' N' p n f (computed q) s = p (same_user f (with_relation f.set q)) s
  some_premise-map store P N P' N' p n f (tuple_to q c) s = (s.0, s.1, p (same_user f (with_relation s.0 c)) s.2)
  some_premise-map store P N P' N' p n f (union es) s = some_premises-map store P N P' N' p n f es s
  some_premise-map store P N P' N' p n f (inter es) s = some_premises-map store P N P' N' p n f es s
  some_premise-map store P N P' N' p n f (minus a b) (inl s) = inl (some_premise-map store P N P' N' p n f a s)
  some_premise-map store P N P' N' p n f (minus a b) (inr s) = inr (some_premise-map store N N N' N' n n f b s)

  some_premises-map : (store : List TupleValue) (P N P' N' : FactValue → Type 0)
      → ((p : FactValue) → P p → P' p) → ((p : FactValue) → N p → N' p)
      → (f : FactValue) (es : Expressions) → SomePremises store P N f es → SomePremises store P' N' f es
  some_premises-map store P N P' N' p n f no_child s = s
  some_premises-map store P N P' N' p n f (child e es) (inl s) = inl (some_premise-map store P N P' N' p n f e s)
  some_premises-map store P N P' N' p n f (child e es) (inr s) = inr (some_premises-map store P N P' N' p n f es s)

-- what holds of each premise holds of one that is read
mutual
  pub each_premise-at : (X : Type 0) (store : List TupleValue) (P N P' N' : FactValue → Type 0)
      → ((p : FactValue) → P p → P' p → X) → ((p : FactValue) → N p → N' p → X)
      → (f : FactValue) (e : Expression) → EachPremise store P N f e → SomePremise store P' N' f e → X
  each_premise-at X store P N P' N' p n f this h s = p (same_user f s.0) (h s.0 s.1) s.2
  each_premise-at X store P N P' N' p n f (computed q) h s = p (same_user f (with_relation f.set q)) h s
  each_premise-at X store P N P' N' p n f (tuple_to q c) h s = p (same_user f (with_relation s.0 c)) (h s.0 s.1) s.2
  each_premise-at X store P N P' N' p n f (union es) h s = each_premises-at X store P N P' N' p n f es h s
  each_premise-at X store P N P' N' p n f (inter es) h s = each_premises-at X store P N P' N' p n f es h s
  each_premise-at X store P N P' N' p n f (minus a b) h (inl s) = each_premise-at X store P N P' N' p n f a h.0 s
  each_premise-at X store P N P' N' p n f (minus a b) h (inr s) = each_premise-at X store N N N' N' n n f b h.1 s

  each_premises-at : (X : Type 0) (store : List TupleValue) (P N P' N' : FactValue → Type 0)
      → ((p : FactValue) → P p → P' p → X) → ((p : FactValue) → N p → N' p → X)
      → (f : FactValue) (es : Expressions) → EachPremises store P N f es → SomePremises store P' N' f es → X
  each_premises-at X store P N P' N' p n f no_child h s = absurd s
  each_premises-at X store P N P' N' p n f (child e es) h (inl s) = each_premise-at X store P N P' N' p n f e h.0 s
  each_premises-at X store P N P' N' p n f (child e es) h (inr s) = each_premises-at X store P N P' N' p n f es h.1 s

pub at_plain : (store : List TupleValue) (P N : FactValue → Type 0) (f : FactValue) (e : Expression)
    → EachPremise store P N f e → (p : FactValue) → ReadsPlainly store f e p → P p
at_plain store P N f e h p =
    each_premise-at (P p) store P N (λ q. q ≡ p) (λ _. ⊥) (λ q k same. subst P same k) (λ q k none. absurd none) f e h

pub at_strict : (store : List TupleValue) (P N : FactValue → Type 0) (f : FactValue) (e : Expression)
    → EachPremise store P N f e → (p : FactValue) → ReadsStrictly store f e p → N p
at_strict store P N f e h p =
    each_premise-at (N p) store P N (λ _. ⊥) (λ q. q ≡ p) (λ q k none. absurd none) (λ q k same. subst N same k) f e h

-- what holds of the premises one by one holds of each
mutual
  pub from_reads : (store : List TupleValue) (P N : FactValue → Type 0) (f : FactValue) (e : Expression)
      → ((p : FactValue) → ReadsPlainly store f e p → P p) → ((p : FactValue) → ReadsStrictly store f e p → N p)
      → EachPremise store P N f e
  from_reads store P N f this h i = λ g s. h (same_user f g) (g, s, refl)
  from_reads store P N f (computed q) h i = h (same_user f (with_relation f.set q)) refl
  from_reads store P N f (tuple_to q c) h i = λ g s. h (same_user f (with_relation g c)) (g, s, refl)
  from_reads store P N f (union es) h i = all_from_reads store P N f es h i
  from_reads store P N f (inter es) h i = all_from_reads store P N f es h i
  from_reads store P N f (minus a b) h i = (
    from_reads store P N f a (λ p s. h p (inl s)) (λ p s. i p (inl s)),
    from_reads store N N f b
        (λ p s. i p (inr (some_premise-map store (λ q. q ≡ p) (λ _. ⊥) (λ q. q ≡ p) (λ q. q ≡ p) (λ q same. same) (λ q none. absurd none) f b s)))
        (λ p s. i p (inr (some_premise-map store (λ _. ⊥) (λ q. q ≡ p) (λ q. q ≡ p) (λ q. q ≡ p) (λ q none. absurd none) (λ q same. same) f b s))),
  )

  all_from_reads : (store : List TupleValue) (P N : FactValue → Type 0) (f : FactValue) (es : Expressions)
      → ((p : FactValue) → SomePremises store (λ q. q ≡ p) (λ _. ⊥) f es → P p)
      → ((p : FactValue) → SomePremises store (λ _. ⊥) (λ q. q ≡ p) f es → N p)
      → EachPremises store P N f es
  all_from_reads store P N f no_child h i = tt
  all_from_reads store P N f (child e es) h i = (
    from_reads store P N f e (λ p s. h p (inl s)) (λ p s. i p (inl s)),
    all_from_reads store P N f es (λ p s. h p (inr s)) (λ p s. i p (inr s)),
  )

-- what holds of every fact holds of each premise
pub each_premise-all : (store : List TupleValue) (P N : FactValue → Type 0) (f : FactValue) (e : Expression)
    → ((p : FactValue) → P p) → ((p : FactValue) → N p) → EachPremise store P N f e
each_premise-all store P N f e h i = from_reads store P N f e (λ p _. h p) (λ p _. i p)
