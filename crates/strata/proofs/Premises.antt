-- How the body of a rule follows its premises.
use Rattle.std.proofs.Common.{◌≡◌, ℕ, zero, suc, max, ◌≤◌, List, ◌⊎◌, inl, inr, ◌↔◌, subst, arith}
use Rattle.tuple_text.specs.Tuples.{TupleValue, FactValue}
use Rattle.rewrites.specs.Expression.{Expression, this, computed, tuple_to, union, inter, minus, Expressions, no_child, child}
use Rattle.strata.specs.Meaning.{with_relation, same_user, Body, SomeBody, EachBody}
use Rattle.strata.specs.Strata.{EachPremise, EachPremises}

-- what holds of each premise may be weakened
mutual
  pub each_premise-map : (store : List TupleValue) (P N P' N' : FactValue → Type 0)
      → ((g : FactValue) → P g → P' g) → ((g : FactValue) → N g → N' g)
      → (f : FactValue) (e : Expression) → EachPremise store P N f e → EachPremise store P' N' f e
  each_premise-map store P N P' N' p n f this h = λ g s. p (same_user f g) (h g s)
  each_premise-map store P N P' N' p n f (computed q) h = p (same_user f (with_relation f.set q)) h
  each_premise-map store P N P' N' p n f (tuple_to q c) h = λ g s. p (same_user f (with_relation g c)) (h g s)
  each_premise-map store P N P' N' p n f (union es) h = each_premises-map store P N P' N' p n f es h
  each_premise-map store P N P' N' p n f (inter es) h = each_premises-map store P N P' N' p n f es h
  each_premise-map store P N P' N' p n f (minus a b) h =
      (each_premise-map store P N P' N' p n f a h.0, each_premise-map store N N N' N' n n f b h.1)

  pub each_premises-map : (store : List TupleValue) (P N P' N' : FactValue → Type 0)
      → ((g : FactValue) → P g → P' g) → ((g : FactValue) → N g → N' g)
      → (f : FactValue) (es : Expressions) → EachPremises store P N f es → EachPremises store P' N' f es
  each_premises-map store P N P' N' p n f no_child h = tt
  each_premises-map store P N P' N' p n f (child e es) h =
      (each_premise-map store P N P' N' p n f e h.0, each_premises-map store P N P' N' p n f es h.1)

-- A body stays true where its positive premises go from P to P', and its subtracted ones are the same under N and N'.
mutual
  pub body-map : (store : List TupleValue) (P N P' N' : FactValue → Type 0) (f : FactValue) (e : Expression)
      → EachPremise store (λ g. P g → P' g) (λ g. N g ↔ N' g) f e → Body store P N f e → Body store P' N' f e
  body-map store P N P' N' f this h (inl s) = inl s
  body-map store P N P' N' f this h (inr t) = inr (t.0, t.1, h t.0 t.1 t.2)
  body-map store P N P' N' f (computed q) h b = h b
  body-map store P N P' N' f (tuple_to q c) h b = (b.0, b.1, h b.0 b.1 b.2)
  body-map store P N P' N' f (union es) h b = some_body-map store P N P' N' f es h b
  body-map store P N P' N' f (inter es) h b = each_body-map store P N P' N' f es h b
  body-map store P N P' N' f (minus a b) h t = (
    body-map store P N P' N' f a h.0 t.0,
    λ s. t.1 (body-map store N' N' N N f b
        (each_premise-map store (λ g. N g ↔ N' g) (λ g. N g ↔ N' g) (λ g. N' g → N g) (λ g. N' g ↔ N g)
        (λ g i. i.1) (λ g i. (i.1, i.0)) f b h.1) s),
  )

  pub some_body-map : (store : List TupleValue) (P N P' N' : FactValue → Type 0) (f : FactValue) (es : Expressions)
      → EachPremises store (λ g. P g → P' g) (λ g. N g ↔ N' g) f es → SomeBody store P N f es → SomeBody store P' N' f es
  some_body-map store P N P' N' f no_child h b = b
  some_body-map store P N P' N' f (child e es) h (inl b) = inl (body-map store P N P' N' f e h.0 b)
  some_body-map store P N P' N' f (child e es) h (inr b) = inr (some_body-map store P N P' N' f es h.1 b)

  pub each_body-map : (store : List TupleValue) (P N P' N' : FactValue → Type 0) (f : FactValue) (es : Expressions)
      → EachPremises store (λ g. P g → P' g) (λ g. N g ↔ N' g) f es → EachBody store P N f es → EachBody store P' N' f es
  each_body-map store P N P' N' f no_child h b = tt
  each_body-map store P N P' N' f (child e es) h b =
      (body-map store P N P' N' f e h.0 b.0, each_body-map store P N P' N' f es h.1 b.1)

-- A body stays true where more holds in positive places.
mutual
  pub body-more : (store : List TupleValue) (P N P' : FactValue → Type 0) → ((g : FactValue) → P g → P' g)
      → (f : FactValue) (e : Expression) → Body store P N f e → Body store P' N f e
  body-more store P N P' p f this (inl s) = inl s
  body-more store P N P' p f this (inr t) = inr (t.0, t.1, p (same_user f t.0) t.2)
  body-more store P N P' p f (computed q) b = p (same_user f (with_relation f.set q)) b
  body-more store P N P' p f (tuple_to q c) b = (b.0, b.1, p (same_user f (with_relation b.0 c)) b.2)
  body-more store P N P' p f (union es) b = some_body-more store P N P' p f es b
  body-more store P N P' p f (inter es) b = each_body-more store P N P' p f es b
  body-more store P N P' p f (minus a b) t = (body-more store P N P' p f a t.0, t.1)

  pub some_body-more : (store : List TupleValue) (P N P' : FactValue → Type 0) → ((g : FactValue) → P g → P' g)
      → (f : FactValue) (es : Expressions) → SomeBody store P N f es → SomeBody store P' N f es
  some_body-more store P N P' p f no_child b = b
  some_body-more store P N P' p f (child e es) (inl b) = inl (body-more store P N P' p f e b)
  some_body-more store P N P' p f (child e es) (inr b) = inr (some_body-more store P N P' p f es b)

  pub each_body-more : (store : List TupleValue) (P N P' : FactValue → Type 0) → ((g : FactValue) → P g → P' g)
      → (f : FactValue) (es : Expressions) → EachBody store P N f es → EachBody store P' N f es
  each_body-more store P N P' p f no_child b = tt
  each_body-more store P N P' p f (child e es) b = (body-more store P N P' p f e b.0, each_body-more store P N P' p f es b.1)

pub le_cases : (m n : ℕ) → m ≤ suc n → (m ≤ n) ⊎ (m ≡ suc n)
le_cases m n h = grind arith

-- what is kept from each round to the next is kept up to any later one
pub kept_up_to : (Q : ℕ → Type 0) → ((n : ℕ) → Q n → Q (suc n)) → (m n : ℕ) → m ≤ n → Q m → Q n
kept_up_to Q up m zero le q = let e : m ≡ 0 = omega arith in subst Q e q
kept_up_to Q up m (suc n) le q = by_cases (λ h. kept_up_to Q up m n h q) (le_cases m n le)
  where
    by_cases : (m ≤ n → Q n) → (m ≤ n) ⊎ (m ≡ suc n) → Q (suc n)
    by_cases step (inl h) = up n (step h)
    by_cases step (inr e) = subst Q e q

-- A body that holds by premises of any rounds holds by premises of one round, where later rounds keep what earlier ones have.
mutual
  pub body-round : (store : List TupleValue) (Q : ℕ → FactValue → Type 0) (N : FactValue → Type 0)
      → ((n : ℕ) (g : FactValue) → Q n g → Q (suc n) g)
      → (f : FactValue) (e : Expression) → Body store (λ g. (n : ℕ) × Q n g) N f e → (n : ℕ) × Body store (Q n) N f e
  body-round store Q N up f this (inl s) = (0, inl s)
  body-round store Q N up f this (inr t) = (t.2.0, inr (t.0, t.1, t.2.1))
  body-round store Q N up f (computed q) b = b
  body-round store Q N up f (tuple_to q c) b = (b.2.0, (b.0, b.1, b.2.1))
  body-round store Q N up f (union es) b = some_body-round store Q N up f es b
  body-round store Q N up f (inter es) b = each_body-round store Q N up f es b
  body-round store Q N up f (minus a b) t = let s = body-round store Q N up f a t.0 in (s.0, (s.1, t.1))

  pub some_body-round : (store : List TupleValue) (Q : ℕ → FactValue → Type 0) (N : FactValue → Type 0)
      → ((n : ℕ) (g : FactValue) → Q n g → Q (suc n) g)
      → (f : FactValue) (es : Expressions) → SomeBody store (λ g. (n : ℕ) × Q n g) N f es → (n : ℕ) × SomeBody store (Q n) N f es
  some_body-round store Q N up f no_child b = absurd b
  some_body-round store Q N up f (child e es) (inl b) = let s = body-round store Q N up f e b in (s.0, inl s.1)
  some_body-round store Q N up f (child e es) (inr b) = let s = some_body-round store Q N up f es b in (s.0, inr s.1)

  pub each_body-round : (store : List TupleValue) (Q : ℕ → FactValue → Type 0) (N : FactValue → Type 0)
      → ((n : ℕ) (g : FactValue) → Q n g → Q (suc n) g)
      → (f : FactValue) (es : Expressions) → EachBody store (λ g. (n : ℕ) × Q n g) N f es → (n : ℕ) × EachBody store (Q n) N f es
  each_body-round store Q N up f no_child b = (0, tt)
  each_body-round store Q N up f (child e es) b =
      let s = body-round store Q N up f e b.0 in
      let t = each_body-round store Q N up f es b.1 in
      let m : ℕ = max s.0 t.0 in (
        m,
        (
          body-more store (Q s.0) N (Q m) (λ g. kept_up_to (λ n. Q n g) (λ n. up n g) s.0 m (omega arith)) f e s.1,
          each_body-more store (Q t.0) N (Q m) (λ g. kept_up_to (λ n. Q n g) (λ n. up n g) t.0 m (omega arith)) f es t.1,
        ),
      )

-- what holds of each premise in two ways holds in both
mutual
  pub each_premise-both : (store : List TupleValue) (P N P' N' : FactValue → Type 0) (f : FactValue) (e : Expression)
      → EachPremise store P N f e → EachPremise store P' N' f e → EachPremise store (λ g. P g × P' g) (λ g. N g × N' g) f e
  each_premise-both store P N P' N' f this h i = λ g s. (h g s, i g s)
  each_premise-both store P N P' N' f (computed q) h i = (h, i)
  each_premise-both store P N P' N' f (tuple_to q c) h i = λ g s. (h g s, i g s)
  each_premise-both store P N P' N' f (union es) h i = each_premises-both store P N P' N' f es h i
  each_premise-both store P N P' N' f (inter es) h i = each_premises-both store P N P' N' f es h i
  each_premise-both store P N P' N' f (minus a b) h i =
      (each_premise-both store P N P' N' f a h.0 i.0, each_premise-both store N N N' N' f b h.1 i.1)

  pub each_premises-both : (store : List TupleValue) (P N P' N' : FactValue → Type 0) (f : FactValue) (es : Expressions)
      → EachPremises store P N f es → EachPremises store P' N' f es → EachPremises store (λ g. P g × P' g) (λ g. N g × N' g) f es
  each_premises-both store P N P' N' f no_child h i = tt
  each_premises-both store P N P' N' f (child e es) h i =
      (each_premise-both store P N P' N' f e h.0 i.0, each_premises-both store P N P' N' f es h.1 i.1)
