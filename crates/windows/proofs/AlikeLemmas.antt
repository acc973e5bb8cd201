-- What one timestamp says is the same in two traces that say the same there.
use Rattle.std.proofs.Common.{◌≡◌, ℕ, zero, suc, ◌+◌, Bool, cond, List, [], ◌∷◌, inl, inr, ◌↔◌, Option, Some, None, refl, sym, ◌∙◌, ap, subst}
use Rattle.std.specs.List.{AllByRecursion}
use Rattle.tuple_text.specs.Tuples.{TupleValue, FactValue}
use Rattle.tuple_text.specs.declared.users.User.TheVariants.{Id, Set}
use Rattle.rewrites.specs.Expression.{Expression, this, computed, tuple_to, union, inter, minus, Expressions, no_child, child}
use Rattle.namespaces.specs.Lookup.{Lookup, rule_at}
use Rattle.version_chains.specs.Commits.{store_at}
use Rattle.strata.specs.Meaning.{with_relation, same_user, Body, SomeBody, EachBody, Round, Below, Member}
use Rattle.judgement.specs.Judgement.{KnownValue, Established, SomeEstablished, EachEstablished, Refuted, EachRefuted, SomeRefuted}
use Rattle.trace_lines.specs.Values.{TraceValue, EntryValue}
use Rattle.evidence_check.specs.Accepted.{nothing_known, with_no, IsDisproved, IsAccepted, after_step, after_steps}
use Rattle.evidence_check.specs.Decided.{decided, dec_accepted}
use Rattle.evidence_check.specs.Judged.{is_accepted, first_bad, by_goal, by_steps, judged}
use Rattle.evidence_check.specs.Members.{IsMemberAt}
use Rattle.evidence_check.specs.Steps.{StepValue, yes_step, no_step}
use Rattle.windows.specs.Alike.{AreSameTuples, IsSameAt, AsksTheSame}

pub swapped : (a b : List TupleValue) → AreSameTuples a b → AreSameTuples b a
swapped a b same = λ t. ((same t).1, (same t).0)

-- ---- members

mutual
  body_alike : (a b : List TupleValue) → AreSameTuples a b → (P N P' N' : FactValue → Type 0)
      → ((g : FactValue) → P g → P' g) → ((g : FactValue) → N g ↔ N' g)
      → (f : FactValue) (e : Expression) → Body a P N f e → Body b P' N' f e
  body_alike a b same P N P' N' p n f this (inl s) = inl ((same (record { set = f.set; user = Id f.user })).0 s)
  body_alike a b same P N P' N' p n f this (inr t) = inr (
    t.0,
    (same (record { set = f.set; user = Set t.0 })).0 t.1,
    p
        (same_user f t.0) t.2,
  )
  body_alike a b same P N P' N' p n f (computed q) h = p (same_user f (with_relation f.set q)) h
  body_alike a b same P N P' N' p n f (tuple_to q c) t = (
    t.0,
    (same (record { set = with_relation f.set q; user = Set t.0 })).0 t.1,
    p (same_user f (with_relation t.0
        c)) t.2,
  )
  body_alike a b same P N P' N' p n f (union es) h = some_body_alike a b same P N P' N' p n f es h
  body_alike a b same P N P' N' p n f (inter es) h = each_body_alike a b same P N P' N' p n f es h
  body_alike a b same P N P' N' p n f (minus x y) t = (
    body_alike a b same P N P' N' p n f x t.0,
    λ s. t.1 (body_alike b a (swapped a b same) N' N' N N (λ g. (n g).1) (λ g. ((n g).1, (n g).0)) f y s),
  )

  some_body_alike : (a b : List TupleValue) → AreSameTuples a b → (P N P' N' : FactValue → Type 0)
      → ((g : FactValue) → P g → P' g) → ((g : FactValue) → N g ↔ N' g)
      → (f : FactValue) (es : Expressions) → SomeBody a P N f es → SomeBody b P' N' f es
  some_body_alike a b same P N P' N' p n f no_child h = h
  some_body_alike a b same P N P' N' p n f (child e es) (inl h) = inl (body_alike a b same P N P' N' p n f e h)
  some_body_alike a b same P N P' N' p n f (child e es) (inr h) = inr (some_body_alike a b same P N P' N' p n f es h)

  each_body_alike : (a b : List TupleValue) → AreSameTuples a b → (P N P' N' : FactValue → Type 0)
      → ((g : FactValue) → P g → P' g) → ((g : FactValue) → N g ↔ N' g)
      → (f : FactValue) (es : Expressions) → EachBody a P N f es → EachBody b P' N' f es
  each_body_alike a b same P N P' N' p n f no_child h = tt
  each_body_alike a b same P N P' N' p n f (child e es) h =
      (body_alike a b same P N P' N' p n f e h.0, each_body_alike a b same P N P' N' p n f es h.1)

round_alike : (rules : Lookup) (a b : List TupleValue) → AreSameTuples a b → (below below' : FactValue → Type 0)
    → ((g : FactValue) → below g ↔ below' g)
    → (k n : ℕ) (f : FactValue) → Round rules a below k n f → Round rules b below' k n f
round_alike rules a b same below below' i k zero f h = (i f).0 h
round_alike rules a b same below below' i k (suc n) f t = (
  t.0,
  t.1,
  t.2,
  body_alike a b same (Round rules a below k n) below (Round rules b below' k n) below' (λ g.
      round_alike rules a b same below below' i k n g) i f t.0.expression t.3,
)

below_alike : (rules : Lookup) (a b : List TupleValue) → AreSameTuples a b → (k : ℕ) (f : FactValue) → Below rules a k f
    ↔ Below rules b k f
below_alike rules a b same zero f = (λ h. h, λ h. h)
below_alike rules a b same (suc k) f = (
  λ t. (
    t.0,
    round_alike rules a b same (Below rules a k) (Below rules b k) (λ g. below_alike rules a b same k g) k t.0
        f t.1,
  ),
  λ t. (
    t.0,
    round_alike rules b a (swapped a b same) (Below rules b k) (Below rules a k) (λ g. (
      (below_alike rules a b
          same k g).1,
      (below_alike rules a b same k g).0,
    )) k t.0 f t.1,
  ),
)

member_alike : (rules : Lookup) (a b : List TupleValue) → AreSameTuples a b → (f : FactValue) → Member rules a f
    → Member rules b f
member_alike rules a b same f m = (m.0, m.1, (below_alike rules a b same (suc m.0.stratum) f).0 m.2)

-- the rules of two traces that say the same are one look-up
rules_alike : (s : ℕ) (t u : TraceValue) → IsSameAt s t u → rule_at t.declarations s ≡ rule_at u.declarations s
rules_alike s t u same = λ i namespace relation. same.rules namespace relation i

pub same_members_law : (s : ℕ) (t u : TraceValue) → IsSameAt s t u → (f : FactValue)
    → (IsMemberAt t s f ↔ IsMemberAt u s f)
same_members_law s t u same f =
    let rules = rules_alike s t u same in (
      λ m. subst (λ (r : Lookup). Member r (store_at u.commits s) f) rules (member_alike (rule_at t.declarations s)
          (store_at t.commits s) (store_at u.commits s) same.tuples f m),
      λ m. subst (λ (r : Lookup). Member r (store_at t.commits s) f) (sym rules) (member_alike (rule_at u.declarations
          s) (store_at u.commits s) (store_at t.commits s) (swapped (store_at t.commits s) (store_at u.commits s)
          same.tuples) f m),
    )

-- ---- steps

module _ (rules : Lookup) (a b : List TupleValue) (same : AreSameTuples a b) (known : KnownValue) (f : FactValue) where
  mutual
    established_alike : (e : Expression) → Established rules a known f e → Established rules b known f e
    established_alike this (inl s) = inl ((same (record { set = f.set; user = Id f.user })).0 s)
    established_alike this (inr t) = inr (t.0, (same (record { set = f.set; user = Set t.0 })).0 t.1, t.2)
    established_alike (computed q) h = h
    established_alike (tuple_to q c) t =
        (t.0, (same (record { set = with_relation f.set q; user = Set t.0 })).0 t.1, t.2)
    established_alike (union es) h = some_established_alike es h
    established_alike (inter es) h = each_established_alike es h
    established_alike (minus x y) h = (established_alike x h.0, refuted_alike y h.1)

    some_established_alike : (es : Expressions) → SomeEstablished rules a known f es → SomeEstablished rules b known f es
    some_established_alike no_child h = h
    some_established_alike (child e es) (inl h) = inl (established_alike e h)
    some_established_alike (child e es) (inr h) = inr (some_established_alike es h)

    each_established_alike : (es : Expressions) → EachEstablished rules a known f es → EachEstablished rules b known f es
    each_established_alike no_child h = tt
    each_established_alike (child e es) h = (established_alike e h.0, each_established_alike es h.1)

    refuted_alike : (e : Expression) → Refuted rules a known f e → Refuted rules b known f e
    refuted_alike this h = (
      λ s. h.0 ((same (record { set = f.set; user = Id f.user })).1 s),
      λ g s. h.1 g ((same (record { set = f.set; user = Set g })).1 s),
    )
    refuted_alike (computed q) h = h
    refuted_alike (tuple_to q c) h = λ g s. h g ((same (record { set = with_relation f.set q; user = Set g })).1 s)
    refuted_alike (union es) h = each_refuted_alike es h
    refuted_alike (inter es) h = some_refuted_alike es h
    refuted_alike (minus x y) (inl h) = inl (refuted_alike x h)
    refuted_alike (minus x y) (inr h) = inr (established_alike y h)

    each_refuted_alike : (es : Expressions) → EachRefuted rules a known f es → EachRefuted rules b known f es
    each_refuted_alike no_child h = tt
    each_refuted_alike (child e es) h = (refuted_alike e h.0, each_refuted_alike es h.1)

    some_refuted_alike : (es : Expressions) → SomeRefuted rules a known f es → SomeRefuted rules b known f es
    some_refuted_alike no_child h = h
    some_refuted_alike (child e es) (inl h) = inl (refuted_alike e h)
    some_refuted_alike (child e es) (inr h) = inr (some_refuted_alike es h)

disproved_alike : (rules : Lookup) (a b : List TupleValue) → AreSameTuples a b → (known : KnownValue) (f : FactValue)
    → IsDisproved rules a known f → IsDisproved rules b known f
disproved_alike rules a b same known f (inl h) = inl h
disproved_alike rules a b same known f (inr t) = inr (t.0, t.1, refuted_alike rules a b same known f t.0.expression t.2)

each_alike : (P Q : FactValue → Type 0) → ((f : FactValue) → P f → Q f) → (fs : List FactValue) → AllByRecursion P fs
    → AllByRecursion Q fs
each_alike P Q h [] a = tt
each_alike P Q h (f ∷ fs) a = (h f a.0, each_alike P Q h fs a.1)

accepted_alike : (rules : Lookup) (a b : List TupleValue) → AreSameTuples a b → (known : KnownValue) (step : StepValue)
    → IsAccepted rules a known step → IsAccepted rules b known step
accepted_alike rules a b same known (yes_step f) t = (
  t.0,
  t.1,
  established_alike rules a b same known f t.0.expression
      t.2,
)
accepted_alike rules a b same known (no_step fs) h =
    each_alike (IsDisproved rules a (with_no known fs)) (IsDisproved rules b (with_no known fs)) (λ f. disproved_alike
    rules a b same (with_no known fs) f) fs h

decided_alike : {A B : Type 0} → (A → B) → (B → A) → (d : Dec A) (e : Dec B) → decided d ≡ decided e
decided_alike f g (yes a) (yes b) = refl
decided_alike f g (yes a) (no n) = absurd (n (f a))
decided_alike f g (no n) (yes b) = absurd (n (g b))
decided_alike f g (no n) (no m) = refl

tests_alike : (rules : Lookup) (a b : List TupleValue) → AreSameTuples a b → (known : KnownValue) (step : StepValue)
    → is_accepted rules a known step ≡ is_accepted rules b known step
unfolding is_accepted
tests_alike rules a b same known step =
    decided_alike (accepted_alike rules a b same known step) (accepted_alike rules b a (swapped a b same) known step)
    (dec_accepted rules a known step) (dec_accepted rules b known step)

first_bad_alike : (rules : Lookup) (a b : List TupleValue) → AreSameTuples a b
    → (known : KnownValue) (k : ℕ) (steps : List StepValue)
    → first_bad rules a known k steps ≡ first_bad rules b known k steps
first_bad_alike rules a b same known k [] = refl
first_bad_alike rules a b same known k (s ∷ ss) =
    ap (λ (x : Bool). cond x (first_bad rules a (after_step known s) (k + 1) ss) (Some k)) (tests_alike rules a b same
    known s)
    ∙ ap (λ (o : Option ℕ). cond (is_accepted rules b known s) o (Some k)) (first_bad_alike rules a b same (after_step
    known s) (k + 1) ss)

-- the first step that is not accepted is the same in both traces
first_bad_same : (s : ℕ) (t u : TraceValue) → IsSameAt s t u → (steps : List StepValue)
    → first_bad (rule_at t.declarations s) (store_at t.commits s) nothing_known 1 steps ≡ first_bad (rule_at
    u.declarations s) (store_at u.commits s) nothing_known 1 steps
first_bad_same s t u same steps =
    ap (λ (r : Lookup). first_bad r (store_at t.commits s) nothing_known 1 steps) (rules_alike s t u same)
    ∙ first_bad_alike (rule_at u.declarations s) (store_at t.commits s) (store_at u.commits s) same.tuples
    nothing_known 1 steps

pub judged_alike_law : (t u : TraceValue) (d e : EntryValue) → IsSameAt d.snapshot t u → AsksTheSame d e
    → (steps : Option (List StepValue)) → judged t d steps ≡ judged u e steps
judged_alike_law t u d e same asks None = refl
judged_alike_law t u d e same asks (Some steps) =
    ap (λ (o : Option ℕ). by_steps o (after_steps nothing_known steps) d) (first_bad_same d.snapshot t u same steps)
    ∙ ap (λ (s : ℕ). by_steps (first_bad (rule_at u.declarations s) (store_at u.commits s) nothing_known 1 steps)
    (after_steps nothing_known steps) d) asks.snapshot
    ∙ by_answer (first_bad (rule_at u.declarations e.snapshot) (store_at u.commits e.snapshot) nothing_known 1 steps)
  where
    by_answer : (o : Option ℕ)
        → by_steps o (after_steps nothing_known steps) d ≡ by_steps o (after_steps nothing_known steps) e
    by_answer None = ap (λ (g : FactValue). by_goal (after_steps nothing_known steps) g d.reply) asks.goal
        ∙ ap (λ (r : Bool). by_goal (after_steps nothing_known steps) e.goal r) asks.reply
    by_answer (Some k) = refl
