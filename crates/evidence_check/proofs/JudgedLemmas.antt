-- What a judgement shows.
use Rattle.std.proofs.Common.{◌≡◌, ℕ, ◌+◌, Bool, true, false, not, ◌&&◌, cond, nat_eq, IsTrue, ◌↔◌, List, [], ◌∷◌, ◌++◌, Option, None, Some, refl, sym, ◌∙◌, ap, subst, inl, inr, arith}
use Rattle.std.proofs.lemmas.List.Elements.{Contains-append_cases}
use Rattle.strata.proofs.Lists.{Contains-cons_cases}
use Rattle.namespaces.specs.declared.number.RulePlace.{RulePlace}
use Rattle.evidence_check.specs.declared.asked_rules.PlacedRule.{PlacedRule}
use Rattle.std.proofs.lemmas.Bool.{eqb-true}
use Rattle.std.specs.Prelude.{Contains, option_map, slice_get, IfOk, Result, Ok, Err}
use Rattle.std.proofs.lemmas.Map.Views.{Contains-from_any, list_any-from_Contains}
use Rattle.tuple_text.specs.Tuples.{TupleValue, FactValue}
use Rattle.tuple_text.specs.OrderLaws.{fact_equiv}
use Rattle.tuple_text.proofs.ValueLemmas.{fact_eq-same}
use Rattle.rewrites.specs.Alike.{IsAlike, AreAlike}
use Rattle.rewrites.specs.Expression.{Expression}
use Rattle.namespaces.specs.Lookup.{Rule, Lookup, rule_at, rule_of}
use Rattle.version_chains.specs.Commits.{store_at}
use Rattle.strata.proofs.Rounds.{stable_law, closed_law}
use Rattle.trace_lines.specs.Timelines.{snapshot_of}
use Rattle.trace_lines.specs.Values.{TraceValue, EntryValue}
use Rattle.rewrites.proofs.AlikeLemmas.{alike_back}
use Rattle.wide_rules.specs.Asked.{Does}
use Rattle.judgement.specs.Judgement.{KnownValue, Established, Refuted}
use Rattle.wide_rules.proofs.AlikeLemmas.{alike_established, alike_refuted}
use Rattle.evidence_check.specs.Accepted.{nothing_known, IsAccepted, AreAccepted, after_step, after_steps, IsTrueOf}
use Rattle.evidence_check.specs.Decided.{decided, dec_accepted}
use Rattle.evidence_check.specs.Judged.{is_accepted, first_bad, is_among, by_reply, by_goal, by_steps, judged}
use Rattle.evidence_check.specs.Laws.{HasValidStrataAt}
use Rattle.evidence_check.specs.Members.{IsRight, IsWrong}
use Rattle.evidence_check.specs.Rules.{ArePlaced, IsPlaced, IsRuleOf, IsSettled}
use Rattle.evidence_check.specs.Steps.{StepValue}
use Rattle.evidence_check.specs.declared.judged.Judged.{Judged}
use Rattle.evidence_check.specs.declared.judged.Judged.TheVariants.{Silent}
use Rattle.evidence_check.proofs.Sound.{steps_true}

not_true : IsTrue false → ⊥
not_true t = cc

pub same_truth : (a b : Bool) → (IsTrue a → IsTrue b) → (IsTrue b → IsTrue a) → a ≡ b
same_truth true b f g = sym (f refl)
same_truth false true f g = absurd (not_true (g refl))
same_truth false false f g = refl

decided_iff : {A : Type 0} → (d : Dec A) → IsTrue (decided d) ↔ A
decided_iff (yes a) = (λ t. a, λ a. refl)
decided_iff (no n) = (λ t. absurd (not_true t), λ a. absurd (n a))

pub accepted_iff : (rules : Lookup) (store : List TupleValue) (known : KnownValue) (step : StepValue) → IsTrue (is_accepted rules store known step) ↔ IsAccepted rules store known step
unfolding is_accepted
accepted_iff rules store known step = decided_iff (dec_accepted rules store known step)

-- a test that holds where the step is accepted
pub accepted_by : (rules : Lookup) (store : List TupleValue) (known : KnownValue) (step : StepValue) (r : Bool) → (IsTrue r ↔ IsAccepted rules store known step) → r ≡ is_accepted rules store known step
accepted_by rules store known step r h =
    let same = accepted_iff rules store known step in
    same_truth r (is_accepted rules store known step) (λ t. same.1 (h.0 t)) (λ t. h.1 (same.0 t))

pub among_iff : (facts : List FactValue) (f : FactValue) → IsTrue (is_among facts f) ↔ Contains facts f
among_iff facts f = (Contains-from_any fact_eq-same f facts, list_any-from_Contains fact_equiv f facts)

-- where no step is bad, each is accepted
pub none_bad : (rules : Lookup) (store : List TupleValue) (known : KnownValue) (k : ℕ) (ss : List StepValue) → first_bad rules store known k ss ≡ None → AreAccepted rules store known ss
none_bad rules store known k [] e = tt
none_bad rules store known k (s ∷ ss) e = by_test (λ h. none_bad rules store (after_step known s) (k + 1) ss h) (is_accepted rules store known s) refl e
  where
    by_test : (first_bad rules store (after_step known s) (k + 1) ss ≡ None → AreAccepted rules store (after_step known s) ss) → (b : Bool) → is_accepted rules store known s ≡ b
        → cond b (first_bad rules store (after_step known s) (k + 1) ss) (Some k) ≡ None → IsAccepted rules store known s × AreAccepted rules store (after_step known s) ss
    by_test rest true t h = ((accepted_iff rules store known s).0 t, rest h)
    by_test rest false t h = absurd cc

-- ---- rules at their places

and_both : (a b : Bool) → a && b ≡ true → (a ≡ true) × (b ≡ true)
and_both true true h = (refl, refl)
and_both true false h = absurd cc
and_both false b h = absurd cc

pub same_place : (p q : RulePlace) → nat_eq p.line q.line && nat_eq p.relation q.relation ≡ true → p ≡ q
same_place p q h =
    let both = and_both (nat_eq p.line q.line) (nat_eq p.relation q.relation) h in
    λ i. record { line = eqb-true p.line q.line both.0 i; relation = eqb-true p.relation q.relation both.1 i }

pub one_placed_more : (trace : TraceValue) (rules : List PlacedRule) (p : PlacedRule) → ArePlaced trace rules → IsPlaced trace p
    → ArePlaced trace (rules ++ p ∷ [])
one_placed_more trace rules p are is q there =
    elim (Contains-append_cases rules (p ∷ []) q there) [
      | inl before ↦ are q before
      | inr last ↦ subst (IsPlaced trace) (only q last) is
    ]
  where
    only : (q : PlacedRule) → Contains (p ∷ []) q → p ≡ q
    only q last = elim (Contains-cons_cases p [] q last) [ inl is ↦ is | inr none ↦ absurd (omega (arith, none.1)) ]

-- ---- by the plain rule of a relation, where it is found

pub by_rule : (o : Option Rule) (x : Expression) (P : Expression → Type 0) → ((a b : Expression) → IsAlike a b → P a → P b)
    → AreAlike (Some x) (option_map (λ (r : Rule). r.expression) o) → (P x ↔ ((r : Rule) × (o ≡ Some r) × P r.expression))
by_rule None x P carry alike = absurd alike
by_rule (Some s) x P carry alike = (
  λ p. (s, refl, carry x s.expression alike p),
  λ t. let rule : s ≡ t.0 = (let h : Some s ≡ Some t.0 = t.1 in cc) in
      carry s.expression x (alike_back x s.expression alike) (subst P (sym (ap (λ (r : Rule). r.expression) rule)) t.2),
)

module _ (trace : TraceValue) (at : ℕ) (known : KnownValue) (f : FactValue) where
  abbrev lookup : Lookup
  lookup = rule_at trace.declarations at

  abbrev store : List TupleValue
  store = store_at trace.commits at

  -- a rule that is alike settles the fact as its own does
  pub settled_by_rule : (g : Bool) (x : Expression) → IsRuleOf trace.declarations at f.set (Some x)
      → (Does (snapshot_of trace at) known f g x ↔ IsSettled lookup store known g f)
  settled_by_rule true x alike = by_rule (rule_of lookup f.set) x (Established lookup store known f) (alike_established lookup store known f) alike
  settled_by_rule false x alike =
      let rule = by_rule (rule_of lookup f.set) x (Refuted lookup store known f) (alike_refuted lookup store known f) alike in (
        λ h. inr (rule.0 h),
        λ s. elim s [
          | inl none ↦ absurd (subst (λ (o : Option Rule). AreAlike (Some x) (option_map (λ (r : Rule). r.expression) o)) none alike)
          | inr t ↦ rule.1 t
        ],
      )

  -- rules that are alike do the same
  pub does_alike : (g : Bool) (x y : Expression) (o : Option Expression) → AreAlike (Some x) o → AreAlike (Some y) o
      → (Does (snapshot_of trace at) known f g x ↔ Does (snapshot_of trace at) known f g y)
  does_alike g x y None alike other = absurd alike
  does_alike true x y (Some z) alike other = (
    λ d. alike_established lookup store known f z y (alike_back y z other) (alike_established lookup store known f x z alike d),
    λ d. alike_established lookup store known f z x (alike_back x z alike) (alike_established lookup store known f y z other d),
  )
  does_alike false x y (Some z) alike other = (
    λ d. alike_refuted lookup store known f z y (alike_back y z other) (alike_refuted lookup store known f x z alike d),
    λ d. alike_refuted lookup store known f z x (alike_back x z alike) (alike_refuted lookup store known f y z other d),
  )

-- ---- what is known of the goal

-- a reply that agrees with what is known is right, and one that does not is wrong
abbrev pub IsAsJudged : Bool → TraceValue → EntryValue → Type 0
IsAsJudged true t e = IsRight t e
IsAsJudged false t e = IsWrong t e

module _ (t : TraceValue) (e : EntryValue) (known : KnownValue) (true_of : IsTrueOf (rule_at t.declarations e.snapshot) (store_at t.commits e.snapshot) known) where
  -- what is known of the goal settles whether the reply is right
  settled_by : (agrees y n reply : Bool) → is_among known.yes e.goal ≡ y → is_among known.no e.goal ≡ n → e.reply ≡ reply
      → cond y (by_reply reply) (cond n (by_reply (not reply)) Silent) ≡ by_reply agrees → IsAsJudged agrees t e
  settled_by true true n true y_is n_is is h = (λ t. true_of.yes e.goal ((among_iff known.yes e.goal).0 y_is), λ m. is)
  settled_by true true n false y_is n_is is h = absurd cc
  settled_by false true n true y_is n_is is h = absurd cc
  settled_by false true n false y_is n_is is h = record {
    allowed = λ t. absurd (not_true (sym is ∙ t));
    denied = λ f. true_of.yes e.goal ((among_iff known.yes e.goal).0 y_is);
  }
  settled_by true false true true y_is n_is is h = absurd cc
  settled_by true false true false y_is n_is is h = (λ t. absurd (not_true (sym is ∙ t)), λ m. absurd (true_of.no e.goal ((among_iff known.no e.goal).0 n_is) m))
  settled_by false false true true y_is n_is is h = record {
    allowed = λ t. true_of.no e.goal ((among_iff known.no e.goal).0 n_is);
    denied = λ f. absurd (not_true (sym f ∙ is));
  }
  settled_by false false true false y_is n_is is h = absurd cc
  settled_by true false false reply y_is n_is is h = absurd cc
  settled_by false false false reply y_is n_is is h = absurd cc

module _ (t : TraceValue) (e : EntryValue) (valid : HasValidStrataAt t e.snapshot) where
  known_true : (ss : List StepValue) → first_bad (rule_at t.declarations e.snapshot) (store_at t.commits e.snapshot) nothing_known 1 ss ≡ None
      → IsTrueOf (rule_at t.declarations e.snapshot) (store_at t.commits e.snapshot) (after_steps nothing_known ss)
  known_true ss good =
      steps_true (rule_at t.declarations e.snapshot) (store_at t.commits e.snapshot) valid (stable_law (rule_at t.declarations e.snapshot) (store_at t.commits e.snapshot) valid)
      (closed_law (rule_at t.declarations e.snapshot) (store_at t.commits e.snapshot) valid) ss
      (none_bad (rule_at t.declarations e.snapshot) (store_at t.commits e.snapshot) nothing_known 1 ss good)

  -- A supported reply is what the rules mean, and a contradicted one is not.
  pub judged_right : (agrees : Bool) (steps : Option (List StepValue)) → judged t e steps ≡ by_reply agrees → IsAsJudged agrees t e
  judged_right true None h = absurd cc
  judged_right false None h = absurd cc
  judged_right agrees (Some ss) h = by_first agrees (first_bad (rule_at t.declarations e.snapshot) (store_at t.commits e.snapshot) nothing_known 1 ss) refl h
    where
      by_first : (agrees : Bool) (o : Option ℕ) → first_bad (rule_at t.declarations e.snapshot) (store_at t.commits e.snapshot) nothing_known 1 ss ≡ o
          → by_steps o (after_steps nothing_known ss) e ≡ by_reply agrees → IsAsJudged agrees t e
      by_first true (Some k) o_is s = absurd cc
      by_first false (Some k) o_is s = absurd cc
      by_first agrees None o_is s =
          settled_by t e (after_steps nothing_known ss) (known_true ss o_is)
          agrees (is_among (after_steps nothing_known ss).yes e.goal) (is_among (after_steps nothing_known ss).no e.goal) e.reply refl refl refl s

-- a test that holds where the fact is in the list
pub among_by : (facts : List FactValue) (f : FactValue) (r : Bool) → (IsTrue r ↔ Contains facts f) → r ≡ is_among facts f
among_by facts f r h =
    let same = among_iff facts f in
    same_truth r (is_among facts f) (λ t. same.1 (h.0 t)) (λ t. h.1 (same.0 t))

pub by_yes : (known : KnownValue) (goal : FactValue) (reply : Bool) → is_among known.yes goal ≡ true → by_goal known goal reply ≡ by_reply reply
by_yes known goal reply e = ap (λ b. cond b (by_reply reply) (cond (is_among known.no goal) (by_reply (not reply)) Silent)) e

pub by_no : (known : KnownValue) (goal : FactValue) (reply : Bool) → is_among known.yes goal ≡ false → is_among known.no goal ≡ true → by_goal known goal reply ≡ by_reply (not reply)
by_no known goal reply e h =
    ap (λ b. cond b (by_reply reply) (cond (is_among known.no goal) (by_reply (not reply)) Silent)) e ∙ ap (λ b. cond b (by_reply (not reply)) Silent) h

pub by_none : (known : KnownValue) (goal : FactValue) (reply : Bool) → is_among known.yes goal ≡ false → is_among known.no goal ≡ false → by_goal known goal reply ≡ Silent
by_none known goal reply e h =
    ap (λ b. cond b (by_reply reply) (cond (is_among known.no goal) (by_reply (not reply)) Silent)) e ∙ ap (λ b. cond b (by_reply (not reply)) Silent) h

-- ---- what an answer shows of the entry

pub if_judged : {E : Type 0} → (agrees : Bool) (t : TraceValue) → ((at : ℕ) → HasValidStrataAt t at) → (i : ℕ) (x : EntryValue) (steps : Option (List StepValue)) (r : Result Judged E)
    → slice_get t.entries i ≡ Some x → IfOk r (λ j. j ≡ judged t x steps)
    → IfOk r (λ j. j ≡ by_reply agrees → (e : EntryValue) → slice_get t.entries i ≡ Some e → IsAsJudged agrees t e)
if_judged agrees t valid i x steps (Ok j) at h = λ s e here.
    let same : x ≡ e = (let p : Some x ≡ Some e = sym at ∙ here in cc) in
    judged_right t e (valid e.snapshot) agrees steps (subst (λ (y : EntryValue). judged t y steps ≡ by_reply agrees) same (sym h ∙ s))
if_judged agrees t valid i x steps (Err f) at h = tt
