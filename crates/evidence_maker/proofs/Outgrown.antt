-- A goal whose evidence is too long, or whose cone is, outgrows the limits.
use Rattle.std.proofs.Common.{◌≡◌, ℕ, ◌≤◌, ◌<◌, ◌^◌, ◌⊎◌, List, [], ◌∷◌, length, inl, inr, refl, Bool, true, false, nat_lt, Result, Ok, Err, arith}
use Rattle.std.specs.Prelude.{IsErrAnd}
use Rattle.std.proofs.lemmas.Bool.{ltb-true, ltb-false}
use Rattle.std.proofs.lemmas.List.{length-append}
use Rattle.tuple_text.specs.Grammar.{IsFact}
use Rattle.tuple_text.specs.Tuples.{TupleValue, FactValue}
use Rattle.namespaces.specs.Lookup.{Lookup, rule_at}
use Rattle.version_chains.specs.Commits.{store_at}
use Rattle.trace_lines.specs.Values.{TraceValue, EntryValue}
use Rattle.strata.proofs.Lists.{Contains-here}
use Rattle.evidence_check.specs.Reading.{fact_count}
use Rattle.evidence_check.specs.Steps.{StepValue, yes_step, no_step}
use Rattle.goal_cone.specs.Bounds.{IsOutgrown}
use Rattle.goal_cone.specs.Cone.{IsCone}
use Rattle.goal_cone.specs.declared.fault.ConeFault.{ConeFault}
use Rattle.goal_cone.specs.declared.fault.ConeFault.TheVariants.{Outgrown}
use Rattle.goal_cone.proofs.Weights.{no_longer}
use Rattle.evidence_maker.specs.declared.fault.MakeFault.{MakeFault}
use Rattle.evidence_maker.specs.declared.fault.MakeFault.TheVariants.{GaveUp}
use Rattle.record_text.specs.Record.{record_length}
use Rattle.record_text.proofs.Short.{yes_short, no_short}
use Rattle.evidence_maker.specs.Made.{Settles, IsRecord, IsOneStep, IsTooLong}
use Rattle.evidence_maker.specs.Making.{IsMade}
use Rattle.evidence_maker.specs.Saturation.{facts_of}
use Rattle.evidence_maker.proofs.Sparing.{spoken_of}

fact_count-is : (ss : List StepValue) → fact_count ss ≡ length (facts_of ss)
fact_count-is [] = refl
fact_count-is (yes_step f ∷ ss) = let e = fact_count-is ss in omega arith
fact_count-is (no_step fs ∷ ss) = let e = fact_count-is ss in let f = length-append fs (facts_of ss) in omega arith

over : (m n : ℕ) → ¬ (m ≤ n) → n < m
over m n h = by_test (nat_lt n m) refl
  where
    by_test : (b : Bool) → nat_lt n m ≡ b → n < m
    by_test true e = ltb-true n m e
    by_test false e = absurd (h (ltb-false n m e))

-- what outgrows a bound outgrows a lower one
pub outgrown_lower : (most least links : ℕ) (rules : Lookup) (store : List TupleValue) (goal : FactValue) → least ≤ most
    → IsOutgrown most links rules store goal → IsOutgrown least links rules store goal
outgrown_lower most least links rules store goal le h = λ D facts holds closed. elim (h D facts holds closed) [ inl lt ↦ inl (omega (arith, lt)) | inr lt ↦ inr lt ]

module _ (t : TraceValue) (e : EntryValue) (C : List FactValue) (ss : List StepValue)
    (cone : IsCone (rule_at t.declarations e.snapshot) (store_at t.commits e.snapshot) e.goal C)
    (made : IsMade (rule_at t.declarations e.snapshot) (store_at t.commits e.snapshot) C ss) where
  settles_made : ¬ IsOneStep t e → Settles t e ss
  settles_made more = record {
    accepted = made.accepted;
    known = elim (made.settled e.goal cone.holds_goal) [
      | inl y ↦ inl y
      | inr o ↦ elim o [ inl u ↦ absurd (more (inr (inl u, tt))) | inr n ↦ inr n ]
    ];
  }

  -- steps that settle the cone are no record only where they have too many facts, or their record too many bytes
  pub outgrown_made : (links : ℕ) → ¬ IsOneStep t e → ¬ IsRecord t e ss
      → IsOutgrown 100000 links (rule_at t.declarations e.snapshot) (store_at t.commits e.snapshot) e.goal ⊎ IsTooLong t e
  outgrown_made links more no_record = by_test (nat_lt 100000 (fact_count ss)) refl
    where
      by_test : (b : Bool) → nat_lt 100000 (fact_count ss) ≡ b
          → IsOutgrown 100000 links (rule_at t.declarations e.snapshot) (store_at t.commits e.snapshot) e.goal ⊎ IsTooLong t e
      by_test true many = inl (λ D facts holds closed.
          let count : fact_count ss ≡ length (facts_of ss) = fact_count-is ss in
          let le : length (facts_of ss) ≤ length D = no_longer (facts_of ss) D made.sparing.distinct (λ f d. cone.least f (made.sparing.inside f d) D holds closed) in
          let lt : 100000 < fact_count ss = ltb-true 100000 (fact_count ss) many in
          inl (omega arith))
      by_test false few = inr (record {
        steps = ss;
        settles = settles_made more;
        whole = λ f declared n. spoken_of (rule_at t.declarations e.snapshot) ss f declared (made.settled f (n C cone.holds_goal cone.premises));
        needed = λ f c. cone.least f (made.sparing.inside f c);
        distinct = made.sparing.distinct;
        filled = made.sparing.filled;
        long = over (record_length e.line ss) (2 ^ 20) (λ le. no_record (settles_made more, (ltb-false 100000 (fact_count ss) few, le)));
      })

-- where the steps of one are no records, one step is not enough
pub one_step_fails : (t : TraceValue) (e : EntryValue) → e.line < 2 ^ 64 → IsFact e.goal
    → ¬ IsRecord t e (yes_step e.goal ∷ []) → ¬ IsRecord t e (no_step (e.goal ∷ []) ∷ []) → ¬ IsOneStep t e
one_step_fails t e lt fact m n (inl h) =
    m (record { accepted = (h, tt); known = inl (Contains-here e.goal []) }, (omega arith, yes_short e.line e.goal lt fact))
one_step_fails t e lt fact m n (inr h) =
    n (record { accepted = (h, tt); known = inr (Contains-here e.goal []) }, (omega arith, no_short e.line e.goal lt fact))

-- only of a goal that is outgrown it is said that it was given up
pub cause_of : {T : Type 0} (r : Result T MakeFault) (cause : ConeFault) → IsErrAnd r (λ fault. fault ≡ GaveUp → cause ≡ Outgrown) → r ≡ Err GaveUp → cause ≡ Outgrown
cause_of (Ok u) cause h e = absurd (cc)
cause_of (Err f) cause h e = let g : f ≡ GaveUp = cc in h g
