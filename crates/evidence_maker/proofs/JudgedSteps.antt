-- When steps settle an entry.
use Rattle.std.proofs.Common.{◌≡◌, ℕ, ◌+◌, Bool, true, false, not, List, [], ◌∷◌, Option, None, Some, ◌⊎◌, inl, inr, refl}
use Rattle.tuple_text.specs.Tuples.{TupleValue, FactValue}
use Rattle.namespaces.specs.Lookup.{Lookup, rule_at}
use Rattle.version_chains.specs.Commits.{store_at}
use Rattle.trace_lines.specs.Values.{TraceValue, EntryValue}
use Rattle.judgement.specs.Judgement.{KnownValue}
use Rattle.evidence_check.specs.Accepted.{nothing_known, AreAccepted, after_step, after_steps}
use Rattle.evidence_check.specs.Judged.{is_accepted, first_bad, is_among, by_reply, by_goal, by_steps, judged}
use Rattle.evidence_check.specs.Steps.{StepValue}
use Rattle.evidence_check.specs.declared.judged.Judged.{Judged}
use Rattle.evidence_check.specs.declared.judged.Judged.TheVariants.{Supported, Contradicted}
use Rattle.evidence_check.proofs.JudgedLemmas.{accepted_iff, among_iff, none_bad, by_yes, by_no, by_none}
use Rattle.evidence_maker.specs.Made.{Settles}
use Rattle.evidence_maker.specs.Making.{IsKnown}

-- the judgement settles the entry
abbrev pub IsSettling : Judged → Type 0
IsSettling j = (j ≡ Supported) ⊎ (j ≡ Contradicted)

all_good : (rules : Lookup) (store : List TupleValue) (known : KnownValue) (k : ℕ) (ss : List StepValue) → AreAccepted rules store known ss → first_bad rules store known k ss ≡ None
all_good rules store known k [] h = refl
all_good rules store known k (s ∷ ss) h =
    let good : is_accepted rules store known s ≡ true = (accepted_iff rules store known s).1 h.0 in
    rw good (all_good rules store (after_step known s) (k + 1) ss h.1)

reply_settles : (agrees : Bool) → IsSettling (by_reply agrees)
reply_settles true = inl refl
reply_settles false = inr refl

-- what is known of the goal settles the entry exactly where something is known
goal_settles : (known : KnownValue) (goal : FactValue) (reply : Bool) → IsKnown known goal → IsSettling (by_goal known goal reply)
goal_settles known goal reply h = by_test (is_among known.yes goal) (is_among known.no goal) refl refl h
  where
    by_test : (y n : Bool) → is_among known.yes goal ≡ y → is_among known.no goal ≡ n → IsKnown known goal → IsSettling (by_goal known goal reply)
    by_test true n e f k = rw (by_yes known goal reply e) (reply_settles reply)
    by_test false true e f k = rw (by_no known goal reply e f) (reply_settles (not reply))
    by_test false false e f (inl c) = let t : is_among known.yes goal ≡ true = (among_iff known.yes goal).1 c in absurd (cc)
    by_test false false e f (inr c) = let t : is_among known.no goal ≡ true = (among_iff known.no goal).1 c in absurd (cc)

goal_known : (known : KnownValue) (goal : FactValue) (reply : Bool) → IsSettling (by_goal known goal reply) → IsKnown known goal
goal_known known goal reply h = by_test (is_among known.yes goal) (is_among known.no goal) refl refl h
  where
    by_test : (y n : Bool) → is_among known.yes goal ≡ y → is_among known.no goal ≡ n → IsSettling (by_goal known goal reply) → IsKnown known goal
    by_test true n e f s = inl ((among_iff known.yes goal).0 e)
    by_test false true e f s = inr ((among_iff known.no goal).0 f)
    by_test false false e f (inl s) = let none = by_none known goal reply e f in absurd (cc)
    by_test false false e f (inr s) = let none = by_none known goal reply e f in absurd (cc)

module _ (t : TraceValue) (e : EntryValue) (ss : List StepValue) where
  pub settles_if_judged : IsSettling (judged t e (Some ss)) → Settles t e ss
  settles_if_judged h = by_first (first_bad (rule_at t.declarations e.snapshot) (store_at t.commits e.snapshot) nothing_known 1 ss) refl h
    where
      by_first : (o : Option ℕ) → first_bad (rule_at t.declarations e.snapshot) (store_at t.commits e.snapshot) nothing_known 1 ss ≡ o
          → IsSettling (by_steps o (after_steps nothing_known ss) e) → Settles t e ss
      by_first (Some k) f (inl s) = absurd (cc)
      by_first (Some k) f (inr s) = absurd (cc)
      by_first None f s = record {
        accepted = none_bad (rule_at t.declarations e.snapshot) (store_at t.commits e.snapshot) nothing_known 1 ss f;
        known = goal_known (after_steps nothing_known ss) e.goal e.reply s;
      }

  pub judged_if_settles : Settles t e ss → IsSettling (judged t e (Some ss))
  judged_if_settles h =
      rw (all_good (rule_at t.declarations e.snapshot) (store_at t.commits e.snapshot) nothing_known 1 ss h.accepted)
      (goal_settles (after_steps nothing_known ss) e.goal e.reply h.known)
