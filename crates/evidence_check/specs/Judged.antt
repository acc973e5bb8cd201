-- How the evidence judges an entry.
use Rattle.std.specs.Prelude.{ℕ, ◌+◌, Bool, not, List, [], ◌∷◌, Option, None, Some, if◌then◌else◌}
use Rattle.std.specs.List.{list_any}
use Rattle.tuple_text.specs.Tuples.{TupleValue, FactValue}
use Rattle.tuple_text.specs.Order.{fact_eq}
use Rattle.namespaces.specs.Lookup.{Lookup, rule_at}
use Rattle.version_chains.specs.Commits.{store_at}
use Rattle.trace_lines.specs.Values.{TraceValue, EntryValue}
use Rattle.judgement.specs.Judgement.{KnownValue}
use Rattle.evidence_check.specs.Accepted.{nothing_known, after_step, after_steps}
use Rattle.evidence_check.specs.Decided.{decided, dec_accepted}
use Rattle.evidence_check.specs.Steps.{StepValue}
use Rattle.evidence_check.specs.declared.judged.Judged.{Judged}
use Rattle.evidence_check.specs.declared.judged.Judged.TheVariants.{Supported, Contradicted, Silent, Bad, Missing}

-- whether `IsAccepted` holds of a step
unfoldable pub is_accepted : Lookup → List TupleValue → KnownValue → StepValue → Bool
is_accepted rules store known step = decided (dec_accepted rules store known step)

-- the first step that is not accepted, where the next has this number
abbrev pub first_bad : Lookup → List TupleValue → KnownValue → ℕ → List StepValue → Option ℕ
first_bad rules store known k [] = None
first_bad rules store known k (s ∷ ss) =
    if is_accepted rules store known s then first_bad rules store (after_step known s) (k + 1) ss else Some k

abbrev pub is_among : List FactValue → FactValue → Bool
is_among facts f = list_any (fact_eq f) facts

-- whether the reply agrees with what is known
abbrev pub by_reply : Bool → Judged
by_reply agrees = if agrees then Supported else Contradicted

-- what is known of the goal settles it
abbrev pub by_goal : KnownValue → FactValue → Bool → Judged
by_goal known goal reply =
    if is_among known.yes goal then by_reply reply
    else (if is_among known.no goal then by_reply (not reply) else Silent)

abbrev pub settled_by : Option ℕ → KnownValue → FactValue → Bool → Judged
settled_by (Some k) known goal reply = Bad k
settled_by None known goal reply = by_goal known goal reply

abbrev pub by_steps : Option ℕ → KnownValue → EntryValue → Judged
by_steps bad known e = settled_by bad known e.goal e.reply

-- the judgement of a reply to a goal at a timestamp, by the steps that were given for it
abbrev pub judged_at : TraceValue → ℕ → FactValue → Bool → Option (List StepValue) → Judged
judged_at t at goal reply None = Missing
judged_at t at goal reply (Some steps) =
    settled_by (first_bad (rule_at t.declarations at) (store_at t.commits at) nothing_known 1 steps)
    (after_steps nothing_known steps) goal reply

-- that of an entry
abbrev pub judged : TraceValue → EntryValue → Option (List StepValue) → Judged
judged t e steps = judged_at t e.snapshot e.goal e.reply steps
