-- The findings on a trace, by its tokens and its evidence.
use Rattle.std.specs.Prelude.{ℕ, ◌+◌, Bool, true, false, List, [], ◌∷◌, ◌++◌, Option, None, Some, option_map}
use Rattle.trace_lines.specs.Values.{TraceValue, EntryValue}
use Rattle.evidence_check.specs.Evidences.{steps_of}
use Rattle.evidence_check.specs.Judged.{judged}
use Rattle.evidence_check.specs.Steps.{StepValue}
use Rattle.evidence_check.specs.declared.judged.Judged.{Judged}
use Rattle.evidence_check.specs.declared.judged.Judged.TheVariants as by
use Rattle.token_order.specs.Found.{order_of}
use Rattle.token_order.specs.declared.findings.OrderFindings.{OrderFindings}
use Rattle.findings.specs.declared.finding.What.{What}
use Rattle.findings.specs.declared.finding.What.TheVariants.{Stale, OldToken, NotLatest, OpenSnapshot, WrongToken, UnknownVersion, NoEvidence, BadEvidence, Silent, WrongReply}
use Rattle.findings.specs.declared.finding.Finding.{Finding}

-- what a judgement finds
abbrev pub found_by : Judged → Option What
found_by by.Supported = None
found_by by.Contradicted = Some WrongReply
found_by by.Silent = Some Silent
found_by (by.Bad k) = Some (BadEvidence k)
found_by by.Missing = Some NoEvidence

abbrev pub if_told : What → Bool → Option What
if_told what false = None
if_told what true = Some what

-- what is found on the tokens of an entry, by the findings' numbers
abbrev pub found_on_tokens : OrderFindings → List (Option What)
found_on_tokens f =
    if_told Stale f.stale ∷ option_map OldToken f.old_token ∷ option_map NotLatest f.not_latest
    ∷ option_map OpenSnapshot f.open_snapshot
    ∷ if_told WrongToken f.wrong_token ∷ if_told UnknownVersion f.unknown_version ∷ []

-- what is found on entry i, which is e, where its evidence judges it so: on its tokens, and by that
abbrev pub found_where : TraceValue → Judged → ℕ → EntryValue → List (Option What)
found_where t j i e = found_on_tokens (order_of t i e) ++ found_by j ∷ []

-- what is found on entry i, which is e: on its tokens, and by its evidence
abbrev pub found_on : TraceValue → List (Option (List StepValue)) → ℕ → EntryValue → List (Option What)
found_on t evidence i e = found_where t (judged t e (steps_of evidence i)) i e

abbrev pub on_line : ℕ → List (Option What) → List Finding
on_line line [] = []
on_line line (None ∷ found) = on_line line found
on_line line (Some what ∷ found) = record { line = line; what = what } ∷ on_line line found

-- the findings on the entries from entry i on
abbrev pub findings_from : TraceValue → List (Option (List StepValue)) → ℕ → List EntryValue → List Finding
findings_from t evidence i [] = []
findings_from t evidence i (e ∷ es) = on_line e.line (found_on t evidence i e) ++ findings_from t evidence (i + 1) es

-- the findings on each entry, in line order and by their numbers
abbrev pub findings_of : TraceValue → List (Option (List StepValue)) → List Finding
findings_of t evidence = findings_from t evidence 0 t.entries
