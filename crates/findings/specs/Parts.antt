-- A trace that is cut by object, and what of the whole's findings is a part's own.
use Rattle.std.specs.Prelude.{◌≡◌, ℕ, ◌+◌, Bool, true, List, [], ◌∷◌, ◌++◌, Option, Ok, filter, nat_eq, if◌then◌else◌}
use Rattle.trace_lines.specs.Traces.{trace_of}
use Rattle.trace_lines.specs.Values.{TraceValue, EntryValue}
use Rattle.evidence_check.specs.Evidences.{steps_of}
use Rattle.evidence_check.specs.Steps.{StepValue}
use Rattle.findings.specs.Findings.{found_on, on_line, findings_of}
use Rattle.findings.specs.declared.finding.Finding.{Finding}

-- the entry asks of one of these objects, which a test of namespace and object id tells
abbrev pub is_of : (List ℕ → List ℕ → Bool) → EntryValue → Bool
is_of objects e = objects e.goal.set.namespace e.goal.set.id

-- the trace with the entries of these objects alone
abbrev pub part_of : (List ℕ → List ℕ → Bool) → TraceValue → TraceValue
part_of objects t = record {
  declarations = t.declarations;
  commits = t.commits;
  commit_lines = t.commit_lines;
  entries = filter (is_of objects) t.entries;
}

-- the steps for each of those among the entries from entry i on
abbrev pub evidence_from : (List ℕ → List ℕ → Bool) → List (Option (List StepValue)) → ℕ → List EntryValue
    → List (Option (List StepValue))
evidence_from objects evidence i [] = []
evidence_from objects evidence i (e ∷ es) =
    if is_of objects e then steps_of evidence i ∷ evidence_from objects evidence (i + 1) es
    else evidence_from objects evidence (i + 1) es

-- the evidence for the entries of these objects
abbrev pub evidence_of_part : (List ℕ → List ℕ → Bool) → TraceValue → List (Option (List StepValue))
    → List (Option (List StepValue))
evidence_of_part objects t evidence = evidence_from objects evidence 0 t.entries

-- the whole's findings on those among the entries from entry i on
abbrev pub findings_on_part_from : (List ℕ → List ℕ → Bool) → TraceValue → List (Option (List StepValue)) → ℕ
    → List EntryValue → List Finding
findings_on_part_from objects t evidence i [] = []
findings_on_part_from objects t evidence i (e ∷ es) =
    if is_of objects e then on_line e.line (found_on t evidence i e) ++ findings_on_part_from objects t
    evidence (i + 1) es
    else findings_on_part_from objects t evidence (i + 1) es

-- the whole's findings on the entries of these objects
abbrev pub findings_on_part : (List ℕ → List ℕ → Bool) → TraceValue → List (Option (List StepValue)) → List Finding
findings_on_part objects t evidence = findings_on_part_from objects t evidence 0 t.entries

-- nothing is found in any part, where each object is of the part that a number names
abbrev pub IsCleanInParts : (List ℕ → List ℕ → ℕ) → TraceValue → List (Option (List StepValue)) → Type 0
IsCleanInParts part t evidence =
    (k : ℕ) → findings_of (part_of (λ n i. nat_eq (part n i) k) t)
    (evidence_of_part (λ n i. nat_eq (part n i) k) t evidence) ≡ []

-- some bytes say the trace, and by some evidence nothing is found in it
pub record IsReadClean (t : TraceValue) : Type 0 where
  pub bytes : List ℕ
  pub said : trace_of true bytes ≡ Ok t
  pub evidence : List (Option (List StepValue))
  pub clean : findings_of t evidence ≡ []

-- so it is with each part of a trace, of which itself no bytes are asked for
abbrev pub ArePartsReadClean : (List ℕ → List ℕ → ℕ) → TraceValue → Type 0
ArePartsReadClean part t = (k : ℕ) → IsReadClean (part_of (λ n i. nat_eq (part n i) k) t)
