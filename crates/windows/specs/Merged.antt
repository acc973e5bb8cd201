-- The findings of a trace, line by line from those of its parts.
use Rattle.std.specs.Prelude.{ℕ, ◌==◌, List, [], ◌∷◌, ◌++◌, filter, nat_eq, Option}
use Rattle.trace_lines.specs.Values.{EntryValue, TraceValue}
use Rattle.evidence_check.specs.Steps.{StepValue}
use Rattle.findings.specs.Findings.{findings_of}
use Rattle.findings.specs.Parts.{part_of, evidence_of_part}
use Rattle.findings.specs.declared.finding.Finding.{Finding}

-- what is found in part k, where each object is of the part that a number names
abbrev pub of_part : (List ℕ → List ℕ → ℕ) → TraceValue → List (Option (List StepValue)) → ℕ → List Finding
of_part part t evidence k =
    findings_of (part_of (λ n i. nat_eq (part n i) k) t) (evidence_of_part (λ n i. nat_eq (part n i) k) t evidence)

-- for one entry behind the other, what is found on its line in the part of its object
abbrev pub merged : (List ℕ → List ℕ → ℕ) → (ℕ → List Finding) → List EntryValue → List Finding
merged part found [] = []
merged part found (e ∷ es) =
    filter (λ f. f.line == e.line) (found (part e.goal.set.namespace e.goal.set.id)) ++ merged part found es
