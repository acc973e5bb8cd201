-- The lines of what is told of a log.
use Rattle.std.proofs.Common.{ℕ, zero, suc, ◌<◌, Bool, true, false, cond, leb, List, [], Option}
use Rattle.std.specs.Prelude.{All}
use Rattle.std.proofs.lemmas.List.Elements.{All-append, All-nil, recursion_from_All}
use Rattle.trace_lines.specs.Values.{EntryValue, TraceValue}
use Rattle.evidence_check.specs.Steps.{StepValue}
use Rattle.findings.specs.declared.finding.Finding.{Finding}
use Rattle.follow_laws.specs.Told.{is_at, told_on, told_between}
use Rattle.carry_laws.proofs.AskLemmas.{told_before_line}

-- what is told of a log is on lines of its entries
pub told_within : (n : ℕ) (t : TraceValue) → All (λ e. e.line < n) t.entries → (given : List (Option (List StepValue)))
    → (first k : ℕ) → All (λ f. f.line < n) (told_between t given first k)
told_within n t below given first zero = All-nil (λ (f : Finding). f.line < n)
told_within n t below given first (suc k) =
    All-append (λ (f : Finding). f.line < n) (told_between t given first k) (cond (leb first k) (told_on t given k) [])
    (told_within n t below given first k) (by_test (leb first k))
  where
    by_test : (b : Bool) → All (λ f. f.line < n) (cond b (told_on t given k) [])
    by_test true = told_before_line n (is_at k) t given 0 t.entries
        (recursion_from_All (λ (e : EntryValue). e.line < n) t.entries below)
    by_test false = All-nil (λ (f : Finding). f.line < n)
