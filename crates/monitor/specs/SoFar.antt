-- What was told of a log so far, from one of its lines on.
use Rattle.std.specs.Prelude.{◌≡◌, ℕ, ◌<◌, ◌≤◌, List, ◌++◌, length, slice_get, Option, Some}
use Rattle.trace_lines.specs.Values.{EntryValue, TraceValue}
use Rattle.evidence_check.specs.Evidences.{steps_of}
use Rattle.evidence_check.specs.Steps.{StepValue}
use Rattle.findings.specs.declared.finding.Finding.{Finding}
use Rattle.follow_laws.specs.Told.{settling_line, told_between}
use Rattle.monitor.specs.Standing.{AreBehind, IsPast, line_of}
use Rattle.monitor.specs.declared.monitor.Monitor.{Monitor}

-- what was taken stands before line k, and what was not from there on
pub record IsUpTo (t : TraceValue) (m : Monitor) (k : ℕ) : Type 0 where
  pub entries_before : (i : ℕ) (e : EntryValue) → slice_get t.entries i ≡ Some e → i < m.entries → e.line < k
  pub entries_from : (i : ℕ) (e : EntryValue) → slice_get t.entries i ≡ Some e → m.entries ≤ i → k ≤ e.line
  pub commits_before : (c : ℕ) → c < length t.commits → c < m.commits → line_of t c < k
  pub commits_from : (c : ℕ) → c < length t.commits → m.commits ≤ c → k ≤ line_of t c

-- the steps for each entry that is settled from line n on, before line k, may be those
abbrev pub AreAllowedBetween : (TraceValue → EntryValue → Option (List StepValue) → Type 0) → TraceValue → ℕ → ℕ
    → List (Option (List StepValue)) → Type 0
AreAllowedBetween Allows t n k given = (i : ℕ) (e : EntryValue) → slice_get t.entries i ≡ Some e → (l : ℕ)
    → settling_line t e ≡ Some l → n ≤ l → l < k → Allows t e (steps_of given i)

-- the findings are those from before, and what is told from a line on at the lines that the monitor took
pub record IsTold (Allows : TraceValue → EntryValue → Option (List StepValue) → Type 0) (first : ℕ) (t : TraceValue)
    (m : Monitor) (old new : List Finding) : Type 0 where
  pub line : ℕ
  pub from : first ≤ line
  pub given : List (Option (List StepValue))
  pub up_to : IsUpTo t m line
  pub allowed : AreAllowedBetween Allows t first line given
  pub told : new ≡ old ++ told_between t given first line

-- Further lines are taken, and what is told there is added to the findings. With what was told of the lines before, it
-- is what is told of them all; and it is on no entry that was settled before: those stay so.
pub record TellsMore (Allows : TraceValue → EntryValue → Option (List StepValue) → Type 0) (t : TraceValue) (m l : Monitor)
    (old new : List Finding) : Type 0 where
  pub more : List Finding
  pub behind : new ≡ old ++ more
  pub told : (first : ℕ) (start before : List Finding) → IsTold Allows first t m start before
      → IsTold Allows first t l start (before ++ more)
  pub silent : AreBehind t m more
  pub past : (n : ℕ) → IsPast t m n → IsPast t l n
