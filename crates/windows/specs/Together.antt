-- Windows that show a whole trace, one behind the other, and what is told of it by them.
use Rattle.std.specs.Prelude.{◌≡◌, ℕ, ◌+◌, ◌<◌, ◌≤◌, Bool, List, [], ◌∷◌, ◌++◌, length, map, filter, slice_get, Option, Some}
use Rattle.trace_lines.specs.Values.{EntryValue, TraceValue}
use Rattle.evidence_check.specs.Evidences.{steps_of}
use Rattle.evidence_check.specs.Steps.{StepValue}
use Rattle.findings.specs.Findings.{findings_from}
use Rattle.findings.specs.Parts.{is_of, part_of, evidence_of_part}
use Rattle.findings.specs.declared.finding.Finding.{Finding}
use Rattle.windows.specs.Compaction.{AreRising}
use Rattle.windows.specs.Windows.{IsWindow, IsWithin, IsCopy, NamesTheSame, refound}

-- A window with its evidence. From its line `first` on, its line l is line `line l` of the whole. It knows timestamps
-- `from` to `to`; its entries are some that are carried into it, and behind them its own.
pub record Window : Type 0 where
  pub line : ℕ → ℕ
  pub first : ℕ
  pub from : ℕ
  pub to : ℕ
  pub trace : TraceValue
  pub evidence : List (Option (List StepValue))
  pub carried : List EntryValue
  pub own : List EntryValue

-- what is told of a window: the findings on its own entries, on the whole's lines
abbrev pub told : Window → List Finding
told w = map (refound w.line) (findings_from w.trace w.evidence (length w.carried) w.own)

-- what is told of the part of a window that has the entries of some objects alone
abbrev pub told_of_part : (List ℕ → List ℕ → Bool) → Window → List Finding
told_of_part objects w =
    map (refound w.line) (findings_from (part_of objects w.trace) (evidence_of_part objects w.trace w.evidence)
    (length (filter (is_of objects) w.carried)) (filter (is_of objects) w.own))

-- The window is cut from the trace. Its own entries are these, which stand in the trace behind some others; it has what
-- judges each of them, and its evidence has the same steps for each.
pub record IsShown (t : TraceValue) (evidence : List (Option (List StepValue))) (before seen : List EntryValue)
    (w : Window) : Type 0 where
  pub cut : IsWindow w.line w.first w.from w.to t w.trace
  pub rising : AreRising w.trace.commits
  pub entries : w.trace.entries ≡ w.carried ++ w.own
  pub counted : length w.own ≡ length seen
  pub copied : (k : ℕ) (e d : EntryValue) → slice_get seen k ≡ Some e → slice_get w.own k ≡ Some d → IsCopy w.line e d
  pub behind : (k : ℕ) (d : EntryValue) → slice_get w.own k ≡ Some d → w.first ≤ d.line
  pub within : (k : ℕ) (e : EntryValue) → slice_get seen k ≡ Some e → IsWithin w.from w.to t e
  pub names : (k : ℕ) → k < length seen → NamesTheSame w.line t (length before + k) w.trace (length w.carried + k)
  pub judged : (k : ℕ) → k < length seen
      → steps_of w.evidence (length w.carried + k) ≡ steps_of evidence (length before + k)

-- windows show these entries of the trace, which stand there behind some others: all of them, in order, each once
abbrev pub Show : TraceValue → List (Option (List StepValue)) → List EntryValue → List EntryValue → List Window → Type 0
Show t evidence before es [] = es ≡ []
Show t evidence before es (w ∷ ws) =
    (seen : List EntryValue) × (after : List EntryValue) × (es ≡ seen ++ after) × IsShown t evidence before seen w
    × Show t evidence (before ++ seen) after ws

-- windows show the whole trace; its evidence is, for each entry, that of the window that shows it
abbrev pub ShowAll : TraceValue → List (Option (List StepValue)) → List Window → Type 0
ShowAll t evidence ws = Show t evidence [] t.entries ws

-- what is told of the windows, one behind the other
abbrev pub all_told : List Window → List Finding
all_told [] = []
all_told (w ∷ ws) = told w ++ all_told ws
