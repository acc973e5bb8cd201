-- What is told at a line, by evidence for what is judged there.
use Rattle.std.specs.Prelude.{◌≡◌, ◌==◌, ℕ, Bool, true, false, List, [], ◌∷◌, ◌++◌, get_or, slice_get, is_none, Option, Some, None, if◌then◌else◌}
use Rattle.std.specs.List.{AllZip, flat_map}
use Rattle.trace_lines.specs.Values.{EntryValue, TraceValue}
use Rattle.evidence_check.specs.Evidences.{steps_of}
use Rattle.evidence_check.specs.Judged.{judged}
use Rattle.evidence_check.specs.Steps.{StepValue}
use Rattle.evidence_check.specs.declared.judged.Judged.{Judged}
use Rattle.evidence_check.specs.declared.judged.Judged.TheVariants.{Supported}
use Rattle.findings.specs.Findings.{found_where, on_line}
use Rattle.findings.specs.declared.finding.Finding.{Finding}
use Rattle.findings.specs.declared.finding.What.{What}
use Rattle.findings.specs.declared.finding.What.TheVariants.{OpenSnapshot}
use Rattle.monitor.specs.Standing.{line_of}
use Rattle.follow_laws.specs.Told.{at_moments, is_at, moments, settling_line, told_from}

-- A test says at which moments something is told: at line k (`is_at k`), or at the end of the log (`is_none`).

-- what is told of entry i, which is e, at such moments, where its evidence has these steps
abbrev pub told_of : TraceValue → (Option ℕ → Bool) → Option (List StepValue) → ℕ → EntryValue → List Finding
told_of t test steps i e = on_line e.line (at_moments test (moments t e) (found_where t (judged t e steps) i e))

-- ---- by steps that may be those for an entry

module _ (Allows : TraceValue → EntryValue → Option (List StepValue) → Type 0) where
  -- the judgement by such steps
  abbrev pub IsJudgedBy : TraceValue → EntryValue → Judged → Type 0
  IsJudgedBy t e j = (steps : Option (List StepValue)) × Allows t e steps × (j ≡ judged t e steps)

  -- that judgement, where it is wanted, and else one of which nothing is told
  abbrev pub IsJudgedIf : Bool → TraceValue → EntryValue → Judged → Type 0
  IsJudgedIf true t e j = IsJudgedBy t e j
  IsJudgedIf false t e j = j ≡ Supported

  -- the same by such steps, where it is settled at such a moment
  abbrev pub IsToldOf : TraceValue → (Option ℕ → Bool) → ℕ → EntryValue → List Finding → Type 0
  IsToldOf t test i e told =
      (steps : Option (List StepValue)) × (test (settling_line t e) ≡ true → Allows t e steps)
      × (told ≡ told_of t test steps i e)

  -- for each entry that is settled at such a moment there are such steps
  abbrev pub AreAllowedAt : TraceValue → (Option ℕ → Bool) → List (Option (List StepValue)) → Type 0
  AreAllowedAt t test given =
      (i : ℕ) (e : EntryValue) → slice_get t.entries i ≡ Some e → test (settling_line t e) ≡ true
      → Allows t e (steps_of given i)

  -- the findings are those from before, and what is told of all entries at such moments, by such steps
  abbrev pub TellsWhen : TraceValue → (Option ℕ → Bool) → List Finding → List Finding → Type 0
  TellsWhen t test old new =
      (given : List (Option (List StepValue))) × AreAllowedAt t test given
      × (new ≡ old ++ told_from test t given 0 t.entries)

  -- and what is told when line k is taken (`told_on`)
  abbrev pub Tells : TraceValue → ℕ → List Finding → List Finding → Type 0
  Tells t k old new = TellsWhen t (is_at k) old new

  -- and what is told at the end of the log (`left_over`)
  abbrev pub TellsLeft : TraceValue → List Finding → List Finding → Type 0
  TellsLeft t old new = TellsWhen t is_none old new

  -- the findings are those from before, and what is told of entry i, which is e, at such moments
  abbrev pub TellsOf : TraceValue → (Option ℕ → Bool) → ℕ → EntryValue → List Finding → List Finding → Type 0
  TellsOf t test i e old new = (told : List Finding) × IsToldOf t test i e told × (new ≡ old ++ told)

  -- the same of each entry of these numbers, one behind the other
  abbrev pub TellsOfEach : TraceValue → (Option ℕ → Bool) → List ℕ → List Finding → List Finding → Type 0
  TellsOfEach t test is old new =
      (parts : List (List Finding)) × AllZip (λ i told. (e : EntryValue) × (slice_get t.entries i ≡ Some e)
      × IsToldOf t test i e told) is parts × (new ≡ old ++ flat_map (λ part. part) parts)

-- ---- as it is computed

-- what is found on an entry and told at its own line: all but F4
abbrev pub told_at_once : List (Option What) → List (Option What)
told_at_once found =
    get_or found 0 None ∷ get_or found 1 None ∷ get_or found 2 None ∷ None ∷ get_or found 4 None
    ∷ get_or found 5 None ∷ get_or found 6 None ∷ []

-- an open snapshot, where it names the line
abbrev pub if_names : ℕ → Option What → Option What
if_names line (Some (OpenSnapshot l)) = if l == line then Some (OpenSnapshot l) else None
if_names line _ = None

-- what is found on an entry and told at the line of a commit: F4 where it names that, and what the judgement finds
abbrev pub told_at_commit : List (Option What) → ℕ → List (Option What)
told_at_commit found line =
    None ∷ None ∷ None ∷ if_names line (get_or found 3 None) ∷ None ∷ None ∷ get_or found 6 None ∷ []

-- what is found on an entry and told at the end of the log: what the judgement finds
abbrev pub told_at_end : List (Option What) → List (Option What)
told_at_end found = None ∷ None ∷ None ∷ None ∷ None ∷ None ∷ get_or found 6 None ∷ []

-- the moments of a commit's line, or of the end of the log
abbrev pub moment_of : TraceValue → Option ℕ → Option ℕ → Bool
moment_of t (Some c) = is_at (line_of t c)
moment_of t None = is_none
