-- What goes to the writer of early lines.
use Rattle.std.specs.Prelude.{◌≡◌, ◌⊎◌, ℕ, Bool, true, false, List, [], ◌∷◌, ◌++◌, Option, Some, slice_get, length, take, All, codes}
use Rattle.std.specs.List.{flat_map}
use Rattle.trace_lines.specs.Values.{TraceValue, EntryValue}
use Rattle.evidence_check.specs.Steps.{StepValue}
use Rattle.audit.specs.Devices.{HasRisen}
use Rattle.findings.specs.Findings.{found_on, on_line}
use Rattle.findings.specs.Report.{line_text}
use Rattle.findings.specs.declared.finding.Finding.{Finding}

-- `early ` and the report line of the first finding
abbrev pub early_text : List Finding → List ℕ
early_text [] = []
early_text (f ∷ fs) = codes "early " ++ line_text f

-- the line tells the first of what is found on an entry
pub record IsEarlyLine (t : TraceValue) (evidence : List (Option (List StepValue))) (line : List ℕ) : Type 0 where
  pub place : ℕ
  pub entry : EntryValue
  pub first : Finding
  pub others : List Finding
  pub at : slice_get t.entries place ≡ Some entry
  pub found : on_line entry.line (found_on t evidence place entry) ≡ first ∷ others
  pub text : line ≡ codes "early " ++ line_text first

-- what a writer took, how often it failed or took none of some bytes, and how many calls came behind the last time
-- that it did
pub record WriterState : Type 0 where
  pub taken : List ℕ
  pub failures : ℕ
  pub idle : ℕ
  pub since : ℕ

abbrev pub state_of : {W : Type 0} → (W → List ℕ) → (W → ℕ) → (W → ℕ) → (W → ℕ) → W → WriterState
state_of taken failures idle since w = record { taken = taken w; failures = failures w; idle = idle w; since = since w }

-- a writer failed once, or once took none of some bytes, and that was its last call
abbrev pub WasLast : WriterState → WriterState → Type 0
WasLast old new =
    ((HasRisen old.failures new.failures × (new.idle ≡ old.idle))
    ⊎ (HasRisen old.idle new.idle × (new.failures ≡ old.failures)))
    × (new.since ≡ 0)

-- Lines of which P holds went out, and nothing else. The last may be cut where the writer was given up, as it failed
-- once, or once took none of some bytes: that was its last call.
pub record WentOut (P : List ℕ → Type 0) (old new : WriterState) (given_up : Bool) : Type 0 where
  pub lines : List (List ℕ)
  pub each : All P lines
  pub written : ℕ
  pub goes : new.taken ≡ old.taken ++ take written (flat_map (λ l. l) lines)
  pub whole : given_up ≡ false
      → (length (flat_map (λ l. l) lines) ≡ written) × (new.failures ≡ old.failures) × (new.idle ≡ old.idle)
  pub cut : given_up ≡ true → WasLast old new

-- early lines of this trace and evidence went out
abbrev pub TellsEarly : TraceValue → List (Option (List StepValue)) → WriterState → WriterState → Type 0
TellsEarly t evidence old new = ∥ ((given_up : Bool) × WentOut (IsEarlyLine t evidence) old new given_up) ∥₁
