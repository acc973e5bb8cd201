-- The runs of a log, one behind the other, and the log that all their lines say.
use Rattle.std.specs.Prelude.{◌≡◌, ◌⊎◌, ℕ, ◌+◌, nat_le, true, List, [], ◌∷◌, ◌++◌, filter, option_map, Option, Some, None, Result, Ok, Err, string_bytes, if◌then◌else◌, ⊤}
use Rattle.refusals.specs.Refusals.{◌>>=◌}
use Rattle.json_lines.specs.Reading.{line_count}
use Rattle.trace_lines.specs.Values.{EntryValue, TraceValue}
use Rattle.trace_lines.specs.declared.cause.TraceFault.{TraceFault}
use Rattle.evidence_check.specs.Steps.{StepValue}
use Rattle.findings.specs.declared.finding.Finding.{Finding}
use Rattle.carry_laws.specs.Asked.{all_known, is_asked}
use Rattle.carry_laws.specs.declared.known.Known.{Known}
use Rattle.carry_laws.specs.Carried.{placeless}
use Rattle.runs.specs.Kept.{KeptValue, log_behind, nothing_kept}
use Rattle.audit.specs.Made.{IsMade}
use Rattle.follow.specs.Carried.{IsBegunBy}
use Rattle.follow.specs.Handing.{RunEnds}
use Rattle.follow.specs.Pieces as pieces
use Rattle.follow.specs.declared.handing.RunEnd.{RunEnd}

-- a run: the log that it began behind and what is known of it, the bytes that came, what its writer held before and then,
-- and how it ended
pub record Ran : Type 0 where
  pub behind : KeptValue
  pub known : Known
  pub bytes : List ℕ
  pub old : List ℕ
  pub new : List ℕ
  pub end : RunEnd
  pub ends : RunEnds behind known bytes old new end

-- a run begins with the text that was handed on
abbrev pub BeginsWith : Option (List ℕ) → Ran → Type 0
BeginsWith None r = ⊥
BeginsWith (Some text) r = IsBegunBy text r.behind r.known

abbrev pub handed : Ran → Option (List ℕ)
handed r = option_map string_bytes r.end.carry

-- each begins with what the one before it handed on
abbrev pub AreBehind : Option (List ℕ) → List Ran → Type 0
AreBehind text [] = ⊤
AreBehind text (r ∷ rs) = BeginsWith text r × AreBehind (handed r) rs

-- and the first with nothing
abbrev pub AreRuns : List Ran → Type 0
AreRuns [] = ⊤
AreRuns (r ∷ rs) = (r.behind ≡ nothing_kept) × ((r.known ≡ all_known) × AreBehind (handed r) rs)

-- ---- the log that all lines say

abbrev pub more_lines : KeptValue → List ℕ → Result TraceValue TraceFault → Result KeptValue TraceFault
more_lines k bytes (Ok t) = Ok (record { lines = k.lines + line_count bytes; log = t })
more_lines k bytes (Err e) = Err e

abbrev pub log_from : KeptValue → List Ran → Result KeptValue TraceFault
log_from k [] = Ok k
log_from k (r ∷ rs) = more_lines k r.bytes (log_behind k true r.bytes) >>= λ l. log_from l rs

-- each run's lines behind those of the runs before it
abbrev pub whole_log : List Ran → Result KeptValue TraceFault
whole_log rs = log_from nothing_kept rs

-- ---- what the runs tell

abbrev pub told_in : Ran → List Finding
told_in r = pieces.told_in r.ends.pieces

abbrev pub told_by : List Ran → List Finding
told_by [] = []
told_by (r ∷ rs) = told_in r ++ told_by rs

-- what the run knows that takes a line
abbrev pub known_at : List Ran → ℕ → Known
known_at [] line = all_known
known_at (r ∷ rs) line = if nat_le line (r.behind.lines + line_count r.bytes) then r.known else known_at rs line

-- the findings on entries that were audited by the run that took them
abbrev pub on_audited : List Ran → TraceValue → List Finding → List Finding
on_audited rs u found = filter (λ f. is_asked (known_at rs f.line) u f.line) found

-- the steps are made for the entry in the log of one of these runs
abbrev pub IsMadeInRun : Ran → EntryValue → Option (List StepValue) → Type 0
IsMadeInRun r e steps = (d : EntryValue) × (placeless d ≡ e) × IsMade r.ends.trace d steps

abbrev pub IsMadeIn : List Ran → EntryValue → Option (List StepValue) → Type 0
IsMadeIn [] e steps = ⊥
IsMadeIn (r ∷ rs) e steps = IsMadeInRun r e steps ⊎ IsMadeIn rs e steps
