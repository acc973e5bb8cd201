-- What a run comes to that begins behind a log, and hands on.
use Rattle.std.specs.Prelude.{◌≡◌, ◌==◌, ◌&&◌, ◌||◌, ◌-◌, ◌+◌, nat_lt, not, ℕ, Bool, true, is_some, List, [], ◌++◌, Option, codes, drop, filter, length, IfSome, Ok, string_bytes, if◌then◌else◌}
use Rattle.std.specs.List.{flat_map}
use Rattle.trace_lines.specs.Values.{EntryValue, TraceValue}
use Rattle.findings.specs.Report.{last_lines}
use Rattle.findings.specs.declared.finding.Finding.{Finding}
use Rattle.monitor.specs.Standing.{open_entries}
use Rattle.json_lines.specs.Reading.{line_count}
use Rattle.carry.specs.Opening.{carry_at}
use Rattle.carry.specs.Values.{CarryValue}
use Rattle.runs.specs.Handed as by_runs
use Rattle.runs.specs.Kept.{KeptValue, log_behind}
use Rattle.audit.specs.Audit.{verdict_of}
use Rattle.audit.specs.declared.plain.Verdict.{Verdict}
use Rattle.follow.specs.Heartbeats.{AreTrue}
use Rattle.follow.specs.Pieces.{Piece, number_text, text_of, told_in}
use Rattle.follow.specs.Running as running
use Rattle.follow.specs.Told.{IsToldFrom}
use Rattle.follow_laws.specs.Told.{told_between}
use Rattle.carry_laws.specs.Asked.{asked, is_audited}
use Rattle.carry_laws.specs.declared.known.Known.{Known}
use Rattle.evidence_check.specs.Steps.{StepValue}
use Rattle.audit.specs.Made.{IsMade}
use Rattle.monitor.specs.SoFar.{AreAllowedBetween}
use Rattle.follow.specs.declared.follower.Follower.{Follower}
use Rattle.follow.specs.declared.handing.RunEnd.{RunEnd}

-- why an entry with this snapshot is not audited: it asks below the base, or else its version was let go
abbrev pub why_unaudited : ℕ → ℕ → List ℕ
why_unaudited base snapshot =
    if nat_lt snapshot base then codes "below " ++ number_text base (codes "\n") else codes "its version was let go\n"

-- `line N: not audited, ` and why, of an entry that is not audited by what is known
abbrev pub unaudited_line : Known → List EntryValue → EntryValue → List ℕ
unaudited_line known es e = if is_audited known es e then []
    else codes "line " ++ (number_text e.line (codes ": not audited, ") ++ why_unaudited known.base e.snapshot)

-- how many of the entries that came are not audited
abbrev pub unaudited : Known → ℕ → TraceValue → ℕ
unaudited known begun t = length (filter (λ e. not (is_audited known t.entries e)) (drop begun t.entries))

abbrev pub incomplete_lines : ℕ → List ℕ
incomplete_lines entries = codes "entries " ++ number_text entries (codes "\nfindings 0\nverdict incomplete\n")

-- all entries that came were audited, or are open and go on in the carry that is handed on
abbrev pub is_whole : Bool → Known → ℕ → TraceValue → Bool
is_whole handed known begun t = (unaudited known begun t == 0) && (handed || (length (open_entries t) == 0))

-- The last lines of a report on so many entries; where nothing was found, and the run is not whole, it is not clean.
abbrev pub run_report : Bool → List Finding → ℕ → List ℕ
run_report whole told entries =
    if whole || nat_lt 0 (length told) then last_lines told entries else incomplete_lines entries

-- The last lines of a run: each entry that came and is not audited, how many these are, how many entries of the log are
-- open, and the last lines of a report on so many entries as came.
abbrev pub run_lines : Bool → Known → ℕ → TraceValue → List Finding → List ℕ
run_lines whole known begun t told = flat_map (unaudited_line known t.entries) (drop begun t.entries)
    ++ (codes "not audited " ++ (number_text (unaudited known begun t) (codes "\n")
    ++ (codes "open " ++ (number_text (length (open_entries t)) (codes "\n")
    ++ run_report whole told (length t.entries - begun)))))

-- the bytes are read as a carry of a log of which so much was known, and it counts so many lines
pub record IsHandedOn (known : Known) (lines : ℕ) (t : TraceValue) (bytes : List ℕ) : Type 0 where
  pub carry : CarryValue
  pub read : carry_at bytes ≡ Ok carry
  pub of : by_runs.IsHandedOn known t carry
  pub counted : carry.lines ≡ lines

-- how a run ends whose follower took all lines of a log, which are so many
pub record IsRunEnd (t : TraceValue) (f : Follower) (begun lines : ℕ) (text : List ℕ) (end : RunEnd) : Type 0 where
  pub last : text ≡ run_lines end.whole f.known begun t f.told.items
  pub verdict : end.verdict ≡ verdict_of f.told.items
  pub whole : end.whole ≡ is_whole (is_some end.carry) f.known begun t
  pub carry : IfSome end.carry (λ s. IsHandedOn f.known lines t (string_bytes s))

-- All of the bytes say a log behind the one that stands, and all that their lines let tell was told, on entries that are
-- audited by what is known, by steps that are made for each entry that they settle; the heartbeats are true of it, and the
-- last lines stand behind it. What is handed on is a carry of that log, of which no more is known behind it, and which
-- counts the lines of all runs.
pub record RunEnds (k : KeptValue) (known : Known) (a old new : List ℕ) (end : RunEnd) : Type 0 where
  pub trace : TraceValue
  pub said : log_behind k true a ≡ Ok trace
  pub given : List (Option (List StepValue))
  pub made : AreAllowedBetween IsMade trace (k.lines + 1) (k.lines + line_count a + 1) given
  pub pieces : List Piece
  pub told : told_in pieces ≡ asked known trace (told_between trace given (k.lines + 1) (k.lines + line_count a + 1))
  pub beats : AreTrue trace pieces []
  pub went : new ≡ old ++ (text_of pieces ++ run_lines end.whole known (length k.log.entries) trace (told_in pieces))
  pub verdict : end.verdict ≡ verdict_of (told_in pieces)
  pub whole : end.whole ≡ is_whole (is_some end.carry) known (length k.log.entries) trace
  pub carry : IfSome end.carry (λ s. IsHandedOn known (k.lines + line_count a) trace (string_bytes s))

-- the last lines of a run went out, behind what was told
pub record EndsRun (k : KeptValue) (known : Known) (a : List ℕ) (pieces : List Piece) (ending : List ℕ) (v : Verdict)
    : Type 0 where
  pub trace : TraceValue
  pub said : log_behind k true a ≡ Ok trace
  pub whole : Bool
  pub lines : ending ≡ run_lines whole known (length k.log.entries) trace (told_in pieces)
  pub verdict : v ≡ verdict_of (told_in pieces)

-- some first bytes of such a text went out
abbrev pub RunWentOut : KeptValue → Known → List ℕ → List ℕ → List ℕ → Type 0
RunWentOut k known = running.WentOut (log_behind k) (IsToldFrom (log_behind k) (k.lines + 1) known) (EndsRun k known)
