-- What a run says by its status: of what it read, and of the writer that its answer goes to.
use Rattle.std.specs.Prelude.{◌≡◌, ◌≢◌, ◌⊎◌, ℕ, ◌+◌, ◌<◌, ◌≤◌, true, false, List, Some, length}
use Rattle.devices.specs.Devices.{moved_by}
use Rattle.json_lines.specs.declared.lines.TheConstants.{CHUNK}
use Rattle.json_lines.specs.declared.reading.TheConstants.{MAX_INPUT}
use Rattle.audit.specs.Audit.{Audits}
use Rattle.audit.specs.Devices.{Reading, Writing, OfInput, GivesFew, GivesNext, ReaderFailed, ReaderNeverFailed, WriterFailed, WriterNeverFailed, TookNothing, StandsBehind}
use Rattle.audit.specs.Joined.{OfBothParts}
use Rattle.audit.specs.declared.plain.Verdict.TheVariants.{Clean, Dirty}
use Rattle.findings.specs.EachEntry.{TellsOfEachEntry}
use Rattle.findings.specs.Headline.{IsTraceRightAndFresh}
use Rattle.findings.specs.WrongReplies.{NamesOnlyWrongReplies}
use Rattle.new_enemy.specs.Files.{OfFiles, file_failures}
use Rattle.new_enemy.specs.Outcomes.{HasSucceeded, HasFoundDirty, HasLeftOut, HasRefused, HasReadNothing, SaysOfDevices, is_followed, is_opened}
use Rattle.new_enemy.specs.Run.{IsRefused}
use Rattle.new_enemy.specs.Words.{IsOfCommand}
use Rattle.new_enemy.specs.declared.run.Ran.{Ran}

-- the report on all of joined input went out, its verdict is clean, and the trace is right and fresh
abbrev pub IsCleanJoined : Reading → Writing → Type 0
IsCleanJoined input out =
    OfBothParts input (λ a b. Audits a b out.before.taken out.after.taken Clean)
    × OfBothParts input NamesOnlyWrongReplies × OfBothParts input TellsOfEachEntry
    × OfBothParts input (λ a b. IsTraceRightAndFresh a)

abbrev pub IsDirtyJoined : Reading → Writing → Type 0
IsDirtyJoined input out =
    OfBothParts input (λ a b. Audits a b out.before.taken out.after.taken Dirty)
    × OfBothParts input NamesOnlyWrongReplies × OfBothParts input TellsOfEachEntry

-- The status of a run that audits joined input.
pub record RunsJoined (input : Reading) (out : Writing) (status : ℕ) : Type 0 where
  pub clean : status ≡ 0 → IsCleanJoined input out
  pub dirty : status ≡ 1 → IsDirtyJoined input out
  pub flushed : status ≤ 1 → out.after.flushes ≡ out.before.flushes + 1
  -- of every input that begins with the bytes that came
  pub refused : status ≡ 2 → OfInput input IsRefused
  -- it is 5 only where a device failed, or the writer took none of some bytes, and any other only where none did
  pub device : status ≡ 5 → ReaderFailed input ⊎ WriterFailed out
  pub kept : status ≢ 5 → ReaderNeverFailed input × WriterNeverFailed out
  -- a report goes out with a verdict, or as far as the writer took it
  pub unwritten : 2 ≤ status → status ≤ 4 → TookNothing out
  -- also of input that never ends
  pub most : GivesFew input
  -- of devices in memory: what came is the next of what the reader had left, and all of it where the reader was at its
  -- end; and what went out stands behind what the writer held
  pub known : GivesNext input
  pub held : StandsBehind out
  pub statuses : (status ≤ 5) × (status ≢ 3)

-- The status of a run of the command that this word names, which reads files alone.
pub record RunsFiles {F : Type 0} (word : List ℕ) (out : Writing) (status : ℕ) (run : Ran F) : Type 0 where
  pub command : IsOfCommand (Some word) run
  pub clean : status ≡ 0 → HasSucceeded ⊥ out.before.taken out.after.taken run
  pub dirty : status ≡ 1 → HasFoundDirty ⊥ out.before.taken out.after.taken run
  pub refused : status ≡ 2 → HasRefused ⊥ run
  pub used : status ≡ 3 → HasReadNothing run
  pub left_out : status ≡ 6 → HasLeftOut out.before.taken out.after.taken run
  pub devices : SaysOfDevices status run out
  pub statuses : status ≤ 6

-- The status of any run.
pub record SaysOfRun {F : Type 0} (input : Reading) (out : Writing) (status : ℕ) (run : Ran F) : Type 0 where
  -- the report on all that was read went out, its verdict is clean, and the trace is right and fresh
  pub clean : status ≡ 0 → HasSucceeded (IsCleanJoined input out) out.before.taken out.after.taken run
  pub dirty : status ≡ 1 → HasFoundDirty (IsDirtyJoined input out) out.before.taken out.after.taken run
  pub flushed : status ≤ 1 → is_followed run ≡ false → out.after.flushes ≡ out.before.flushes + 1
  -- of every input that begins with the bytes that came
  pub refused : status ≡ 2 → HasRefused (OfInput input IsRefused) run
  pub used : status ≡ 3 → HasReadNothing run
  pub left_out : status ≡ 6 → HasLeftOut out.before.taken out.after.taken run
  -- it is 5 only where a device failed, took none of some bytes, or could not be opened, and any other only where
  -- none did
  pub device : status ≡ 5 → is_opened run ≡ true → (ReaderFailed input ⊎ (0 < file_failures run)) ⊎ WriterFailed out
  pub kept : status ≢ 5 → ReaderNeverFailed input × (file_failures run ≡ 0) × WriterNeverFailed out
  -- of what is followed what was told before stands
  pub unwritten : 2 ≤ status → status ≤ 4 → is_followed run ≡ false → TookNothing out
  -- also of input that never ends
  pub most : GivesFew input × OfFiles run (λ file. length (moved_by file) ≤ MAX_INPUT + CHUNK)
  -- of devices in memory: what came is the next of what the reader had left, and all of it where the reader was at its
  -- end; and what went out stands behind what the writer held
  pub known : GivesNext input
  pub held : StandsBehind out
  pub statuses : status ≤ 6
