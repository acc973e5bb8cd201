-- What an exit status says of a run, by what it read. A writer took `new` in all, of which it had `old` before; what
-- the status says of joined input is handed in.
use Rattle.std.specs.Prelude.{◌≡◌, ◌≢◌, ◌⊎◌, Bool, true, false, List, [], ◌++◌, length, string_bytes, ℕ, ◌+◌, ◌<◌, ◌≤◌, ⊤}
use Rattle.devices.specs.Devices.{moved_by}
use Rattle.json_lines.specs.declared.lines.TheConstants.{CHUNK}
use Rattle.json_lines.specs.declared.reading.TheConstants.{MAX_INPUT}
use Rattle.tuple_text.specs.Tuples.{TupleValue}
use Rattle.audit.specs.Devices.{Writing, WriterFailed, WriterNeverFailed, TookNothing, StandsBehind}
use Rattle.new_enemy.specs.Files.{OfFiles, file_failures, IsCleanAudit, IsDirtyAudit, IsCleanAuditMade, IsDirtyAuditMade, IsCleanFollowing, IsDirtyFollowing, IsMadeEvidence, IsToldHistory, IsNoTrace, IsNoAudit}
use Rattle.new_enemy.specs.Carrying.{HasNoCarry, IsCleanRunTold, IsDirtyRunTold, IsIncompleteRunTold, IsNoRun}
use Rattle.new_enemy.specs.Opened.{file_of}
use Rattle.new_enemy.specs.declared.carrying.Handed.TheVariants as handed
use Rattle.new_enemy.specs.declared.run.Ran.{Ran}
use Rattle.new_enemy.specs.declared.run.Ran.TheVariants as ran

-- it followed a trace
abbrev pub is_followed : {F : Type 0} → Ran F → Bool
is_followed (ran.Followed trace) = true
is_followed (ran.WentOn trace from to) = true
is_followed _ = false

-- each file that it names was opened, or made
abbrev pub is_opened : {F : Type 0} → Ran F → Bool
is_opened ran.Nothing = false
is_opened (ran.WentOn trace from handed.NotMade) = false
is_opened _ = true

-- status 0: a clean report went out, evidence, or the history of a tuple; or the text of help or of the version did
abbrev pub HasSucceeded : {F : Type 0} → Type 0 → (old new : List ℕ) → Ran F → Type 0
HasSucceeded joined old new ran.Joined = joined
HasSucceeded joined old new (ran.Audited trace evidence) = IsCleanAudit (file_of trace) (file_of evidence) old new
HasSucceeded joined old new (ran.AuditedAlone trace) = IsCleanAuditMade (file_of trace) old new
HasSucceeded joined old new (ran.Made trace) = IsMadeEvidence (file_of trace) old new
HasSucceeded joined old new (ran.Told trace) = (tuple : TupleValue) × IsToldHistory tuple (file_of trace) old new
HasSucceeded joined old new (ran.Followed trace) = IsCleanFollowing (file_of trace) old new
HasSucceeded joined old new (ran.WentOn trace from to) = IsCleanRunTold trace from to old new
HasSucceeded joined old new (ran.Shown text) = new ≡ old ++ string_bytes text
HasSucceeded joined old new ran.Nothing = ⊥

-- status 1: a dirty report went out
abbrev pub HasFoundDirty : {F : Type 0} → Type 0 → (old new : List ℕ) → Ran F → Type 0
HasFoundDirty joined old new ran.Joined = joined
HasFoundDirty joined old new (ran.Audited trace evidence) = IsDirtyAudit (file_of trace) (file_of evidence) old new
HasFoundDirty joined old new (ran.AuditedAlone trace) = IsDirtyAuditMade (file_of trace) old new
HasFoundDirty joined old new (ran.Followed trace) = IsDirtyFollowing (file_of trace) old new
HasFoundDirty joined old new (ran.WentOn trace from to) = IsDirtyRunTold trace from to old new
HasFoundDirty joined old new _ = ⊥

-- status 6: a run told that nothing was found, and not all was audited
abbrev pub HasLeftOut : {F : Type 0} → (old new : List ℕ) → Ran F → Type 0
HasLeftOut old new (ran.WentOn trace from to) = IsIncompleteRunTold trace from to old new
HasLeftOut old new _ = ⊥

-- status 2: what was read is refused; or no file was read, and a word is
abbrev pub HasRefused : {F : Type 0} → Type 0 → Ran F → Type 0
HasRefused joined ran.Joined = joined
HasRefused joined (ran.Audited trace evidence) = IsNoAudit (file_of trace) (file_of evidence)
HasRefused joined (ran.AuditedAlone trace) = IsNoTrace (file_of trace)
HasRefused joined (ran.Made trace) = IsNoTrace (file_of trace)
HasRefused joined (ran.Told trace) = IsNoTrace (file_of trace)
HasRefused joined (ran.Followed trace) = IsNoTrace (file_of trace)
HasRefused joined (ran.WentOn trace from to) = IsNoRun from trace ⊎ HasNoCarry from trace
HasRefused joined (ran.Shown text) = ⊥
HasRefused joined ran.Nothing = ⊤

-- status 3: no file was read
abbrev pub HasReadNothing : {F : Type 0} → Ran F → Type 0
HasReadNothing (ran.Audited trace evidence) = (moved_by (file_of trace) ≡ []) × (moved_by (file_of evidence) ≡ [])
HasReadNothing (ran.AuditedAlone trace) = moved_by (file_of trace) ≡ []
HasReadNothing ran.Nothing = ⊤
HasReadNothing _ = ⊥

-- What a status says of the devices of a run: of its files, and of the writer that its answer goes to.
pub record SaysOfDevices {F : Type 0} (status : ℕ) (run : Ran F) (out : Writing) : Type 0 where
  pub flushed : status ≤ 1 → is_followed run ≡ false → out.after.flushes ≡ out.before.flushes + 1
  -- it is 5 only where a device failed, took none of some bytes, or could not be opened, and any other only where
  -- none did
  pub device : status ≡ 5 → is_opened run ≡ true → (0 < file_failures run) ⊎ WriterFailed out
  pub kept : status ≢ 5 → (file_failures run ≡ 0) × WriterNeverFailed out
  -- of what is followed what was told before stands
  pub unwritten : 2 ≤ status → status ≤ 4 → is_followed run ≡ false → TookNothing out
  -- also of files that never end
  pub most : OfFiles run (λ file. length (moved_by file) ≤ MAX_INPUT + CHUNK)
  pub held : StandsBehind out
