-- What the program answers of files, by all that they gave.
use Rattle.std.specs.Prelude.{◌≡◌, ℕ, ◌+◌, List, Option, Some, None, ⊤}
use Rattle.devices.specs.Devices.{moved_by, failures_of, stops_of}
use Rattle.devices.specs.declared.counted.Counted.{Counted}
use Rattle.tuple_text.specs.Tuples.{TupleValue}
use Rattle.audit.specs.Audit.{Audits}
use Rattle.findings.specs.EachEntry.{TellsOfEachEntry}
use Rattle.findings.specs.Headline.{IsTraceRightAndFresh}
use Rattle.findings.specs.WrongReplies.{NamesOnlyWrongReplies}
use Rattle.audit.specs.History.{TellsHistory}
use Rattle.audit.specs.Made.{MakesRecords}
use Rattle.audit.specs.MadeAudit.{AuditsMade, SpeaksOfMade}
use Rattle.audit.specs.declared.plain.Verdict.{Verdict}
use Rattle.follow.specs.Following.{Follows}
use Rattle.audit.specs.declared.plain.Verdict.TheVariants.{Clean, Dirty}
use Rattle.new_enemy.specs.Opened.{file_of}
use Rattle.new_enemy.specs.Run.{SayNoTrace, SayNoAudit, OfEveryInput}
use Rattle.new_enemy.specs.declared.carrying.Handed.{Handed}
use Rattle.new_enemy.specs.declared.carrying.Handed.TheVariants as handed
use Rattle.new_enemy.specs.declared.opened.Opened.{Opened}
use Rattle.new_enemy.specs.declared.run.Ran.{Ran}
use Rattle.new_enemy.specs.declared.run.Ran.TheVariants as ran

-- All that the two files gave, to their ends, is a trace and evidence for it, and what a writer took is the report on
-- them, with this verdict; a reply that a finding calls wrong is wrong; and of each entry by itself, what is wrong with
-- it is told on its line.
abbrev pub IsAudit : {F : Type 0} → Verdict → (List ℕ → Type 0) → Counted F → Counted F → List ℕ → List ℕ → Type 0
IsAudit v OfTrace trace evidence old new =
    (stops_of trace ≡ 1) × (stops_of evidence ≡ 1)
    × Audits (moved_by trace) (moved_by evidence) old new v
    × NamesOnlyWrongReplies (moved_by trace) (moved_by evidence)
    × TellsOfEachEntry (moved_by trace) (moved_by evidence) × OfTrace (moved_by trace)

-- and the trace is right and fresh
abbrev pub IsCleanAudit : {F : Type 0} → Counted F → Counted F → List ℕ → List ℕ → Type 0
IsCleanAudit trace evidence old new = IsAudit Clean IsTraceRightAndFresh trace evidence old new

abbrev pub IsDirtyAudit : {F : Type 0} → Counted F → Counted F → List ℕ → List ℕ → Type 0
IsDirtyAudit trace evidence old new = IsAudit Dirty (λ a. ⊤) trace evidence old new

-- All that the file gave, to its end, is a trace, and what a writer took is the report on it and on evidence that was
-- made for it, with this verdict; and whatever evidence is made, what holds of the findings by that (`SpeaksOfMade`).
abbrev pub IsAuditMade : {F : Type 0} → Verdict → (List ℕ → Type 0) → Counted F → List ℕ → List ℕ → Type 0
IsAuditMade v OfTrace trace old new =
    (stops_of trace ≡ 1) × AuditsMade (moved_by trace) old new v × SpeaksOfMade (moved_by trace)
    × OfTrace (moved_by trace)

-- and the trace is right and fresh
abbrev pub IsCleanAuditMade : {F : Type 0} → Counted F → List ℕ → List ℕ → Type 0
IsCleanAuditMade trace old new = IsAuditMade Clean IsTraceRightAndFresh trace old new

abbrev pub IsDirtyAuditMade : {F : Type 0} → Counted F → List ℕ → List ℕ → Type 0
IsDirtyAuditMade trace old new = IsAuditMade Dirty (λ a. ⊤) trace old new

-- All that the file gave, to its end, is a trace, and what a writer took is what was told of it as it came, with this
-- verdict: what is found on it by evidence that was made, each finding once; and `SpeaksOfMade`, as of an audit.
abbrev pub IsFollowing : {F : Type 0} → Verdict → (List ℕ → Type 0) → Counted F → List ℕ → List ℕ → Type 0
IsFollowing v OfTrace trace old new =
    (stops_of trace ≡ 1) × Follows (moved_by trace) old new v × SpeaksOfMade (moved_by trace) × OfTrace (moved_by trace)

-- and the trace is right and fresh
abbrev pub IsCleanFollowing : {F : Type 0} → Counted F → List ℕ → List ℕ → Type 0
IsCleanFollowing trace old new = IsFollowing Clean IsTraceRightAndFresh trace old new

abbrev pub IsDirtyFollowing : {F : Type 0} → Counted F → List ℕ → List ℕ → Type 0
IsDirtyFollowing trace old new = IsFollowing Dirty (λ a. ⊤) trace old new

-- all that the file gave, to its end, is a trace, and what a writer took is the tuple's history in it
abbrev pub IsToldHistory : {F : Type 0} → TupleValue → Counted F → List ℕ → List ℕ → Type 0
IsToldHistory tuple trace old new = (stops_of trace ≡ 1) × ((n : ℕ) × TellsHistory (moved_by trace) tuple old new n)

-- all that the file gave, to its end, is a trace, and what a writer took is the records that are made for it
abbrev pub IsMadeEvidence : {F : Type 0} → Counted F → List ℕ → List ℕ → Type 0
IsMadeEvidence trace old new = (stops_of trace ≡ 1) × ((lines : List ℕ) × MakesRecords (moved_by trace) old new lines)

-- no trace begins with what the file gave; where the file was at its end, that is none
abbrev pub IsNoTrace : {F : Type 0} → Counted F → Type 0
IsNoTrace trace = OfEveryInput trace SayNoTrace

-- so it is of the two files, or with what the second gave no evidence for the trace begins
abbrev pub IsNoAudit : {F : Type 0} → Counted F → Counted F → Type 0
IsNoAudit trace evidence = OfEveryInput trace (λ a. OfEveryInput evidence (λ b. SayNoAudit a b))

-- how often the file of a carry failed, where there is one
abbrev pub failures_from : {F : Type 0} → Option (Opened F) → ℕ
failures_from None = 0
failures_from (Some from) = failures_of (file_of from)

-- the same of one that a carry went to, or it took none of some bytes
abbrev pub failures_to : {F : Type 0} → Handed F → ℕ
failures_to (handed.Made made) = failures_of (file_of made) + stops_of (file_of made)
failures_to _ = 0

-- how often the files of a run failed
abbrev pub file_failures : {F : Type 0} → Ran F → ℕ
file_failures (ran.Audited trace evidence) = failures_of (file_of trace) + failures_of (file_of evidence)
file_failures (ran.AuditedAlone trace) = failures_of (file_of trace)
file_failures (ran.Made trace) = failures_of (file_of trace)
file_failures (ran.Told trace) = failures_of (file_of trace)
file_failures (ran.Followed trace) = failures_of (file_of trace)
file_failures (ran.WentOn trace from to) = (failures_of (file_of trace) + failures_from from) + failures_to to
file_failures ran.Joined = 0
file_failures (ran.Shown text) = 0
file_failures ran.Nothing = 0

-- what holds of each file that a run read
abbrev pub OfFiles : {F : Type 0} → Ran F → (Counted F → Type 0) → Type 0
OfFiles (ran.Audited trace evidence) P = P (file_of trace) × P (file_of evidence)
OfFiles (ran.AuditedAlone trace) P = P (file_of trace)
OfFiles (ran.Made trace) P = P (file_of trace)
OfFiles (ran.Told trace) P = P (file_of trace)
OfFiles (ran.Followed trace) P = P (file_of trace)
OfFiles (ran.WentOn trace None to) P = P (file_of trace)
OfFiles (ran.WentOn trace (Some from) to) P = P (file_of trace) × P (file_of from)
OfFiles ran.Joined P = ⊤
OfFiles (ran.Shown text) P = ⊤
OfFiles ran.Nothing P = ⊤
