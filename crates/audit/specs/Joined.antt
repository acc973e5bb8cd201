-- Joined input: its two parts, and what an audit of them answers.
use Rattle.std.specs.Prelude.{◌≡◌, ◌≢◌, ℕ, ◌+◌, ◌^◌, ◌<◌, ◌≤◌, ◌⊎◌, List, [], ◌∷◌, length, None, Some, Result, Ok, Err, IfOk, IfErr, OnOk}
use Rattle.json_lines.specs.Joined.{joined_of}
use Rattle.trace_lines.specs.declared.cause.TraceFault.{TraceFault}
use Rattle.evidence_check.specs.declared.cause.EvidenceFault.{EvidenceFault}
use Rattle.findings.specs.EachEntry.{TellsOfEachEntry}
use Rattle.findings.specs.Headline.{IsTraceRightAndFresh}
use Rattle.findings.specs.WrongReplies.{NamesOnlyWrongReplies}
use Rattle.audit.specs.Audit.{Audits, BreaksOffAt, RefusesTrace, RefusesEvidence, BlamesOnly, IsNotWrite}
use Rattle.audit.specs.Devices.{Reading, Writing, OfWhole, OfInput, GivesFew, GivesNext}
use Rattle.audit.specs.Devices.{ReaderFailed, ReaderNeverFailed, WriterFailed, WriterNeverFailed, TookNothing, StandsBehind}
use Rattle.audit.specs.Kinds.{IsOneOf}
use Rattle.audit.specs.Kinds as kind
use Rattle.audit.specs.declared.plain.Verdict.{Verdict}
use Rattle.audit.specs.declared.plain.Verdict.TheVariants.{Clean}
use Rattle.audit.specs.declared.plain.AuditFault.{AuditFault}
use Rattle.audit.specs.declared.plain.AuditFault.TheVariants as faults

-- the input has 2^30 bytes at most, and two parts of which that holds
abbrev pub OfParts : (List ℕ → List ℕ → Type 0) → List ℕ → Type 0
OfParts P input = (a : List ℕ) × (b : List ℕ) × (joined_of input ≡ Some (a, b)) × (length input ≤ 2 ^ 30) × P a b

-- it is no joined input: it has no line that is exactly `---`, or too many bytes
abbrev pub HasNoParts : List ℕ → Type 0
HasNoParts input = (joined_of input ≡ None) ⊎ (2 ^ 30 < length input)

-- it holds of the two parts of the whole input
abbrev pub OfBothParts : Reading → (List ℕ → List ℕ → Type 0) → Type 0
OfBothParts input P = OfWhole input (OfParts P)

-- An audit of joined input: the report is on what its two parts say.
pub record AuditedJoined (input : Reading) (out : Writing) (result : Result Verdict AuditFault) : Type 0 where
  -- the report on the whole input, to the reader's end, went out whole, and the verdict is its last line
  pub audits : IfOk result (λ v. OfBothParts input (λ a b. Audits a b out.before.taken out.after.taken v))
  pub flushed : OnOk result (out.after.flushes ≡ out.before.flushes + 1)
  -- as the headline of `Audited`, of the first part
  pub headline : result ≡ Ok Clean → OfBothParts input (λ a b. IsTraceRightAndFresh a)
  -- whatever the verdict: a reply that a finding F10 calls wrong is wrong
  pub wrong_replies : OnOk result (OfBothParts input NamesOnlyWrongReplies)
  -- and, of each entry by itself, what is wrong with it stands on its line
  pub entries : OnOk result (OfBothParts input TellsOfEachEntry)
  -- A part is refused only once the reader is at its end, and only where the input has the marker, and 2^30 bytes at
  -- most.
  pub trace_refused : (f : TraceFault) → result ≡ Err (faults.Trace f) → OfBothParts input (λ a b. RefusesTrace a f)
  pub evidence_refused : (f : EvidenceFault) → result ≡ Err (faults.Evidence f)
      → OfBothParts input (λ a b. RefusesEvidence a b f)
  -- of every input that begins with the bytes that came
  pub joined : result ≡ Err faults.Joined → OfInput input HasNoParts
  -- the first n bytes went out, and no others; where these are all, a flush was asked for, and else none was
  pub write : (n : ℕ) → result ≡ Err (faults.Write n) → OfBothParts input (λ a b. BreaksOffAt a b out n)
  -- under any other fault nothing was written
  pub unwritten : IfErr result (λ e. IsNotWrite e → TookNothing out)
  -- at most 2^30 + 65,536 bytes came, also from a reader that never ends
  pub most : GivesFew input
  -- of devices in memory: what came is the next of what the reader had left, and all of it where the reader was at its
  -- end; and what went out stands behind what the writer held
  pub known : GivesNext input
  pub held : StandsBehind out
  -- A device is blamed only where it failed, the writer also where it took none of some bytes; any other answer comes
  -- only where it did neither. The four places are the reader of joined input, that of a trace, that of evidence, and
  -- the writer: the parts have no readers of their own, and are never refused with the cause Read.
  pub devices : IfErr result (BlamesOnly (ReaderFailed input) ⊥ ⊥ (WriterFailed out))
  pub kept : result ≢ Err faults.Input → ReaderNeverFailed input
  pub out_kept : OnOk result (WriterNeverFailed out)
  pub out_unfailed : IfErr result (λ e. IsNotWrite e → WriterNeverFailed out)
  pub kinds : IfErr result
      (IsOneOf (kind.trace ∷ kind.evidence ∷ kind.write ∷ kind.memory ∷ kind.joined ∷ kind.input ∷ []))
