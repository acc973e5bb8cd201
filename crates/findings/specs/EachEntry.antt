-- What a report says of each entry by itself, whatever is found on the others.
use Rattle.std.specs.Prelude.{◌≡◌, ◌⊎◌, ℕ, ◌<◌, ◌≤◌, List, Option, true, Ok, Some, All, Contains, IsTrue, IfSome, IsSomeAnd}
use Rattle.trace_lines.specs.Traces.{trace_of}
use Rattle.trace_lines.specs.Values.{EntryValue, TraceValue}
use Rattle.trace_lines.specs.Versions.{Version, entry_version, version_named}
use Rattle.trace_lines.specs.declared.entry.EntryKind.TheVariants.{Check, Content}
use Rattle.token_order.specs.Denied.{IsContentOf}
use Rattle.token_order.specs.Found.{is_token_of}
use Rattle.token_order.specs.Order.{IsLatest, IsClosed, IsFresh, IssuesItsSnapshot}
use Rattle.evidence_check.specs.Reading.{evidence_of}
use Rattle.evidence_check.specs.Members.{IsRight}
use Rattle.evidence_check.specs.Steps.{StepValue}
use Rattle.findings.specs.Findings.{findings_of}
use Rattle.findings.specs.NewEnemy.{IsCheckOf, HasSeen}
use Rattle.findings.specs.declared.finding.Finding.{Finding}
use Rattle.findings.specs.declared.finding.What.{What}
use Rattle.findings.specs.declared.finding.What.TheVariants.{Stale, OldToken, NotLatest, OpenSnapshot, WrongToken, UnknownVersion, NoEvidence, BadEvidence, Silent, WrongReply}

-- ---- what is wrong with an entry is on its line

abbrev pub IsTold : List Finding → ℕ → What → Type 0
IsTold findings line what = Contains findings (record { line = line; what = what })

-- a finding on the reply's evidence, or that the reply is wrong
abbrev pub IsReplyTold : List Finding → ℕ → Type 0
IsReplyTold findings line =
    IsTold findings line NoEvidence
    ⊎ (((k : ℕ) × IsTold findings line (BadEvidence k))
    ⊎ (IsTold findings line Silent ⊎ IsTold findings line WrongReply))

-- Of each finding: what it is named for holds of the entry, or it is told on the entry's line.
pub record IsToldOf (t : TraceValue) (findings : List Finding) (e : EntryValue) : Type 0 where
  -- F1: the check's snapshot reaches its zookie
  pub fresh : e.kind ≡ Check → IfSome e.zookie (λ z. z.at ≤ e.snapshot) ⊎ IsTold findings e.line Stale
  -- F2: the check's zookie demands the snapshot of the content check that issued its version
  pub demanded : (line : ℕ) (c : EntryValue) → IsContentOf t e line c
      → IsSomeAnd e.zookie (λ z. c.snapshot ≤ z.at) ⊎ ((l : ℕ) × IsTold findings e.line (OldToken l))
  -- F3: the content check is latest
  pub latest : e.kind ≡ Content → IsLatest t e ⊎ ((l : ℕ) × IsTold findings e.line (NotLatest l))
  -- F4: the entry is closed
  pub closed : IsClosed t e ⊎ ((l : ℕ) × IsTold findings e.line (OpenSnapshot l))
  -- F5: a content check that was authorized issued a token of content that carries its snapshot
  pub token : e.kind ≡ Content → IsTrue e.reply
      → IsTrue (is_token_of e.snapshot e.zookie) ⊎ IsTold findings e.line WrongToken
  -- F6: an earlier content check issued the version that the check names
  pub known : (v : Version) → version_named e.kind (entry_version e) ≡ Some v
      → ((line : ℕ) × (c : EntryValue) × IsContentOf t e line c) ⊎ IsTold findings e.line UnknownVersion
  -- F7 to F10: the reply is what the rules mean
  pub right : IsRight t e ⊎ IsReplyTold findings e.line

-- ---- an entry on whose line nothing is found

abbrev pub IsCleanLine : List Finding → ℕ → Type 0
IsCleanLine findings line = All (λ f. ¬ (f.line ≡ line)) findings

-- Its reply is right, and its tokens are in order as far as its own line can say. A check is fresh where nothing is
-- found on the line of the content check that issued its version either, and it then saw every change before that.
pub record IsSoundEntry (t : TraceValue) (findings : List Finding) (e : EntryValue) : Type 0 where
  pub right : IsRight t e
  pub closed : IsClosed t e
  pub latest : e.kind ≡ Content → IsLatest t e
  pub issued : e.kind ≡ Content → IsTrue e.reply → IssuesItsSnapshot e
  pub reaches_zookie : e.kind ≡ Check → IfSome e.zookie (λ z. z.at ≤ e.snapshot)
  pub reaches_content : e.kind ≡ Check → (v : Version) → version_named e.kind (entry_version e) ≡ Some v
      → (line : ℕ) × (c : EntryValue) × IsContentOf t e line c × (c.snapshot ≤ e.snapshot)
  pub fresh : e.kind ≡ Check → ((c : EntryValue) → IsCheckOf t e c → IsCleanLine findings c.line) → IsFresh t e
  pub seen : (c : EntryValue) → IsCheckOf t e c → IsCleanLine findings c.line → HasSeen t e c

-- what a clean verdict says of a trace, of one entry
pub record IsRightAndFreshEntry (t : TraceValue) (e : EntryValue) : Type 0 where
  pub right : IsRight t e
  pub closed : IsClosed t e
  pub latest : e.kind ≡ Content → IsLatest t e
  pub issued : e.kind ≡ Content → IsTrue e.reply → IssuesItsSnapshot e
  pub fresh : e.kind ≡ Check → IsFresh t e

-- ---- each entry

pub record SpeaksOfEachEntry (t : TraceValue) (findings : List Finding) : Type 0 where
  -- what is wrong with an entry is told on its line
  pub told : All (IsToldOf t findings) t.entries
  -- so an entry on whose line nothing is told is sound
  pub sound : All (λ e. IsCleanLine findings e.line → IsSoundEntry t findings e) t.entries
  -- and before the first line of which anything is told, all entries are right and fresh
  pub before : (n : ℕ) → All (λ f. n < f.line) findings → All (λ e. e.line ≤ n → IsRightAndFreshEntry t e) t.entries

-- the bytes say a trace and evidence for it, and the findings on them speak so
abbrev pub TellsOfEachEntry : List ℕ → List ℕ → Type 0
TellsOfEachEntry a b =
    (t : TraceValue) × (given : List (Option (List StepValue))) × (trace_of true a ≡ Ok t)
    × (evidence_of t.entries true b ≡ Ok given)
    × SpeaksOfEachEntry t (findings_of t given)
