-- Which words ask for which run.
use Rattle.std.specs.Prelude.{◌≡◌, ◌↔◌, ◌⊎◌, ◌≤◌, ℕ, Bool, true, false, List, [], ◌∷◌, Option, Some, None, Ok, Err, codes, option_map, slice_get, ⊤}
use Rattle.tuple_text.specs.Reading.{tuple_at}
use Rattle.tuple_text.specs.Tuples.{TupleValue}
use Rattle.tuple_text.specs.declared.fault.TupleFault.{TupleFault}
use Rattle.command_line.specs.Asked.{AreTaken, AskForHelp, Asked, IsAskedBy, Write, is_plain_word}
use Rattle.command_line.specs.Asked as asked
use Rattle.audit.specs.Shared.{are_within_limits}
use Rattle.new_enemy.specs.Files.{IsToldHistory}
use Rattle.new_enemy.specs.Opened.{file_of, path_of}
use Rattle.new_enemy.specs.declared.carrying.Handed.{Handed}
use Rattle.new_enemy.specs.declared.carrying.Handed.TheVariants as handed
use Rattle.new_enemy.specs.declared.run.Ran.{Ran}
use Rattle.new_enemy.specs.declared.run.Ran.TheVariants as ran

-- a run without its files: there was no memory for it, or one of them could not be opened
abbrev pub IsHindered : ℕ → Type 0
IsHindered status = (status ≡ 4) ⊎ (status ≡ 5)

-- the files of an audit were opened: it is refused, with status 3, exactly where a number is outside its limits
abbrev pub KeepsLimits : (workers slice status : ℕ) → Type 0
KeepsLimits workers slice status = status ≡ 3 ↔ (are_within_limits workers slice ≡ false)

-- the trace of the file that this path names was audited by evidence from that of the other, with these numbers of
-- workers and of entries in a slice, or that was hindered
abbrev pub RanAudit : {F : Type 0} → (t e : List ℕ) (workers slice status : ℕ) → Ran F → Type 0
RanAudit t e workers slice status (ran.Audited trace evidence) =
    (path_of trace ≡ t) × (path_of evidence ≡ e) × KeepsLimits workers slice status
RanAudit t e workers slice status ran.Nothing = IsHindered status
RanAudit t e workers slice status _ = ⊥

-- a trace was audited by evidence that was made for it
abbrev pub RanAuditAlone : {F : Type 0} → (t : List ℕ) (workers slice status : ℕ) → Ran F → Type 0
RanAuditAlone t workers slice status (ran.AuditedAlone trace) = (path_of trace ≡ t) × KeepsLimits workers slice status
RanAuditAlone t workers slice status ran.Nothing = IsHindered status
RanAuditAlone t workers slice status _ = ⊥

-- evidence was made for a trace
abbrev pub RanMake : {F : Type 0} → List ℕ → ℕ → Ran F → Type 0
RanMake t status (ran.Made trace) = path_of trace ≡ t
RanMake t status ran.Nothing = IsHindered status
RanMake t status _ = ⊥

-- a trace was followed
abbrev pub RanFollow : {F : Type 0} → List ℕ → ℕ → Ran F → Type 0
RanFollow t status (ran.Followed trace) = path_of trace ≡ t
RanFollow t status ran.Nothing = IsHindered status
RanFollow t status _ = ⊥

-- what was handed on: a carry where a path is given, to the file of that path, or the run was stopped
abbrev pub IsHandedTo : {F : Type 0} → Option (List ℕ) → ℕ → Handed F → Type 0
IsHandedTo path status handed.Nothing = (path ≡ None) ⊎ ((2 ≤ status) × (status ≤ 5))
IsHandedTo path status handed.NotMade = status ≡ 5
IsHandedTo path status (handed.Made made) = path ≡ Some (path_of made)

-- a trace was followed behind the carry of the second path, where there is one, and a carry handed on to the third
abbrev pub RanOn : {F : Type 0} → List ℕ → Option (List ℕ) → Option (List ℕ) → ℕ → Ran F → Type 0
RanOn t from carry status (ran.WentOn trace begun to) =
    (path_of trace ≡ t) × (option_map path_of begun ≡ from) × IsHandedTo carry status to
RanOn t from carry status ran.Nothing = IsHindered status
RanOn t from carry status _ = ⊥

-- the tuple's history went out, where the status is 0
abbrev pub RanHistoryOf : {F : Type 0} → List ℕ → TupleValue → (old new : List ℕ) → ℕ → Ran F → Type 0
RanHistoryOf t tuple old new status (ran.Told trace) =
    (path_of trace ≡ t) × (status ≡ 0 → IsToldHistory tuple (file_of trace) old new)
RanHistoryOf t tuple old new status _ = ⊥

-- so it was with the tuple that has this text; or it is the text of no tuple
abbrev pub RanHistory : {F : Type 0} → (t text old new : List ℕ) → ℕ → Ran F → Type 0
RanHistory t text old new status ran.Nothing =
    ((status ≡ 2) × (f : TupleFault) × (tuple_at text ≡ Err f)) ⊎ IsHindered status
RanHistory t text old new status run =
    (tuple : TupleValue) × (tuple_at text ≡ Ok tuple) × RanHistoryOf t tuple old new status run

-- the run is what a request asks for
abbrev pub RanAsked : {F : Type 0} → Asked → (old new : List ℕ) → ℕ → Ran F → Type 0
RanAsked asked.joined old new status run = run ≡ ran.Joined
RanAsked (asked.audits t (Some e) workers slice early) old new status run = RanAudit t e workers slice status run
RanAsked (asked.audits t None workers slice early) old new status run = RanAuditAlone t workers slice status run
RanAsked (asked.makes t list) old new status run = RanMake t status run
RanAsked (asked.tells t u) old new status run = RanHistory t u old new status run
RanAsked (asked.follows t None None oldest versions heartbeat) old new status run = RanFollow t status run
RanAsked (asked.follows t from carry oldest versions heartbeat) old new status run = RanOn t from carry status run

-- something was read, or was to be
abbrev pub HasRead : {F : Type 0} → Ran F → Type 0
HasRead (ran.Shown text) = ⊥
HasRead ran.Nothing = ⊥
HasRead _ = ⊤

-- a text was shown in the place of an answer
abbrev pub is_shown : {F : Type 0} → Ran F → Bool
is_shown (ran.Shown text) = true
is_shown _ = false

-- the run is of the command that the word names, and of joined input where there is no word
abbrev pub IsOfCommand : {F : Type 0} → Option (List ℕ) → Ran F → Type 0
IsOfCommand word ran.Joined = word ≡ None
IsOfCommand word (ran.Audited trace evidence) = word ≡ Some (codes "audit")
IsOfCommand word (ran.AuditedAlone trace) = word ≡ Some (codes "audit")
IsOfCommand word (ran.Made trace) = word ≡ Some (codes "make")
IsOfCommand word (ran.Told trace) = word ≡ Some (codes "history")
IsOfCommand word (ran.Followed trace) = word ≡ Some (codes "follow")
IsOfCommand word (ran.WentOn trace from to) = word ≡ Some (codes "follow")
IsOfCommand word (ran.Shown text) = ⊤
IsOfCommand word ran.Nothing = ⊤

-- The run is what its words ask for: a writer took `new` in all, of which it had `old` before. A plain word does not
-- begin with a hyphen; without options there are one worker and slices of 64 entries.
pub record IsAsked {F : Type 0} (words : List (List ℕ)) (old new : List ℕ) (status : ℕ) (run : Ran F) : Type 0 where
  pub audit : (t e : List ℕ) → words ≡ codes "audit" ∷ t ∷ e ∷ [] → is_plain_word t ≡ true → is_plain_word e ≡ true
      → RanAudit t e 1 64 status run
  pub audit_made : (t : List ℕ) → words ≡ codes "audit" ∷ t ∷ codes "--make" ∷ [] → is_plain_word t ≡ true
      → RanAuditAlone t 1 64 status run
  pub make : (t : List ℕ) → words ≡ codes "make" ∷ t ∷ [] → is_plain_word t ≡ true → RanMake t status run
  pub history : (t u : List ℕ) → words ≡ codes "history" ∷ t ∷ u ∷ [] → is_plain_word t ≡ true → is_plain_word u ≡ true
      → RanHistory t u old new status run
  pub follow : (t : List ℕ) → words ≡ codes "follow" ∷ t ∷ [] → is_plain_word t ≡ true → RanFollow t status run
  -- without a word more it follows standard input
  pub follow_input : words ≡ codes "follow" ∷ [] → RanFollow (codes "/dev/stdin") status run
  -- of all words that clap takes, whatever their number: what they write is what is run
  pub taken : AreTaken words → (a : Asked) → Write words a → RanAsked a old new status run
  -- a text is shown in its place only where help or the version is asked for
  pub shown : is_shown run ≡ true → AskForHelp words
  -- of all words whatever
  pub first : IsOfCommand (slice_get words 0) run
  -- and where something was read, what was run is what clap finds in the words, with the tuple and the numbers there
  pub found : HasRead run → (a : Asked) × IsAskedBy words a × RanAsked a old new status run
