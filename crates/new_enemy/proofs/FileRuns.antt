-- What a run of a command says, from what its call answered.
use Rattle.std.proofs.Common.{◌≡◌, ◌≢◌, ℕ, ◌+◌, ◌≤◌, List, [], ◌∷◌, ◌++◌, Option, Some, Result, Ok, Err, codes, refl, sym, ap, subst, ◌∙◌, arith}
use Rattle.std.specs.Prelude.{IfErr, OnOk}
use Rattle.devices.specs.Devices.{moved_by, failures_of, stops_of}
use Rattle.devices.specs.Given as given
use Rattle.devices.specs.declared.counted.Counted.{Counted}
use Rattle.audit.specs.Answers.{TellsOfTrace, Audited, AuditedMade}
use Rattle.audit.specs.Audit.{Audits}
use Rattle.audit.specs.Devices.{Reading, Writer, Writing, OfBoth, OfWhole, reads}
use Rattle.audit.specs.Kinds.{IsOneOf}
use Rattle.audit.specs.Kinds as kind
use Rattle.audit.specs.MadeAudit.{AuditsMade, BreaksMade, SpeaksOfMade}
use Rattle.audit.specs.declared.plain.Verdict.{Verdict}
use Rattle.audit.specs.declared.plain.Verdict.TheVariants.{Clean, Dirty}
use Rattle.audit.specs.declared.plain.AuditFault.{AuditFault}
use Rattle.audit.specs.declared.plain.AuditFault.TheVariants as faults
use Rattle.audit.proofs.KindLemmas.{kinds-more, never_answered}
use Rattle.findings.specs.EachEntry.{TellsOfEachEntry}
use Rattle.findings.specs.Headline.{IsTraceRightAndFresh}
use Rattle.findings.specs.WrongReplies.{NamesOnlyWrongReplies}
use Rattle.follow.specs.Following.{Followed, Follows}
use Rattle.new_enemy.specs.Files.{OfFiles, file_failures, IsNoTrace, IsCleanAudit, IsDirtyAudit, IsCleanAuditMade, IsDirtyAuditMade, IsCleanFollowing, IsDirtyFollowing}
use Rattle.new_enemy.specs.Opened.{IsUnused, file_of}
use Rattle.new_enemy.specs.Outcomes.{HasSucceeded, HasFoundDirty, HasRefused, HasReadNothing}
use Rattle.new_enemy.specs.Run.{IsStatusOf, IsStatusDone}
use Rattle.new_enemy.specs.Runs.{RunsFiles}
use Rattle.new_enemy.specs.Words.{IsOfCommand}
use Rattle.new_enemy.specs.declared.opened.Opened.{Opened}
use Rattle.new_enemy.specs.declared.run.Done.{Done}
use Rattle.new_enemy.specs.declared.run.Ran.{Ran}
use Rattle.new_enemy.specs.declared.run.Ran.TheVariants as ran
use Rattle.new_enemy.proofs.DeviceStatuses.{devices_of_audit, devices_of_follow, devices_of_nothing, devices_of_trace}
use Rattle.new_enemy.proofs.FileStatuses.{no_audit, no_trace}
use Rattle.new_enemy.proofs.Statuses.{Ends, answer_of, done_ends, done_is_not_one, ends_at_limits, ends_few, of_clean, of_dirty, of_done, verdict_ends}

-- what holds of all that a file gave, whose history began with the call
pub whole : {F : Type 0} (old new : Counted F) (P : List ℕ → Type 0) → IsUnused old
    → given.OfWhole moved_by stops_of old new P → (stops_of new ≡ 1) × P (moved_by new)
whole old new P unused h = (
  h.0 ∙ ap (λ n. n + 1) unused.1,
  subst P (sym (h.1.1 ∙ ap (λ (l : List ℕ). l ++ h.1.0) unused.0)) h.1.2,
)

-- a call without limits answers none
never_limits : {V X : Type 0} (answer : Result V AuditFault)
    → IfErr answer (IsOneOf (kind.trace ∷ kind.write ∷ kind.memory ∷ [])) → answer ≡ Err faults.Limits → X
never_limits (Ok v) kinds is = absurd (cc (is))
never_limits (Err e) kinds is =
    never_answered (kind.trace ∷ kind.write ∷ kind.memory ∷ []) e faults.Limits refl kinds is

module _ {F : Type 0} (left : Counted F → Option (List ℕ)) (a0 : Counted F) (x : Opened F) (unused : IsUnused a0) (out : Writing)
    (s : ℕ) where
  -- of a command that reads a trace alone
  pub runs_of_trace : {V : Type 0} (Tells : List ℕ → List ℕ → List ℕ → V → Type 0)
      (Breaks : List ℕ → Writing → ℕ → Type 0) (answer : Result V AuditFault) (word : List ℕ) (run : Ran F)
      → run ≢ ran.Nothing → file_failures run ≡ failures_of (file_of x)
      → ((P : Counted F → Type 0) → P (file_of x) → OfFiles run P) → (IsNoTrace (file_of x) → HasRefused ⊥ run)
      → IsOfCommand (Some word) run → (s ≡ 0 → HasSucceeded ⊥ out.before.taken out.after.taken run)
      → (s ≡ 1 → HasFoundDirty ⊥ out.before.taken out.after.taken run)
      → (answer ≡ Err faults.Limits → HasReadNothing run) → Ends answer s
      → IfErr answer (IsOneOf (kind.trace ∷ kind.write ∷ kind.memory ∷ kind.limits ∷ []))
      → TellsOfTrace Tells Breaks (reads moved_by stops_of failures_of left a0 (file_of x)) out answer
      → RunsFiles word out s run
  runs_of_trace Tells Breaks answer word run opened count each none command clean dirty unread ends kinds h =
      record {
        command = command;
        clean = clean;
        dirty = dirty;
        refused = λ two. none (no_trace a0 (file_of x) unused.0 unused.1 answer s ends kinds h.trace_refused two);
        used = λ three. unread (ends_at_limits answer s ends three);
        left_out = λ six. absurd (omega (arith, six, ends_few answer s ends));
        devices = devices_of_trace left a0 (file_of x) unused out s run opened Tells Breaks answer count each ends h;
        statuses = omega (arith, ends_few answer s ends);
      }

  -- status 0 says that all was told
  pub told_of_trace : {V : Type 0} (Tells : List ℕ → List ℕ → List ℕ → V → Type 0)
      (Breaks : List ℕ → Writing → ℕ → Type 0) (answer : Result V AuditFault) → IsStatusDone answer s
      → TellsOfTrace Tells Breaks (reads moved_by stops_of failures_of left a0 (file_of x)) out answer → s ≡ 0
      → (stops_of (file_of x) ≡ 1) × ((v : V) × Tells (moved_by (file_of x)) out.before.taken out.after.taken v)
  told_of_trace Tells Breaks answer st h zero =
      let one =
      of_done answer s
      (λ v. OfWhole (reads moved_by stops_of failures_of left a0 (file_of x))
      (λ a. Tells a out.before.taken out.after.taken v)) st zero h.told in
      let all = whole a0 (file_of x) (λ a. Tells a out.before.taken out.after.taken one.0) unused one.1 in
      (all.0, (one.0, all.1))

  -- of a command that tells of a trace
  pub runs_told : {V : Type 0} (Tells : List ℕ → List ℕ → List ℕ → V → Type 0)
      (Breaks : List ℕ → Writing → ℕ → Type 0) (answer : Result V AuditFault) (word : List ℕ) (run : Ran F)
      → run ≢ ran.Nothing → file_failures run ≡ failures_of (file_of x)
      → ((P : Counted F → Type 0) → P (file_of x) → OfFiles run P) → (IsNoTrace (file_of x) → HasRefused ⊥ run)
      → IsOfCommand (Some word) run → (s ≡ 0 → HasSucceeded ⊥ out.before.taken out.after.taken run)
      → IsStatusDone answer s → IfErr answer (IsOneOf (kind.trace ∷ kind.write ∷ kind.memory ∷ []))
      → TellsOfTrace Tells Breaks (reads moved_by stops_of failures_of left a0 (file_of x)) out answer
      → RunsFiles word out s run
  runs_told Tells Breaks answer word run opened count each none command clean st kinds h =
      runs_of_trace Tells Breaks answer word run opened count each none command clean (done_is_not_one answer s st)
      (never_limits answer kinds) (done_ends answer s st)
      (kinds-more (kind.trace ∷ kind.write ∷ kind.memory ∷ [])
      (kind.trace ∷ kind.write ∷ kind.memory ∷ kind.limits ∷ []) refl answer kinds) h

  -- what holds of the findings whatever evidence is made
  spoken : (answer : Result Verdict AuditFault) (v : Verdict) → answer ≡ Ok v
      → OnOk answer (OfWhole (reads moved_by stops_of failures_of left a0 (file_of x)) SpeaksOfMade)
      → SpeaksOfMade (moved_by (file_of x))
  spoken answer v is holds =
      (whole a0 (file_of x) SpeaksOfMade unused (answer_of answer v
      (λ _. OfWhole (reads moved_by stops_of failures_of left a0 (file_of x)) SpeaksOfMade) is holds)).1

  module _ (answer : Result Verdict AuditFault) (st : IsStatusOf answer s)
      (h : AuditedMade (reads moved_by stops_of failures_of left a0 (file_of x)) out answer) where
    made_by : (v : Verdict) → answer ≡ Ok v
        → (stops_of (file_of x) ≡ 1) × AuditsMade (moved_by (file_of x)) out.before.taken out.after.taken v
    made_by v is =
        whole a0 (file_of x) (λ a. AuditsMade a out.before.taken out.after.taken v) unused
        (answer_of answer v
        (λ w. OfWhole (reads moved_by stops_of failures_of left a0 (file_of x))
        (λ a. AuditsMade a out.before.taken out.after.taken w)) is h.of_trace.told)

    clean_made : s ≡ 0 → IsCleanAuditMade (file_of x) out.before.taken out.after.taken
    clean_made zero =
        let is : answer ≡ Ok Clean = of_clean answer s st zero in
        let all = made_by Clean is in (
          all.0,
          all.1,
          spoken answer Clean is h.made,
          (whole a0 (file_of x) IsTraceRightAndFresh unused (h.headline is)).1,
        )

    dirty_made : s ≡ 1 → IsDirtyAuditMade (file_of x) out.before.taken out.after.taken
    dirty_made one =
        let is : answer ≡ Ok Dirty = of_dirty answer s st one in
        let all = made_by Dirty is in (
          all.0,
          all.1,
          spoken answer Dirty is h.made,
          tt,
        )

    -- of an audit by evidence that is made
    pub runs_audit_made : IfErr answer (IsOneOf (kind.trace ∷ kind.write ∷ kind.memory ∷ kind.limits ∷ []))
        → (answer ≡ Err faults.Limits → (file_of x) ≡ a0) → RunsFiles (codes "audit") out s (ran.AuditedAlone x)
    runs_audit_made kinds unread =
        runs_of_trace AuditsMade BreaksMade answer (codes "audit") (ran.AuditedAlone x) (λ is. absurd (cc (is))) refl
        (λ P p. p) (λ none. none) refl clean_made dirty_made
        (λ is. ap (λ (file : Counted F). moved_by file) (unread is) ∙ unused.0) (verdict_ends answer s st) kinds
        h.of_trace

  module _ (answer : Result Verdict AuditFault) (st : IsStatusOf answer s)
      (h : Followed (reads moved_by stops_of failures_of left a0 (file_of x)) out answer) where
    followed_by : (v : Verdict) → answer ≡ Ok v
        → (stops_of (file_of x) ≡ 1) × Follows (moved_by (file_of x)) out.before.taken out.after.taken v
    followed_by v is =
        whole a0 (file_of x) (λ a. Follows a out.before.taken out.after.taken v) unused
        (answer_of answer v
        (λ w. OfWhole (reads moved_by stops_of failures_of left a0 (file_of x))
        (λ a. Follows a out.before.taken out.after.taken w)) is h.run.follows)

    clean_following : s ≡ 0 → IsCleanFollowing (file_of x) out.before.taken out.after.taken
    clean_following zero =
        let is : answer ≡ Ok Clean = of_clean answer s st zero in
        let all = followed_by Clean is in
        (all.0, all.1, spoken answer Clean is h.made, (whole a0 (file_of x) IsTraceRightAndFresh unused (h.headline is)).1)

    dirty_following : s ≡ 1 → IsDirtyFollowing (file_of x) out.before.taken out.after.taken
    dirty_following one =
        let is : answer ≡ Ok Dirty = of_dirty answer s st one in
        let all = followed_by Dirty is in (all.0, all.1, spoken answer Dirty is h.made, tt)

    -- of a trace that is followed
    pub runs_follow : IfErr answer (IsOneOf (kind.trace ∷ kind.write ∷ kind.memory ∷ []))
        → RunsFiles (codes "follow") out s (ran.Followed x)
    runs_follow kinds =
        let ends = verdict_ends answer s st in
        record {
          command = refl;
          clean = clean_following;
          dirty = dirty_following;
          refused = λ two. no_trace a0 (file_of x) unused.0 unused.1 answer s ends
              (kinds-more (kind.trace ∷ kind.write ∷ kind.memory ∷ [])
              (kind.trace ∷ kind.write ∷ kind.memory ∷ kind.limits ∷ []) refl answer kinds) h.run.trace_refused two;
          used = λ three. never_limits answer kinds (ends_at_limits answer s ends three);
          left_out = λ six. absurd (omega (arith, six, ends_few answer s ends));
          devices = devices_of_follow left a0 (file_of x) unused out s (ran.Followed x) (λ is. absurd (cc (is))) answer refl
              (λ P p. p) refl ends h;
          statuses = omega (arith, ends_few answer s ends);
        }

  module _ (b0 : Counted F) (y : Opened F) (unused_yet : IsUnused b0) (answer : Result Verdict AuditFault)
      (st : IsStatusOf answer s)
      (h : Audited (reads moved_by stops_of failures_of left a0 (file_of x))
      (reads moved_by stops_of failures_of left b0 (file_of y)) out answer) where
    abbrev trace : Reading
    trace = reads moved_by stops_of failures_of left a0 (file_of x)

    abbrev evidence : Reading
    evidence = reads moved_by stops_of failures_of left b0 (file_of y)

    -- what holds of both files
    of_files : (P : List ℕ → List ℕ → Type 0) → OfBoth trace evidence P
        → (stops_of (file_of x) ≡ 1) × (stops_of (file_of y) ≡ 1) × P (moved_by (file_of x)) (moved_by (file_of y))
    of_files P h =
        let all = whole a0 (file_of x) (λ a. OfWhole evidence (λ b. P a b)) unused h in
        let both = whole b0 (file_of y) (λ b. P (moved_by (file_of x)) b) unused_yet all.1 in
        (all.0, both.0, both.1)

    audited_by : (v : Verdict) → answer ≡ Ok v
        → (stops_of (file_of x) ≡ 1) × (stops_of (file_of y) ≡ 1)
        × Audits (moved_by (file_of x)) (moved_by (file_of y)) out.before.taken out.after.taken v
    audited_by v is = of_files (λ a b. Audits a b out.before.taken out.after.taken v)
        (answer_of answer v (λ w. OfBoth trace evidence (λ a b. Audits a b out.before.taken out.after.taken w)) is h.audits)

    -- what holds of them whatever the verdict
    told_of : (P : List ℕ → List ℕ → Type 0) (v : Verdict) → answer ≡ Ok v → OnOk answer (OfBoth trace evidence P)
        → P (moved_by (file_of x)) (moved_by (file_of y))
    told_of P v is holds = (of_files P (answer_of answer v (λ _. OfBoth trace evidence P) is holds)).2

    clean_audit : s ≡ 0 → IsCleanAudit (file_of x) (file_of y) out.before.taken out.after.taken
    clean_audit zero =
        let is : answer ≡ Ok Clean = of_clean answer s st zero in
        let all = audited_by Clean is in (
          all.0,
          all.1,
          all.2,
          told_of NamesOnlyWrongReplies Clean is h.wrong_replies,
          told_of TellsOfEachEntry Clean is h.entries,
          (whole a0 (file_of x) IsTraceRightAndFresh unused (h.headline is)).1,
        )

    dirty_audit : s ≡ 1 → IsDirtyAudit (file_of x) (file_of y) out.before.taken out.after.taken
    dirty_audit one =
        let is : answer ≡ Ok Dirty = of_dirty answer s st one in
        let all = audited_by Dirty is in (
          all.0,
          all.1,
          all.2,
          told_of NamesOnlyWrongReplies Dirty is h.wrong_replies,
          told_of TellsOfEachEntry Dirty is h.entries,
          tt,
        )

    -- of an audit by evidence that is read
    pub runs_audit : IfErr answer
        (IsOneOf (kind.trace ∷ kind.evidence ∷ kind.write ∷ kind.memory ∷ kind.limits ∷ []))
        → (answer ≡ Err faults.Limits → ((file_of x) ≡ a0) × ((file_of y) ≡ b0)) → RunsFiles (codes "audit") out s (ran.Audited x y)
    runs_audit kinds unread =
        let ends = verdict_ends answer s st in
        record {
          command = refl;
          clean = clean_audit;
          dirty = dirty_audit;
          refused =
              no_audit a0 (file_of x) unused.0 unused.1 b0 (file_of y) unused_yet.0 unused_yet.1 answer s ends kinds h.trace_refused
              h.evidence_refused;
          used = λ three.
              let same = unread (ends_at_limits answer s ends three) in (
                ap (λ (file : Counted F). moved_by file) same.0 ∙ unused.0,
                ap (λ (file : Counted F). moved_by file) same.1 ∙ unused_yet.0,
              );
          left_out = λ six. absurd (omega (arith, six, ends_few answer s ends));
          devices = devices_of_audit left a0 b0 x y out s answer unused unused_yet ends h;
          statuses = omega (arith, ends_few answer s ends);
        }

-- where no file was opened
pub runs_nothing : {F : Type 0} (word : List ℕ) (s : ℕ) (w : Writer) → 2 ≤ s → s ≤ 5
    → RunsFiles {F = F} word (record { before = w; after = w }) s ran.Nothing
runs_nothing word s w two few =
    record {
      command = tt;
      clean = λ zero. absurd (omega (arith, zero, two));
      dirty = λ one. absurd (omega (arith, one, two));
      refused = λ is. tt;
      used = λ three. tt;
      left_out = λ six. absurd (omega (arith, six, few));
      devices = devices_of_nothing s w two;
      statuses = omega (arith, few);
    }

-- a run that ended so
module _ {F : Type 0} where
  pub runs_done : (word : List ℕ) (d : Done F) (s : ℕ) (w : Writer) → d ≡ record { status = s; read = ran.Nothing } → 2 ≤ s
      → s ≤ 5 → RunsFiles word (record { before = w; after = w }) d.status d.read
  runs_done word d s w is two few =
      subst (λ (x : Done F). RunsFiles word (record { before = w; after = w }) x.status x.read) (sym is)
      (runs_nothing word s w two few)
