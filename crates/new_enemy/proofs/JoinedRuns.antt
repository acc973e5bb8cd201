-- What a run on joined input says, from what the audit of it answered.
use Rattle.std.proofs.Common.{◌≡◌, ◌≢◌, inl, inr, ℕ, true, List, [], ◌∷◌, Result, Ok, Err, refl, arith}
use Rattle.devices.proofs.Given.{of_input-map, of_input-whole, of_whole-map}
use Rattle.trace_lines.specs.Traces.{trace_of}
use Rattle.evidence_check.specs.Reading.{evidence_of}
use Rattle.audit.specs.Audit.{Audits, RefusesTrace, RefusesEvidence}
use Rattle.audit.specs.Devices.{Reader, Reading, Writing, OfInput}
use Rattle.audit.specs.Joined.{AuditedJoined, OfBothParts, OfParts, HasNoParts}
use Rattle.audit.specs.Kinds.{IsOneOf}
use Rattle.audit.specs.Kinds as kind
use Rattle.audit.specs.declared.plain.AuditFault.{AuditFault}
use Rattle.audit.specs.declared.plain.AuditFault.TheVariants as faults
use Rattle.audit.specs.declared.plain.Verdict.{Verdict}
use Rattle.audit.specs.declared.plain.Verdict.TheVariants.{Clean, Dirty}
use Rattle.findings.specs.EachEntry.{TellsOfEachEntry}
use Rattle.findings.specs.WrongReplies.{NamesOnlyWrongReplies}
use Rattle.new_enemy.specs.Run.{IsStatus, IsStatusOf, SayNoAudit, IsRefused}
use Rattle.new_enemy.specs.Runs.{RunsJoined, IsCleanJoined, IsDirtyJoined}
use Rattle.new_enemy.proofs.DeviceStatuses.{unwritten_by}
use Rattle.new_enemy.proofs.Statuses.{Ends, answer_of, ends_at_limits, ends_few, failed_by, of_clean, of_dirty, of_no_device, said_by_trace, said_by_evidence, two_or_five, verdict_ends}
use Rattle.audit.proofs.KindLemmas.{never_answered}
use Rattle.audit.proofs.Readers.{unwritten_without_device}

module _ (input : Reading) (out : Writing) (s : ℕ) where
  -- the parts of a whole input that are refused
  of_parts : (P : List ℕ → List ℕ → Type 0) → OfBothParts input P → ((a b : List ℕ) → P a b → SayNoAudit a b)
      → OfInput input IsRefused
  of_parts P h f =
      let given = λ (r : Reader). r.given in
      let ends = λ (r : Reader). r.ends in
      of_input-whole given ends input.before input.after IsRefused
      (of_whole-map given ends input.before input.after (OfParts P) IsRefused
      (λ came p. inr (p.0, p.1, p.2, p.3, f p.0 p.1 p.4)) h)

  refused : (fault : AuditFault) → IsStatus fault s → s ≡ 2 → AuditedJoined input out (Err fault)
      → OfInput input IsRefused
  refused (faults.Trace f) (inl p) two h = two_or_five s two p.1
  refused (faults.Trace f) (inr p) two h =
      of_parts (λ a b. RefusesTrace a f) (h.trace_refused f refl)
      (λ a b by. inl (f, said_by_trace f.cause f (trace_of true a) p.0 h.kinds.1 by))
  refused (faults.Evidence f) (inl p) two h = two_or_five s two p.1
  refused (faults.Evidence f) (inr p) two h =
      of_parts (λ a b. RefusesEvidence a b f) (h.evidence_refused f refl)
      (λ a b r. inr (r.0, r.1, f, said_by_evidence f.cause f (evidence_of r.0.entries true b) p.0 h.kinds.1 r.2))
  refused (faults.Write n) five two h = two_or_five s two five
  refused faults.OutOfMemory four two h = absurd (omega (arith, four, two))
  refused faults.Limits three two h = absurd (omega (arith, three, two))
  refused faults.Joined same two h =
      of_input-map (λ (r : Reader). r.given) (λ (r : Reader). r.ends) input.before input.after HasNoParts IsRefused
      (λ came none. inl none) (h.joined refl)
  refused faults.Input five two h = two_or_five s two five

  -- the reader is blamed only by a fault of the input
  input_unblamed : (e : AuditFault) → IsStatus e s → s ≢ 5
      → ◌≢◌ {A = Result Verdict AuditFault} (Err e) (Err faults.Input)
  input_unblamed faults.Input five other is = other five
  input_unblamed (faults.Trace f) st other is = cc (is)
  input_unblamed (faults.Evidence f) st other is = cc (is)
  input_unblamed (faults.Write n) st other is = cc (is)
  input_unblamed faults.OutOfMemory st other is = cc (is)
  input_unblamed faults.Limits st other is = cc (is)
  input_unblamed faults.Joined st other is = cc (is)

  runs_answer : (answer : Result Verdict AuditFault) → Ends answer s → (s ≡ 0 → IsCleanJoined input out)
      → (s ≡ 1 → IsDirtyJoined input out) → AuditedJoined input out answer → RunsJoined input out s
  runs_answer (Ok v) ends clean dirty h =
      record {
        clean = clean;
        dirty = dirty;
        flushed = λ one. h.flushed;
        refused = λ two. absurd (omega (arith, two, ends));
        device = λ five. absurd (omega (arith, five, ends));
        kept = λ other. (h.kept (λ is. absurd (cc (is))), h.out_kept);
        unwritten = λ two four. absurd (omega (arith, two, ends));
        most = h.most;
        known = h.known;
        held = h.held;
        statuses = (omega (arith, ends), λ three. omega (arith, three, ends));
      }
  runs_answer (Err e) ends clean dirty h =
      record {
        clean = clean;
        dirty = dirty;
        flushed = λ one. absurd (omega (arith, one, ends.0));
        refused = λ two. refused e ends.1 two h;
        device = λ five. failed_by e s _ _ _ _ ends.1 five h.devices (λ failed. inl failed) (λ none. absurd none)
            (λ none. absurd none) (λ failed. inr failed);
        kept = λ other. (
          h.kept (input_unblamed e ends.1 other),
          h.out_unfailed (unwritten_without_device e (of_no_device e s ends.1 other)),
        );
        unwritten = λ two four. h.unwritten (unwritten_by e s ends.1 four);
        most = h.most;
        known = h.known;
        held = h.held;
        statuses = (
          ends_few {V = Verdict} (Err e) s ends,
          λ three. never_answered
              (kind.trace ∷ kind.evidence ∷ kind.write ∷ kind.memory ∷ kind.joined ∷ kind.input ∷ []) e faults.Limits
              refl h.kinds (ends_at_limits {V = Verdict} (Err e) s ends three),
        );
      }

  pub runs_joined : (answer : Result Verdict AuditFault) → IsStatusOf answer s → AuditedJoined input out answer
      → RunsJoined input out s
  runs_joined answer st h =
      runs_answer answer (verdict_ends answer s st)
      (λ zero.
      let is : answer ≡ Ok Clean = of_clean answer s st zero in (
        answer_of answer Clean (λ v. OfBothParts input (λ a b. Audits a b out.before.taken out.after.taken v)) is
            h.audits,
        answer_of answer Clean (λ v. OfBothParts input NamesOnlyWrongReplies) is h.wrong_replies,
        answer_of answer Clean (λ v. OfBothParts input TellsOfEachEntry) is h.entries,
        h.headline is,
      ))
      (λ one.
      let is : answer ≡ Ok Dirty = of_dirty answer s st one in (
        answer_of answer Dirty (λ v. OfBothParts input (λ a b. Audits a b out.before.taken out.after.taken v)) is
            h.audits,
        answer_of answer Dirty (λ v. OfBothParts input NamesOnlyWrongReplies) is h.wrong_replies,
        answer_of answer Dirty (λ v. OfBothParts input TellsOfEachEntry) is h.entries,
      )) h
