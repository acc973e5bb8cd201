-- What the status of a call tells of the devices, from what the call answered.
use Rattle.std.proofs.Common.{◌≡◌, ◌≢◌, inl, inr, ℕ, ◌+◌, ◌≤◌, true, List, [], ◌++◌, Option, Result, Ok, Err, refl, sym, ap, subst, ◌∙◌, arith, length}
use Rattle.std.proofs.lemmas.Bool.{true≢false}
use Rattle.devices.specs.Devices.{moved_by, failures_of, stops_of}
use Rattle.devices.specs.declared.counted.Counted.{Counted}
use Rattle.json_lines.specs.declared.lines.TheConstants.{CHUNK}
use Rattle.json_lines.specs.declared.reading.TheConstants.{MAX_INPUT}
use Rattle.audit.specs.Answers.{TellsOfTrace, Audited}
use Rattle.audit.specs.Audit.{IsNotWrite}
use Rattle.audit.specs.Devices.{Writer, Writing, reads, GivesFew}
use Rattle.audit.specs.declared.plain.AuditFault.{AuditFault}
use Rattle.audit.specs.declared.plain.Verdict.{Verdict}
use Rattle.audit.proofs.Readers.{behind_at_rest, unwritten_without_device}
use Rattle.new_enemy.specs.Files.{OfFiles, file_failures}
use Rattle.new_enemy.specs.Opened.{IsUnused, file_of}
use Rattle.follow.specs.Following.{Followed}
use Rattle.new_enemy.specs.Outcomes.{SaysOfDevices, is_followed}
use Rattle.new_enemy.specs.Run.{IsStatus}
use Rattle.new_enemy.specs.declared.opened.Opened.{Opened}
use Rattle.new_enemy.specs.declared.run.Ran.{Ran}
use Rattle.new_enemy.specs.declared.run.Ran.TheVariants as ran
use Rattle.new_enemy.proofs.Statuses.{Ends, failed_by, of_no_device}

pub unwritten_by : (e : AuditFault) (s : ℕ) → IsStatus e s → s ≤ 4 → IsNotWrite e
unwritten_by e s is few = unwritten_without_device e (of_no_device e s is (λ five. omega (arith, five, few)))

module _ {F : Type 0} (left : Counted F → Option (List ℕ)) where
  -- what a file gave in all
  pub few_in_all : (old new : Counted F) → moved_by old ≡ [] → GivesFew (reads moved_by stops_of failures_of left old new)
      → length (moved_by new) ≤ MAX_INPUT + CHUNK
  few_in_all old new nothing h =
      let all : moved_by new ≡ h.0 = h.1 ∙ ap (λ (l : List ℕ). l ++ h.0) nothing in
      subst (λ (l : List ℕ). length l ≤ MAX_INPUT + CHUNK) (sym all) h.2

  module _ (a0 a1 : Counted F) (unused : IsUnused a0) (out : Writing) (s : ℕ) (run : Ran F)
      (opened : run ≢ ran.Nothing) where
    -- of a call that reads a trace alone
    pub devices_of_trace : {V : Type 0} (Tells : List ℕ → List ℕ → List ℕ → V → Type 0)
        (Breaks : List ℕ → Writing → ℕ → Type 0) (answer : Result V AuditFault)
        → file_failures run ≡ failures_of a1 → ((P : Counted F → Type 0) → P a1 → OfFiles run P) → Ends answer s
        → TellsOfTrace Tells Breaks (reads moved_by stops_of failures_of left a0 a1) out answer
        → SaysOfDevices s run out
    devices_of_trace Tells Breaks (Ok v) count each ends h =
        record {
          flushed = λ _ _. h.flushed;
          device = λ five. absurd (omega (arith, five, ends));
          kept = λ _. (omega (arith, count, h.kept.0, unused.2), h.kept.1);
          unwritten = λ two. absurd (omega (arith, two, ends));
          most = each (λ file. length (moved_by file) ≤ MAX_INPUT + CHUNK) (few_in_all a0 a1 unused.0 h.most);
          held = h.held;
        }
    devices_of_trace Tells Breaks (Err e) count each ends h =
        record {
          flushed = λ one. absurd (omega (arith, one, ends.0));
          device = λ five _. failed_by e s _ _ _ _ ends.1 five h.devices (λ none. absurd none)
              (λ risen. inl (omega (arith, count, risen))) (λ none. absurd none) (λ failed. inr failed);
          kept = λ other.
              let none = h.unfailed (of_no_device e s ends.1 other) in
              (omega (arith, count, none.0, unused.2), none.1);
          unwritten = λ two four _. h.unwritten (unwritten_by e s ends.1 four);
          most = each (λ file. length (moved_by file) ≤ MAX_INPUT + CHUNK) (few_in_all a0 a1 unused.0 h.most);
          held = h.held;
        }

    -- of one that follows a trace
    pub devices_of_follow : (answer : Result Verdict AuditFault) → file_failures run ≡ failures_of a1
        → ((P : Counted F → Type 0) → P a1 → OfFiles run P) → is_followed run ≡ true → Ends answer s
        → Followed (reads moved_by stops_of failures_of left a0 a1) out answer → SaysOfDevices s run out
    devices_of_follow (Ok v) count each followed ends h =
        record {
          flushed = λ _ not. absurd (true≢false (sym followed ∙ not));
          device = λ five. absurd (omega (arith, five, ends));
          kept = λ _. (omega (arith, count, h.run.kept.0, unused.2), h.run.kept.1);
          unwritten = λ two. absurd (omega (arith, two, ends));
          most = each (λ file. length (moved_by file) ≤ MAX_INPUT + CHUNK) (few_in_all a0 a1 unused.0 h.run.most);
          held = h.run.held;
        }
    devices_of_follow (Err e) count each followed ends h =
        record {
          flushed = λ one. absurd (omega (arith, one, ends.0));
          device = λ five _. failed_by e s _ _ _ _ ends.1 five h.run.devices (λ none. absurd none)
              (λ risen. inl (omega (arith, count, risen))) (λ none. absurd none) (λ failed. inr failed);
          kept = λ other.
              let none = h.run.unfailed (of_no_device e s ends.1 other) in
              (omega (arith, count, none.0, unused.2), none.1);
          unwritten = λ _ _ not. absurd (true≢false (sym followed ∙ not));
          most = each (λ file. length (moved_by file) ≤ MAX_INPUT + CHUNK) (few_in_all a0 a1 unused.0 h.run.most);
          held = h.run.held;
        }

  -- of one that reads evidence too
  pub devices_of_audit : (a0 b0 : Counted F) (x y : Opened F) (out : Writing) (s : ℕ) (answer : Result Verdict AuditFault)
      → IsUnused a0 → IsUnused b0 → Ends answer s
      → Audited (reads moved_by stops_of failures_of left a0 (file_of x)) (reads moved_by stops_of failures_of left b0 (file_of y)) out
      answer → SaysOfDevices s (ran.Audited x y) out
  devices_of_audit a0 b0 x y out s (Ok v) unused unused_yet ends h =
      record {
        flushed = λ _ _. h.flushed;
        device = λ five. absurd (omega (arith, five, ends));
        kept = λ _. (omega (arith, h.kept.0, h.kept.1, unused.2, unused_yet.2), h.kept.2);
        unwritten = λ two. absurd (omega (arith, two, ends));
        most = (few_in_all a0 (file_of x) unused.0 h.most.0, few_in_all b0 (file_of y) unused_yet.0 h.most.1);
        held = h.held;
      }
  devices_of_audit a0 b0 x y out s (Err e) unused unused_yet ends h =
      record {
        flushed = λ one. absurd (omega (arith, one, ends.0));
        device = λ five _. failed_by e s _ _ _ _ ends.1 five h.devices (λ none. absurd none)
            (λ risen. inl (omega (arith, risen))) (λ risen. inl (omega (arith, risen))) (λ failed. inr failed);
        kept = λ other.
            let none = h.unfailed (of_no_device e s ends.1 other) in
            (omega (arith, none.0, none.1, unused.2, unused_yet.2), none.2);
        unwritten = λ two four _. h.unwritten (unwritten_by e s ends.1 four);
        most = (few_in_all a0 (file_of x) unused.0 h.most.0, few_in_all b0 (file_of y) unused_yet.0 h.most.1);
        held = h.held;
      }

-- where no file was opened
pub devices_of_nothing : {F : Type 0} (s : ℕ) (w : Writer) → 2 ≤ s
    → SaysOfDevices {F = F} s ran.Nothing (record { before = w; after = w })
devices_of_nothing s w two =
    record {
      flushed = λ one. absurd (omega (arith, one, two));
      device = λ five opened. absurd (true≢false (sym opened));
      kept = λ other. (refl, (refl, refl));
      unwritten = λ least most _. refl;
      most = tt;
      held = behind_at_rest w;
    }
