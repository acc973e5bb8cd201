-- Judging by the evidence behind the marker of joined input.
use Rattle.std.proofs.Common.{◌≡◌, ◌≢◌, ◌||◌, ℕ, ◌≤◌, true, List, length, Result, Ok, Err, refl, subst}
use Rattle.std.specs.Prelude.{IfErr}
use Rattle.std.specs.declared.vec.Vec.{Vec}
use Rattle.std.specs.declared.alloc.Global.{Global}
use Rattle.json_lines.specs.Joined.{IsTaken}
use Rattle.json_lines.specs.Reading as reading
use Rattle.json_lines.specs.Reading.{cause_of, read_all, IsOfLine, IsOfSomeLine}
use Rattle.json_lines.specs.declared.reading.LineFault.{LineFault}
use Rattle.json_lines.proofs.ReadFaults.{of_line_alone, refused_in_words}
use Rattle.trace_lines.specs.Values.{TraceValue}
use Rattle.evidence_check.specs.Causes.{of_input, is_memory, is_read}
use Rattle.evidence_check.specs.Judging.{GivesJudged, no_judgements}
use Rattle.evidence_check.specs.Reading.{evidence_of}
use Rattle.evidence_check.specs.Records.{Judgements}
use Rattle.evidence_check.specs.declared.cause.EvidenceCause.{EvidenceCause}
use Rattle.evidence_check.specs.declared.cause.EvidenceCause.TheVariants as causes
use Rattle.evidence_check.specs.declared.cause.EvidenceFault.{EvidenceFault}
use Rattle.evidence_check.specs.declared.judged.Judged.{Judged}
use Rattle.evidence_check.proofs.Judgements.{judging, judgements_told, judged_by_evidence, refused_by_evidence, unless_also}
use Rattle.evidence_check.proofs.LineCauses.{judging_own}

abbrev told_of : LineFault EvidenceCause → EvidenceFault
told_of fault = record { line = fault.line; cause = cause_of of_input fault.stop }

-- what was made of lines, as a reading answers it
abbrev Made : Type 0
Made = Result (Unit {0}) (LineFault EvidenceCause)

module _ (given now at_hand : List ℕ) (room : ℕ) (t : TraceValue) (start j : Judgements) (none : start ≡ no_judgements t) (made : Made)
    (h : IsTaken given now at_hand (λ b. (length b ≤ room) × reading.Reads made j (read_all judging true start b))) where
  from_none : (s : Judgements) → s ≡ no_judgements t → (m : Made) → made ≡ m → reading.Reads made j (read_all judging true s h.0) → reading.Reads m j (read_all judging true (no_judgements t) h.0)
  from_none s is m same k = subst (λ (m : Made). reading.Reads m j (read_all judging true (no_judgements t) h.0)) same (subst (λ (s : Judgements). reading.Reads made j (read_all judging true s h.0)) is k)

  pub judged_behind : (u : Unit {0}) (v : Vec Judged Global) → made ≡ Ok u → v.items ≡ j.judgements
      → IsTaken given now at_hand (λ b. (length b ≤ room) × GivesJudged t (Ok v) (evidence_of t.entries true b))
  judged_behind u v is same = (h.0, h.1, (h.2.0, rw same (judged_by_evidence t h.0 j (from_none start none (Ok u) is h.2.1))))

  pub refused_behind : (fault : LineFault EvidenceCause) → made ≡ Err fault
      → IsTaken given now at_hand (λ b. (length b ≤ room) × GivesJudged t (Err (told_of fault)) (evidence_of t.entries true b))
  refused_behind fault is = (
    h.0,
    h.1,
    (
      h.2.0,
      unless_also (is_memory (told_of fault).cause || is_read (told_of fault).cause) _ _ (refused_by_evidence t true h.0 (told_of fault))
          (refused_in_words judgements_told (λ e. is_memory e.cause || is_read e.cause) fault (told_of fault) (read_all judging true (no_judgements t) h.0) refl (λ is. rw is refl) (λ is. rw is refl)
          (from_none start none (Err fault) is h.2.1)),
    ),
  )

pub behind_by_lines : (made : Made) (fault : LineFault EvidenceCause) → made ≡ Err fault → IfErr made (λ e. IsOfLine e.stop × IsOfSomeLine judging e) → cause_of of_input fault.stop ≢ causes.Read
behind_by_lines made fault is h =
    let of = subst (λ (m : Made). IfErr m (λ e. IsOfLine e.stop × IsOfSomeLine judging e)) is h in
    of_line_alone judging of_input fault judging_own of.0 of.1
