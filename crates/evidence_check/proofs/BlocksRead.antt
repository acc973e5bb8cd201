-- What lines of evidence say, put into judgements, is what its records make of them one after the other.
use Rattle.std.proofs.Common.{◌≡◌, ℕ, List, Option, Result, sym, ap, ◌∙◌}
use Rattle.json_lines.specs.InputRead.{LinesRead}
use Rattle.json_lines.specs.declared.reading.LineFault.{LineFault}
use Rattle.line_blocks.specs.Parts.{taken_by}
use Rattle.trace_lines.specs.Values.{TraceValue, entry_lines}
use Rattle.evidence_check.specs.Judging.{no_judgements}
use Rattle.evidence_check.specs.Records.{Judgements}
use Rattle.evidence_check.specs.declared.cause.EvidenceCause.{EvidenceCause}
use Rattle.evidence_check.specs.Verdicts.{put_verdict, verdict_told}
use Rattle.line_blocks.proofs.Alike.{read_alike}
use Rattle.evidence_check.proofs.Verdicts.{all_alike, evidence_taken}

pub as_records : {R T : Type 0} (given : R → List ℕ) (ends failures : R → ℕ) (remaining : R → Option (List ℕ))
    (trace t : TraceValue) (lines : List ℕ) (old new : R) (start now : Judgements)
    (result : Result T (LineFault EvidenceCause))
    → t ≡ trace → lines ≡ entry_lines trace.entries → start ≡ no_judgements trace
    → LinesRead given ends failures remaining (taken_by (verdict_told t lines) (λ _. put_verdict)) old new start now result
    → LinesRead given ends failures remaining evidence_taken old new start now result
as_records given ends failures remaining trace t lines old new start now result same_trace same_lines is read =
    read_alike given ends failures remaining evidence_taken (taken_by (verdict_told t lines) (λ _. put_verdict)) old new
    start now result
    (λ whole input. all_alike t lines whole start input
    (ap (λ (j : Judgements). j.trace) is ∙ sym same_trace, ap (λ (j : Judgements). j.lines) is ∙ sym same_lines)) read
