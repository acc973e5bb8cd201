use Rattle.std.proofs.Common.{◌≡◌, true, ℕ, List, Option, Ok, sym, ap, subst, ◌∙◌, ◌||◌, refl}
use Rattle.json_lines.specs.Json.{taken_line}
use Rattle.json_lines.specs.Reading.{cause_of, read_all}
use Rattle.json_lines.proofs.InputReads.{answered, unread}
use Rattle.json_lines.proofs.ReadFaults.{retold}
use Rattle.evidence_check.specs.Causes.{of_input, is_memory, is_read}
use Rattle.trace_lines.specs.Values.{EntryValue}
use Rattle.evidence_check.specs.Reading.{evidence_of, faulted, no_records, record_line}
use Rattle.evidence_check.specs.Records.{Records}
use Rattle.evidence_check.specs.Steps.{StepValue}
use Rattle.evidence_check.specs.declared.cause.EvidenceCause.TheVariants as causes
use Rattle.evidence_check.proofs.LineCauses.{readers_own}
use Rattle.evidence_check.proofs.read.read_evidence.Goals as goal

pub returns-in-Err : goal.returns-in-Err
returns-in-Err g c =
    rw c.unbegun.ensures
    (unread _ _ _ _ g.R.Source.given g.R.Source.ends g.R.Source.failures g.R.Read.remaining c.args.reader.now _ refl
    (λ e. cc) (λ input. tt))

-- the steps that were recorded are those that the lines give
as_recorded : (entries : List EntryValue) (start now : Records) (steps : List (Option (List StepValue))) (input : List ℕ)
    → start ≡ no_records entries → steps ≡ now.steps
    → read_all (taken_line causes.NotJson (λ n. record_line)) true start input ≡ Ok now
    → evidence_of entries true input ≡ Ok steps
as_recorded entries start now steps input none same is =
    ap faulted
    (subst (λ (r : Records). read_all (taken_line causes.NotJson (λ n. record_line)) true r input ≡ Ok now) none is)
    ∙ ap (λ (s : List (Option (List StepValue))). Ok s) (sym same)

pub returns-in-Ok-read_lines : goal.returns-in-Ok-read_lines
returns-in-Ok-read_lines g c =
    answered _ _ _ _ _ _ _ _ g.R.Source.given g.R.Source.ends g.R.Source.failures g.R.Read.remaining
    c.args.reader.now c.read_lines.new.reader _ _
    (λ input is. as_recorded _ _ _ _ input c.in-Ok.ensures c.into_steps.ensures is) c.in-Ok-read_lines.ensures.read

pub returns-in-Err-read_lines : goal.returns-in-Err-read_lines
returns-in-Err-read_lines g c =
    retold _ of_input faulted (λ e. is_memory e.cause || is_read e.cause) _ _ _ _ g.R.Source.given g.R.Source.ends
    g.R.Source.failures g.R.Read.remaining c.args.reader.now c.read_lines.new.reader c.in-Ok.recorder _
    c.in-Err-read_lines.fault _ (rw c.cause.ensures refl) refl readers_own c.in-Err-read_lines.ensures.told
    (λ e. sym c.cause.ensures ∙ e) (λ stop. c.cause.ensures ∙ ap (cause_of of_input) stop)
    (λ h. rw (c.cause.ensures, h) refl) (λ h. rw (c.cause.ensures, h) refl)
    (λ input h. rw c.in-Ok.ensures at h) (λ came h. rw c.in-Ok.ensures at h) c.in-Err-read_lines.ensures.read
