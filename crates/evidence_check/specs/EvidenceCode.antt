-- The code of what is read so far, which a model asks for.
use Rattle.std.specs.Prelude.{◌≡◌, ℕ, ◌==◌, ◌⊎◌, List, Option, if◌then◌else◌, refl}
use Rattle.std.proofs.Common.{inl, inr}
use Rattle.std.specs.Coded.{Coded, code_by, coded×, coded⊎, coded_ℕ, coded_list, coded_option}
use Rattle.tuple_text.specs.Tuples.{FactValue}
use Rattle.snapshots.specs.Codes.{fact_code}
use Rattle.trace_lines.specs.TraceCode.{trace_code}
use Rattle.trace_lines.specs.Values.{TraceValue}
use Rattle.evidence_check.specs.Records.{Records, Judgements}
use Rattle.evidence_check.specs.Steps.{StepValue, yes_step, no_step}
use Rattle.evidence_check.specs.declared.judged.Judged.{Judged}
use Rattle.evidence_check.specs.declared.judged.Judged.TheVariants as by

abbrev step_parts : StepValue → FactValue ⊎ List FactValue
step_parts (yes_step f) = inl f
step_parts (no_step fs) = inr fs

abbrev step_of : FactValue ⊎ List FactValue → StepValue
step_of (inl f) = yes_step f
step_of (inr fs) = no_step fs

pub step_of-step_parts : (s : StepValue) → step_of (step_parts s) ≡ s
step_of-step_parts (yes_step f) = refl
step_of-step_parts (no_step fs) = refl

abbrev pub steps_code : Coded (List (Option (List StepValue)))
steps_code = coded_list (coded_option
    (coded_list (code_by (FactValue ⊎ List FactValue) (coded⊎ fact_code (coded_list fact_code)) step_parts step_of
    step_of-step_parts)))

abbrev pub records_code : Coded Records
records_code =
    code_by (List ℕ × List (Option (List StepValue))) (coded× (coded_list coded_ℕ) steps_code)
    (λ r. (r.lines, r.steps)) (λ p. record { lines = p.0; steps = p.1 }) (λ _. refl)

abbrev judged_parts : Judged → ℕ ⊎ ℕ
judged_parts by.Supported = inl 0
judged_parts by.Contradicted = inl 1
judged_parts by.Silent = inl 2
judged_parts by.Missing = inl 3
judged_parts (by.Bad k) = inr k

abbrev judged_of : ℕ ⊎ ℕ → Judged
judged_of (inl n) = if n == 0 then by.Supported
    else (if n == 1 then by.Contradicted else (if n == 2 then by.Silent else by.Missing))
judged_of (inr k) = by.Bad k

pub judged_of-judged_parts : (j : Judged) → judged_of (judged_parts j) ≡ j
judged_of-judged_parts by.Supported = refl
judged_of-judged_parts by.Contradicted = refl
judged_of-judged_parts by.Silent = refl
judged_of-judged_parts by.Missing = refl
judged_of-judged_parts (by.Bad k) = refl

abbrev pub judgements_code : Coded Judgements
judgements_code =
    code_by (TraceValue × (List ℕ × List Judged))
    (coded× trace_code (coded× (coded_list coded_ℕ)
    (coded_list (code_by (ℕ ⊎ ℕ) (coded⊎ coded_ℕ coded_ℕ) judged_parts judged_of judged_of-judged_parts))))
    (λ j. (j.trace, (j.lines, j.judgements))) (λ p. record { trace = p.0; lines = p.1.0; judgements = p.1.1 })
    (λ _. refl)
