-- Steps and records of evidence, without where they lie in memory.
use Rattle.std.specs.Prelude.{ℕ, List, map}
use Rattle.tuple_text.specs.FactRefs.{fact_value}
use Rattle.tuple_text.specs.Tuples.{FactValue}
use Rattle.evidence_check.specs.declared.record.RecordRef.{RecordRef}
use Rattle.evidence_check.specs.declared.step.Step.{Step}
use Rattle.evidence_check.specs.declared.step.Step.TheVariants.{Yes, No}
use Rattle.evidence_check.specs.declared.step.StepRef.{StepRef}
use Rattle.evidence_check.specs.declared.step.StepRef.TheVariants.{Yes as RefYes, No as RefNo}

pub data StepValue : Type 0 where
  yes_step : FactValue → StepValue
  no_step : List FactValue → StepValue

abbrev pub step_value : Step → StepValue
step_value (Yes f) = yes_step f
step_value (No fs) = no_step fs.items

abbrev pub step_values : List Step → List StepValue
step_values steps = map step_value steps

-- the step that a borrowed one stands for
abbrev pub borrowed_step : StepRef → StepValue
borrowed_step (RefYes f) = yes_step (fact_value f)
borrowed_step (RefNo fs) = no_step (map fact_value fs.items)

abbrev pub borrowed_steps : List StepRef → List StepValue
borrowed_steps steps = map borrowed_step steps

-- a record by itself: the line that it names, and its steps
pub record RecordValue : Type 0 where
  pub line : ℕ
  pub steps : List StepValue

-- the record that a borrowed one stands for
abbrev pub record_value : RecordRef → RecordValue
record_value r = record { line = r.line; steps = borrowed_steps r.steps.items }
