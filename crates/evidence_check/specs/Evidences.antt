-- The steps for each entry, without where they lie in memory.
use Rattle.std.specs.Prelude.{ℕ, List, map, slice_get, unwrap_or, Option, None, option_map}
use Rattle.std.specs.declared.vec.Vec.{Vec}
use Rattle.std.specs.declared.alloc.Global.{Global}
use Rattle.evidence_check.specs.Steps.{StepValue, step_values}
use Rattle.evidence_check.specs.declared.step.Step.{Step}
use Rattle.evidence_check.specs.declared.evidence.Evidence.{Evidence}

abbrev pub shown_steps : Option (Vec Step Global) → Option (List StepValue)
shown_steps o = option_map (λ v. step_values v.items) o

abbrev pub all_shown : List (Option (Vec Step Global)) → List (Option (List StepValue))
all_shown os = map shown_steps os

-- the steps that were given for each entry
abbrev pub evidence_value : Evidence → List (Option (List StepValue))
evidence_value e = all_shown e.steps.items

-- those for entry i
abbrev pub steps_of : List (Option (List StepValue)) → ℕ → Option (List StepValue)
steps_of evidence i = unwrap_or (slice_get evidence i) None
