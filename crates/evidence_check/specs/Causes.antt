-- Reading a record in steps, where the first fault ends it, and what a function answers of it.
use Rattle.std.specs.Prelude.{Bool, true, false, Result, Ok, Err}
use Rattle.refusals.specs.Refusals as refusals
use Rattle.tuple_text.specs.declared.fault.TupleFault.{TupleFault}
use Rattle.json_lines.specs.declared.lines.InputFault.{InputFault}
use Rattle.json_lines.specs.declared.lines.InputFault.TheVariants as inputs
use Rattle.evidence_check.specs.declared.cause.EvidenceCause.{EvidenceCause}
use Rattle.evidence_check.specs.declared.cause.EvidenceCause.TheVariants as causes

abbrev pub text_cause : {A : Type 0} → Result A TupleFault → Result A EvidenceCause
text_cause (Ok x) = Ok x
text_cause (Err e) = Err (causes.Text e)

-- what the input did
abbrev pub of_input : InputFault → EvidenceCause
of_input inputs.Read = causes.Read
of_input inputs.TooLong = causes.TooLong
of_input inputs.OutOfMemory = causes.OutOfMemory

abbrev pub is_memory : EvidenceCause → Bool
is_memory causes.OutOfMemory = true
is_memory _ = false

abbrev pub is_read : EvidenceCause → Bool
is_read causes.Read = true
is_read _ = false

-- what a function answered, as `view` sees it, is what reading gives, running out of memory apart
abbrev pub Gives : {X Y : Type 0} → (X → Y) → Result X EvidenceCause → Result Y EvidenceCause → Type 0
Gives view result read = refusals.Gives is_memory view result read
