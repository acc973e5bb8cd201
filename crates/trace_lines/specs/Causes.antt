-- Reading a line in steps, where the first fault ends it, and what a function answers of it.
use Rattle.std.specs.Prelude.{Bool, true, false, Option, Result, Ok, Err}
use Rattle.refusals.specs.Refusals as refusals
use Rattle.tuple_text.specs.declared.fault.TupleFault.{TupleFault}
use Rattle.zookie.specs.declared.fault.ZookieFault.{ZookieFault}
use Rattle.namespaces.specs.declared.fault.RulesFault.{RulesFault}
use Rattle.json_lines.specs.declared.lines.InputFault.{InputFault}
use Rattle.json_lines.specs.declared.lines.InputFault.TheVariants as inputs
use Rattle.trace_lines.specs.declared.cause.Cause.{Cause}
use Rattle.trace_lines.specs.declared.cause.Cause.TheVariants as causes

-- what a wrong shape refuses
abbrev pub needed : {A : Type 0} → Option A → Result A Cause
needed o = refusals.needed causes.Shape o

abbrev pub text_cause : {A : Type 0} → Result A TupleFault → Result A Cause
text_cause (Ok x) = Ok x
text_cause (Err e) = Err (causes.Text e)

abbrev pub token_cause : {A : Type 0} → Result A ZookieFault → Result A Cause
token_cause (Ok x) = Ok x
token_cause (Err e) = Err (causes.Token e)

abbrev pub namespace_cause : {A : Type 0} → Result A RulesFault → Result A Cause
namespace_cause (Ok x) = Ok x
namespace_cause (Err e) = Err (causes.Namespace e)

-- what the input did
abbrev pub of_input : InputFault → Cause
of_input inputs.Read = causes.Read
of_input inputs.TooLong = causes.TooLong
of_input inputs.OutOfMemory = causes.OutOfMemory

abbrev pub is_memory : Cause → Bool
is_memory causes.OutOfMemory = true
is_memory _ = false

abbrev pub is_read : Cause → Bool
is_read causes.Read = true
is_read _ = false

-- a cause that was answered is the one that reading gives, running out of memory apart
abbrev pub Fails : {Y : Type 0} → Cause → Result Y Cause → Type 0
Fails e read = refusals.Fails is_memory e read

-- what a function answered, as `view` sees it, is what reading gives, running out of memory apart
abbrev pub Gives : {X Y : Type 0} → (X → Y) → Result X Cause → Result Y Cause → Type 0
Gives view result read = refusals.Gives is_memory view result read
