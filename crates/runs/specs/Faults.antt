-- What a function answered of a carry, beside what its items make.
use Rattle.std.specs.Prelude.{ℕ, Bool, true, false, Result, Ok, Err}
use Rattle.refusals.specs.Refusals as refusals
use Rattle.trace_lines.specs.declared.cause.Cause.{Cause}
use Rattle.runs.specs.declared.fault.BeginFault.{BeginFault}
use Rattle.runs.specs.declared.fault.BeginFault.TheVariants.{OutOfOrder, Refused, OutOfMemory}

abbrev pub is_memory : BeginFault → Bool
is_memory (OutOfOrder item) = false
is_memory (Refused item cause) = false
is_memory OutOfMemory = true

-- what a function answered, as `view` sees it, is what the items make, running out of memory apart
abbrev pub Gives : {X Y : Type 0} → (X → Y) → Result X BeginFault → Result Y BeginFault → Type 0
Gives view result read = refusals.Gives is_memory view result read

-- the cause for which an item of this number is refused
abbrev pub refused_at : {A : Type 0} → ℕ → Result A Cause → Result A BeginFault
refused_at item (Ok a) = Ok a
refused_at item (Err cause) = Err (Refused item cause)
