-- What a function answered of a whole carry, beside what reading it gives.
use Rattle.std.specs.Prelude.{ℕ, ◌+◌, ◌-◌, Bool, true, false, Result, Ok, Err}
use Rattle.refusals.specs.Refusals as refusals
use Rattle.carry.specs.declared.fault.CarryFault.{CarryFault}
use Rattle.carry.specs.declared.fault.CarryFault.TheVariants as faults
use Rattle.carry.specs.declared.fault.FieldFault.{FieldFault}
use Rattle.carry.specs.declared.fault.FieldFault.TheVariants.{OutOfMemory, Left}

abbrev pub is_memory : CarryFault → Bool
is_memory faults.Foreign = false
is_memory faults.Cut = false
is_memory faults.Changed = false
is_memory (faults.Malformed at) = false
is_memory faults.OutOfMemory = true

-- what a function answered, as `view` sees it, is what reading gives, running out of memory apart
abbrev pub Gives : {X Y : Type 0} → (X → Y) → Result X CarryFault → Result Y CarryFault → Type 0
Gives view result read = refusals.Gives is_memory view result read

-- the same of a function that takes no memory
abbrev pub Tells : {X Y : Type 0} → (X → Y) → Result X CarryFault → Result Y CarryFault → Type 0
Tells view result read = refusals.Gives (λ e. false) view result read

-- the fault of a field, in a body of so many bytes that begins behind the first line
abbrev pub fault_placed : ℕ → FieldFault → CarryFault
fault_placed len OutOfMemory = faults.OutOfMemory
fault_placed len (Left left) = faults.Malformed (18 + (len - left))

abbrev pub placed : {A : Type 0} → ℕ → Result A FieldFault → Result A CarryFault
placed len (Ok a) = Ok a
placed len (Err e) = Err (fault_placed len e)
