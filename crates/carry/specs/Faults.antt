-- What a function answered of a field, beside what reading it gives.
use Rattle.std.specs.Prelude.{Bool, true, false, Result}
use Rattle.refusals.specs.Refusals as refusals
use Rattle.carry.specs.declared.fault.FieldFault.{FieldFault}
use Rattle.carry.specs.declared.fault.FieldFault.TheVariants.{OutOfMemory, Left}

abbrev pub is_memory : FieldFault → Bool
is_memory OutOfMemory = true
is_memory (Left count) = false

-- what a function answered, as `view` sees it, is what reading gives, running out of memory apart
abbrev pub Gives : {X Y : Type 0} → (X → Y) → Result X FieldFault → Result Y FieldFault → Type 0
Gives view result read = refusals.Gives is_memory view result read

-- the same of a function that takes no memory
abbrev pub Tells : {X Y : Type 0} → (X → Y) → Result X FieldFault → Result Y FieldFault → Type 0
Tells view result read = refusals.Gives (λ e. false) view result read
