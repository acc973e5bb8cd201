-- What a function answered of a text, beside what reading it gives.
use Rattle.std.specs.Prelude.{Bool, true, false, Result}
use Rattle.refusals.specs.Refusals as refusals
use Rattle.tuple_text.specs.declared.fault.TupleFault.{TupleFault}
use Rattle.tuple_text.specs.declared.fault.TupleFault.TheVariants.{OutOfMemory, Namespace, ObjectId, Relation, User}

abbrev pub is_memory : TupleFault → Bool
is_memory (Namespace at) = false
is_memory (ObjectId at) = false
is_memory (Relation at) = false
is_memory (User at) = false
is_memory OutOfMemory = true

-- a fault that was answered is the one that reading gives, running out of memory apart
abbrev pub Fails : {Y : Type 0} → TupleFault → Result Y TupleFault → Type 0
Fails e read = refusals.Fails is_memory e read

-- what a function answered, as `view` sees it, is what reading gives, running out of memory apart
abbrev pub Gives : {X Y : Type 0} → (X → Y) → Result X TupleFault → Result Y TupleFault → Type 0
Gives view result read = refusals.Gives is_memory view result read

-- the same of a function that takes no memory, so that each fault is the one that reading gives
abbrev pub Tells : {X Y : Type 0} → (X → Y) → Result X TupleFault → Result Y TupleFault → Type 0
Tells view result read = refusals.Gives (λ e. false) view result read
