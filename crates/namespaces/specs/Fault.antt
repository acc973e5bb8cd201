-- What a call answers of a namespace, beside what the specification gives.
use Rattle.std.specs.Prelude.{Bool, true, false, Option, Result}
use Rattle.refusals.specs.Refusals as refusals
use Rattle.namespaces.specs.declared.fault.RulesFault.{RulesFault}
use Rattle.namespaces.specs.declared.fault.RulesFault.TheVariants.{Shape, OutOfMemory}

abbrev pub is_memory : RulesFault → Bool
is_memory OutOfMemory = true
is_memory _ = false

-- what is not there is a fault of shape
abbrev pub needed : {A : Type 0} → Option A → Result A RulesFault
needed o = refusals.needed Shape o

-- A fault that was answered is the one that the specification gives, unless memory ran out.
abbrev pub Fails : {Y : Type 0} → RulesFault → Result Y RulesFault → Type 0
Fails e given = refusals.Fails is_memory e given

-- What a call answered, seen by `view`, is what the specification gives, unless memory ran out.
abbrev pub Gives : {X Y : Type 0} → (X → Y) → Result X RulesFault → Result Y RulesFault → Type 0
Gives view result given = refusals.Gives is_memory view result given
