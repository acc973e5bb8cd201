use Rattle.std.proofs.Common.{◌↔◌}
use Rattle.tuple_text.specs.Refs.{set_value}
use Rattle.tuple_text.specs.Sets.{SetValue}
use Rattle.judgement.specs.AskedFact.{asked_set, tuples_over}
use Rattle.judgement.specs.Passes.{AreOfOneObject, IsObjectStored, SomeSet}
use Rattle.judgement.proofs.leading.stores_object.Given as goal

-- what is left decides
abbrev pub invariant-loop-stored : goal.invariant-loop-stored
invariant-loop-stored g l =
    SomeSet (λ (s : SetValue). AreOfOneObject s (set_value l.other)) l.stored-iterator
    ↔ IsObjectStored (tuples_over l.fact) (asked_set l.fact) (set_value l.other)
