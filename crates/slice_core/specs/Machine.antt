-- What a clause says of the core.
use Rattle.std.specs.Prelude.{◌≡◌, ℕ, map, Option, Some, None, slice_set, ⊤}
use Rattle.slice_core.specs.Places.{State}
use Rattle.slice_core.specs.declared.machine.Core.{Core}

-- where each slice stands
abbrev pub state_of : Core → State
state_of c = record { lanes = map (λ d. d.items) c.lanes.items; hands = c.hands.items; done = c.done.items; lost = c.lost.items }

-- there is no such hand, or it is empty
abbrev pub IsIdle : Option (Option ℕ) → Type 0
IsIdle None = ⊤
IsIdle (Some None) = ⊤
IsIdle (Some (Some x)) = ⊥

-- the same with that hand empty
pub record WithoutHand (w : ℕ) (before after : Core) : Type 0 where
  pub lanes : after.lanes ≡ before.lanes
  pub hands : after.hands.items ≡ slice_set before.hands.items w None
  pub done : after.done ≡ before.done
  pub lost : after.lost ≡ before.lost
