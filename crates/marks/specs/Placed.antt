-- Places in a list that grows, counted from 1, and walks from the newest back.
use Rattle.std.specs.Prelude.{◌≡◌, ◌≤◌, ◌-◌, ◌^◌, ℕ, zero, suc, Bool, false, List, [], ◌∷◌, length, nat_eq, slice_get, Option, None, Some, cond}

-- how many places there may be, so that each is a number of 32 bits
abbrev pub most : ℕ
most = 2 ^ 32 - 1

abbrev pub passes : {X : Type 0} → (X → Bool) → Option X → Bool
passes p None = false
passes p (Some x) = p x

-- the last of the first n places whose item passes; 0 where there is none
abbrev pub last_place : {X : Type 0} → (X → Bool) → List X → ℕ → ℕ
last_place p xs zero = 0
last_place p xs (suc n) = cond (passes p (slice_get xs n)) (suc n) (last_place p xs n)

abbrev pub in_front : {X : Type 0} → (X → Bool) → Option X → List X → List X
in_front p None rest = rest
in_front p (Some x) rest = cond (p x) (x ∷ rest) rest

-- the items that pass at the first n places, the last first
abbrev pub newest_first : {X : Type 0} → (X → Bool) → List X → ℕ → List X
newest_first p xs zero = []
newest_first p xs (suc n) = in_front p (slice_get xs n) (newest_first p xs n)

-- the indices at which a mark stands among the first n, the last first
abbrev pub indices_of : ℕ → List ℕ → ℕ → List ℕ
indices_of mark marks zero = []
indices_of mark marks (suc n) = cond (passes (nat_eq mark) (slice_get marks n)) (n ∷ indices_of mark marks n) (indices_of mark marks n)

-- a place to which links lead, from the newest item that passes the test `linked` to the one before it, and so on
abbrev pub IsLinkedPlace : {X : Type 0} → (X → Bool) → List X → ℕ → Type 0
IsLinkedPlace linked xs place = (n : ℕ) × (n ≤ length xs) × (place ≡ last_place linked xs n)

-- such a walk, behind which no item is left that passes the test `wanted`
pub record IsWalk {X : Type 0} (linked wanted : X → Bool) (xs : List X) (place : ℕ) : Type 0 where
  pub on : IsLinkedPlace linked xs place
  pub left : newest_first wanted xs (length xs) ≡ newest_first wanted xs place
