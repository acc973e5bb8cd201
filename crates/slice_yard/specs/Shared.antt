-- The lanes of a yard that was closed.
use Rattle.std.specs.Prelude.{◌≡◌, ℕ, ◌+◌, ◌<◌, List, [], ◌∷◌, length, sum_by, Contains, slice_set, slice_index_or}
use Rattle.slice_yard.specs.declared.slices.Slice.{Slice}
use Rattle.slice_yard.specs.declared.rule.Hand.{Hand}
use Rattle.slice_yard.specs.declared.lane.Thief.{Thief}
use Rattle.slice_yard.specs.Hands.{owner_hand, handed_rest, IsShared}
use Rattle.slice_yard.specs.Lane.{thief_hand_of}
use Rattle.slice_core.specs.Named.{named_from}
use Rattle.slice_yard.specs.Yard.{lists_of, with_lists}

-- nothing is left of the lane: its lists, merged, and then what was handed out since it was closed, are its opening list
abbrev pub IsSpent : Hand → Type 0
IsSpent v = IsShared v v.opening

-- each lane with the lists of its thieves
abbrev pub closed_hands : List Hand → List Thief → List Hand
closed_hands hs ts = named_from (λ l. with_lists (lists_of l ts) (slice_index_or hs l owner_hand)) 0 (length hs)

-- the slice was put into one of the lanes, and now stands last in what was handed out of that lane
pub record HandedLeft (before after : List Hand) (x : Slice) : Type 0 where
  pub lane : ℕ
  pub is_lane : lane < length before
  pub hand : after ≡ slice_set before lane (handed_rest (slice_index_or before lane owner_hand) (x ∷ []))
  pub put_in : Contains (slice_index_or before lane owner_hand).opening x

-- h of each slice that was handed to a pass, added up
abbrev pub handed_sum : (Slice → ℕ) → Hand → ℕ
handed_sum h v = sum_by h v.handed

abbrev pub thieves_sum : (Slice → ℕ) → List Thief → ℕ
thieves_sum h ts = sum_by (λ t. handed_sum h (thief_hand_of t)) ts

-- the same of the lists that a lane has: its owner's, and those of the thieves that were joined
abbrev pub lists_sum : (Slice → ℕ) → Hand → ℕ
lists_sum h v = sum_by h v.handed + sum_by (λ l. sum_by h l) v.closed

-- the lists and what was handed out since the lane was closed hold each slice of the opening list once: however slices are weighed, they weigh the same
abbrev pub HasEachOnce : Hand → Type 0
HasEachOnce v = (h : Slice → ℕ) → sum_by h v.opening ≡ lists_sum h v + sum_by h v.rest
