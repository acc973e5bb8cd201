-- The rule of a lane. Its history is a list of who was handed which slice, in the order in which they left the deque.
use Rattle.std.specs.Prelude.{◌≡◌, ℕ, suc, ◌+◌, ◌<◌, ◌==◌, true, false, List, [], ◌∷◌, ◌++◌, length, if◌then◌else◌, slice_index_or, Contains}
use mathlib.Core.Option.{some}
use lib.ListN.{get_elem?}
use Rattle.slice_yard.specs.declared.slices.Slice.{Slice}
use Rattle.slice_yard.specs.declared.rule.Hand.{Hand}

-- a seat, and the slice that it was handed
abbrev pub Entry : Type 0
Entry = ℕ × Slice

-- the slices of a history
abbrev pub slices : List Entry → List Slice
slices [] = []
slices (e ∷ es) = e.1 ∷ slices es

-- what one seat was handed
abbrev pub of : ℕ → List Entry → List Slice
of seat [] = []
of seat (e ∷ es) = if e.0 == seat then e.1 ∷ of seat es else of seat es

abbrev pub SeatsBelow : ℕ → List Entry → Type 0
SeatsBelow n [] = Unit {0}
SeatsBelow n (e ∷ es) = (e.0 < n) × SeatsBelow n es

abbrev pub owner_hand : Hand
owner_hand = record { live = true; seat = 0; seats = 1; opening = []; handed = []; closed = []; rest = [] }

abbrev pub spent_hand : Hand
spent_hand = record { live = false; seat = 0; seats = 0; opening = []; handed = []; closed = []; rest = [] }

-- the same pass before it was handed anything
abbrev pub fresh : Hand → Hand
fresh v = record v { handed = [] }

abbrev pub opened : Hand → List Slice → Hand
opened v xs = record v { opening = v.opening ++ xs }

abbrev pub took : Hand → List Slice → Hand
took v xs = record v { handed = v.handed ++ xs }

abbrev pub handed_rest : Hand → List Slice → Hand
handed_rest v xs = record v { rest = v.rest ++ xs }

abbrev pub one_more : Hand → Hand
one_more v = record v { seats = v.seats + 1 }

abbrev pub thief_hand : Hand → Hand
thief_hand v = record { live = true; seat = v.seats; seats = 0; opening = v.opening; handed = []; closed = []; rest = [] }

abbrev pub with_list : Hand → Hand → Hand
with_list v w = record v { closed = v.closed ++ w.handed ∷ [] }

abbrev pub AllOneOf : List Slice → List Slice → Type 0
AllOneOf opening [] = Unit {0}
AllOneOf opening (x ∷ xs) = Contains opening x × AllOneOf opening xs

-- what a live pass knows of the history
pub record FitsSeat (log : List Entry) (all : List Slice) (lists : List (List Slice)) (last : List Slice) (seats port : ℕ) (v : Hand) : Type 0 where
  pub seat : v.seat ≡ port
  pub opening : v.opening ≡ all
  pub handed : v.handed ≡ of port log
  pub thief : v.seats ≡ 0 → (length lists < port) × (last ≡ [])
  pub owner : 0 < v.seats → (port ≡ 0) × (v.seats ≡ seats) × (v.closed ≡ lists) × (v.rest ≡ last)

-- The slices that were handed out, in order, then those that were handed out at the end, and then those in the deque are the opening list.
-- Each pass that was not joined knows what it was handed
pub record IsHeld (items : List Slice) (views : List Hand) : Type 0 where
  pub log : List Entry
  pub opening : List Slice
  pub closed : List (List Slice)
  pub rest : List Slice
  pub whole : (slices log ++ rest) ++ items ≡ opening
  pub seated : SeatsBelow (length views) log
  pub closed_seats : length closed < length views
  pub closed_lists : (k : ℕ) → k < length closed → slice_index_or closed k [] ≡ of (suc k) log
  pub fits : (port : ℕ) (v : Hand) → get_elem? views port ≡ some v → v.live ≡ true → FitsSeat log opening closed rest (length views) port v

-- the lists of the owner and of all thieves, merged as in the history, and then what was handed out at the end, are these slices
pub record IsShared (v : Hand) (whole : List Slice) : Type 0 where
  pub log : List Entry
  pub all : slices log ++ v.rest ≡ whole
  pub seated : SeatsBelow v.seats log
  pub owner : v.handed ≡ of 0 log
  pub thieves : (k : ℕ) → k < length v.closed → slice_index_or v.closed k [] ≡ of (suc k) log

-- a lane with no thief: its owner was handed the whole opening list
abbrev pub HasAll : Hand → Type 0
HasAll v = v.seats ≡ 1 → v.handed ≡ v.opening
