-- What the lists of a closed lane say of the core.
use Rattle.std.specs.Prelude.{◌≡◌, ℕ, zero, suc, ◌<◌, ◌≤◌, List, [], length, map, All, nat_lt, if◌then◌else◌, slice_index_or}
use Rattle.slice_core.specs.Named.{named_from}
use Rattle.slice_core.specs.Places.{numbers_of}
use Rattle.slice_core.specs.Runs.{IsLaneRun}
use Rattle.slice_yard.specs.declared.rule.Hand.{Hand}
use Rattle.slice_yard.specs.Hands.{Entry, slices, of}

-- the worker that has a seat at lane l
abbrev pub worker_at : ℕ → ℕ → ℕ
worker_at l zero = l
worker_at l (suc s) = if nat_lt s l then s else suc s

-- the lists of a closed lane, merged by number, each slice taken or stolen by the worker that has it and then finished, are a run of the core.
-- What was handed out since the lane was closed is the lane at that run's end
pub record ListsAreRun (slices_count lanes workers l : ℕ) (v : Hand) : Type 0 where
  pub log : List Entry
  pub owner : v.handed ≡ of 0 log
  pub thieves : (k : ℕ) → k < length v.closed → slice_index_or v.closed k [] ≡ of (suc k) log
  pub run : IsLaneRun slices_count lanes workers l (map (λ e. worker_at l e.0) log) (map (λ x. x.number) (slices log)) (map (λ x. x.number) v.rest)

-- the closed lanes of a yard that was opened with so many slices, lanes and workers
pub record WereOpened (slices_count lanes workers : ℕ) (hands : List Hand) : Type 0 where
  pub enough : lanes ≤ workers
  pub openings : map (λ v. map (λ x. x.number) v.opening) hands ≡ named_from (numbers_of slices_count lanes) 0 lanes
  pub seats : All (λ v. v.seats ≡ workers) hands
