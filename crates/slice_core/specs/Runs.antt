-- Runs of the machine, in which each event is enabled.
use Rattle.std.specs.Prelude.{◌≡◌, ℕ, ◌<◌, ◌==◌, List, [], ◌∷◌, ◌++◌, length, All, Some, if◌then◌else◌, slice_set}
use Rattle.std.specs.List.{flat_map, range_with_len}
use Rattle.slice_core.specs.declared.machine.Event.{Event}
use Rattle.slice_core.specs.declared.machine.Event.TheVariants.{Take, Steal, Finish}
use Rattle.slice_core.specs.Named.{named_from}
use Rattle.slice_core.specs.Places.{State, after, numbers_of, start_state}

-- the events lead from one state to the other, each enabled in its turn
abbrev pub Runs : State → List Event → State → Type 0
Runs s [] t = s ≡ t
Runs s (e ∷ es) t = (u : State) × (after s e ≡ Some u) × Runs u es t

-- each of these workers takes or steals the first slice of lane l, and finishes it
abbrev pub lane_events : ℕ → List ℕ → List Event
lane_events l [] = []
lane_events l (w ∷ ws) = (if w == l then Take w else Steal w l) ∷ Finish w ∷ lane_events l ws

-- the start, but lane l has these slices left, and those are done
abbrev pub lane_left : ℕ → ℕ → ℕ → ℕ → List ℕ → List ℕ → State
lane_left slices lanes workers l done rest = record { lanes = slice_set (start_state slices lanes workers).lanes l rest; hands = (start_state slices lanes workers).hands; done = done; lost = [] }

-- the workers ws, one after another, do the front xs of lane l and leave the rest of it: a run of the core
pub record IsLaneRun (slices lanes workers l : ℕ) (ws xs rest : List ℕ) : Type 0 where
  pub whole : xs ++ rest ≡ numbers_of slices lanes l
  pub count : length ws ≡ length xs
  pub are_workers : All (λ w. w < workers) ws
  pub run : Runs (start_state slices lanes workers) (lane_events l ws) (lane_left slices lanes workers l xs rest)

-- the events of lane 0, then those of lane 1, and so on
abbrev pub all_events : (ℕ → List ℕ) → ℕ → List Event
all_events ws lanes = flat_map (λ l. lane_events l (ws l)) (range_with_len 0 lanes)

-- such runs, lane after lane, are one run of the core
abbrev pub IsOneRun : Type 0
IsOneRun = (slices lanes workers : ℕ) (ws xs rests : ℕ → List ℕ) → ((l : ℕ) → l < lanes → IsLaneRun slices lanes workers l (ws l) (xs l) (rests l))
    → Runs (start_state slices lanes workers) (all_events ws lanes) record { lanes = named_from rests 0 lanes; hands = (start_state slices lanes workers).hands; done = flat_map xs (range_with_len 0 lanes); lost = [] }
