-- Where the slices stand, and what an event does.
use Rattle.std.specs.Prelude.{◌≡◌, ℕ, ◌+◌, ◌%◌, ◌==◌, List, [], ◌∷◌, ◌++◌, Option, Some, None, sum_by, slice_get, slice_set, slice_index_or, unwrap_or, if◌then◌else◌}
use Rattle.std.specs.List.{filter, range_with_len}
use Rattle.slice_core.specs.Named.{named_from}
use Rattle.slice_core.specs.declared.machine.Event.{Event}
use Rattle.slice_core.specs.declared.machine.Event.TheVariants.{Take, Steal, Finish, Fail}

pub record State : Type 0 where
  pub lanes : List (List ℕ)
  pub hands : List (Option ℕ)
  pub done : List ℕ
  pub lost : List ℕ

-- the first slice of a lane goes to an empty hand
abbrev pub moved : State → ℕ → ℕ → Option (Option ℕ) → Option (List ℕ) → Option State
moved s w l None lane = None
moved s w l (Some (Some y)) lane = None
moved s w l (Some None) None = None
moved s w l (Some None) (Some []) = None
moved s w l (Some None) (Some (x ∷ xs)) = Some record { lanes = slice_set s.lanes l xs; hands = slice_set s.hands w (Some x); done = s.done; lost = s.lost }

abbrev pub finished : State → ℕ → Option (Option ℕ) → Option State
finished s w None = None
finished s w (Some None) = None
finished s w (Some (Some x)) = Some record { lanes = s.lanes; hands = slice_set s.hands w None; done = s.done ++ x ∷ []; lost = s.lost }

abbrev pub failed : State → ℕ → Option (Option ℕ) → Option State
failed s w None = None
failed s w (Some None) = None
failed s w (Some (Some x)) = Some record { lanes = s.lanes; hands = slice_set s.hands w None; done = s.done; lost = s.lost ++ x ∷ [] }

-- the state after an event, where it is enabled
abbrev pub after : State → Event → Option State
after s (Take w) = moved s w w (slice_get s.hands w) (slice_get s.lanes w)
after s (Steal w l) = if w == l then None else moved s w l (slice_get s.hands w) (slice_get s.lanes l)
after s (Finish w) = finished s w (slice_get s.hands w)
after s (Fail w) = failed s w (slice_get s.hands w)

-- an event that is not enabled changes nothing
abbrev pub run : State → List Event → State
run s [] = s
run s (e ∷ es) = run (unwrap_or (after s e) s) es

abbrev pub hand_sum : (ℕ → ℕ) → Option ℕ → ℕ
hand_sum h None = 0
hand_sum h (Some x) = h x

-- h of each slice, wherever it stands, added up
abbrev pub weight : (ℕ → ℕ) → State → ℕ
weight h s = ((sum_by (λ l. sum_by h l) s.lanes + sum_by (hand_sum h) s.hands) + sum_by h s.done) + sum_by h s.lost

-- each lane is a front, and then what it is later
abbrev pub Drains : State → State → Type 0
Drains s t = (l : ℕ) → (front : List ℕ) × (slice_index_or s.lanes l [] ≡ front ++ slice_index_or t.lanes l [])

-- how many slices stand anywhere
abbrev pub count_all : List (List ℕ) → List (Option ℕ) → List ℕ → List ℕ → ℕ
count_all lanes hands done lost = weight (λ _. 1) record { lanes = lanes; hands = hands; done = done; lost = lost }

-- the opening list of lane l: the numbers k below the number of slices with k modulo lanes equal to l, rising
abbrev pub numbers_of : ℕ → ℕ → ℕ → List ℕ
numbers_of slices lanes l = filter (λ k. k % lanes == l) (range_with_len 0 slices)

abbrev pub start_state : ℕ → ℕ → ℕ → State
start_state slices lanes workers = record { lanes = named_from (numbers_of slices lanes) 0 lanes; hands = named_from (λ _. None) 0 workers; done = []; lost = [] }
