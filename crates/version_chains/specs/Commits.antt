-- What a contract sees of the chains: the commits, in order, and what is stored at a timestamp.
use Rattle.std.specs.Prelude.{ℕ, Bool, true, false, List, [], ◌∷◌, ◌++◌, map, filter, reverse, nat_le}
use Rattle.std.specs.List.{flat_map, IsDistinct}
use Rattle.tuple_text.specs.Tuples.{TupleValue}
use Rattle.tuple_text.specs.Order.{tuple_eq}

-- a commit: its timestamp, and the tuples that it adds and removes
pub record Commit : Type 0 where
  pub at : ℕ
  pub adds : List TupleValue
  pub removes : List TupleValue

-- a touch: the timestamp, whether it adds, and the tuple
pub record Touch : Type 0 where
  pub at : ℕ
  pub live : Bool
  pub tuple : TupleValue

-- what a contract sees of the chains: how many touches they may hold, and the commits
pub record Changes : Type 0 where
  pub limit : ℕ
  pub commits : List Commit

-- no tuple stands twice in the commit
abbrev pub TouchesOnce : Commit → Type 0
TouchesOnce c = IsDistinct tuple_eq (c.adds ++ c.removes)

-- a commit's touches
abbrev pub touches : Commit → List Touch
touches c =
    map (λ t. record { at = c.at; live = true; tuple = t }) c.adds
    ++ map (λ t. record { at = c.at; live = false; tuple = t }) c.removes

-- the touches of all commits, in order
abbrev pub changelog : List Commit → List Touch
changelog commits = flat_map touches commits

-- those of one tuple
abbrev pub touches_to : TupleValue → List Touch → List Touch
touches_to t xs = filter (λ x. tuple_eq x.tuple t) xs

-- those at or before a timestamp
abbrev pub until : ℕ → List Touch → List Touch
until s xs = filter (λ x. nat_le x.at s) xs

-- whether the last one adds; where there is none, the given answer
abbrev pub last_live : Bool → List Touch → Bool
last_live before [] = before
last_live before (x ∷ xs) = last_live x.live xs

-- the tuple has a touch at or before the timestamp, and the last such touch adds it
abbrev pub is_stored : List Commit → ℕ → TupleValue → Bool
is_stored commits s t = last_live false (touches_to t (until s (changelog commits)))

-- the tuples that are stored: of those that have a touch at or before the timestamp, the ones whose last such touch
-- adds them
abbrev pub store_at : List Commit → ℕ → List TupleValue
store_at commits s = filter (is_stored commits s) (map (λ x. x.tuple) (until s (changelog commits)))

-- every tuple that was ever added, in order
abbrev pub added : List Commit → List TupleValue
added commits = flat_map (λ c. c.adds) commits

-- a tuple's touches as timestamp and whether it adds, the newest first
abbrev pub history_of : List Commit → TupleValue → List (ℕ × Bool)
history_of commits t = reverse (map (λ x. (x.at, x.live)) (touches_to t (changelog commits)))
