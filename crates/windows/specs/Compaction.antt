-- A changelog whose front is replaced by a shorter one.
use Rattle.std.specs.Prelude.{ℕ, ◌≤◌, List, [], map, filter, nat_lt, nat_le, All}
use Rattle.std.specs.List.Sorted.{IsStrictlyIncreasing}
use Rattle.tuple_text.specs.Tuples.{TupleValue}
use Rattle.version_chains.specs.Commits.{Commit, store_at}
use Rattle.windows.specs.Alike.{AreSameTuples}

-- timestamps rise
abbrev pub AreRising : List Commit → Type 0
AreRising commits = IsStrictlyIncreasing (map (λ c. c.at) commits)

-- the commits above a timestamp
abbrev pub above : ℕ → List Commit → List Commit
above b commits = filter (λ c. nat_lt b c.at) commits

-- those up to one
abbrev pub up_to : ℕ → List Commit → List Commit
up_to h commits = filter (λ c. nat_le c.at h) commits

-- a changelog up to a timestamp that stores what another one stores there
pub record StandsFor (front : List Commit) (b : ℕ) (commits : List Commit) : Type 0 where
  pub none_above : All (λ c. c.at ≤ b) front
  pub stored : AreSameTuples (store_at front b) (store_at commits b)

-- one commit at a timestamp, which adds tuples and removes none
abbrev pub snapshot_commit : ℕ → List TupleValue → Commit
snapshot_commit b ts = record { at = b; adds = ts; removes = [] }
