-- Walks back through a tuple's history, which has the newest touch first, on the way to a timestamp.
use Rattle.std.specs.Prelude.{◌≡◌, ℕ, ◌<◌, ◌≤◌, Bool, List, All, drop, find, nat_le, slice_get, slice_range, Option, IsSomeAnd}

-- the newest touch at or below the timestamp
abbrev pub newest_until : ℕ → List (ℕ × Bool) → Option (ℕ × Bool)
newest_until s history = find (λ x. nat_le x.0 s) history

-- from one place of the history back to that of an earlier touch, which is still above the timestamp
pub record IsJump (s : ℕ) (history : List (ℕ × Bool)) (from to : ℕ) : Type 0 where
  pub back : from ≤ to
  pub above : IsSomeAnd (slice_get history to) (λ x. s < x.0)

-- no touch between the places is at or below the timestamp, so that the same is found from both
pub record PassesNone (s : ℕ) (history : List (ℕ × Bool)) (from to : ℕ) : Type 0 where
  pub passed : All (λ x. s < x.0) (slice_range history from to)
  pub same : newest_until s (drop from history) ≡ newest_until s (drop to history)
