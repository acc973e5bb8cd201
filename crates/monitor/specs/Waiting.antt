-- What waits, by a timestamp and a number.
use Rattle.std.specs.List.Sorted.{IsStrictlyIncreasing}
use Rattle.std.specs.Prelude.{◌≡◌, ℕ, ◌∷◌, ◌<◌, ◌≤◌, ◌⊎◌, List, Contains, Option, None, Some}

-- the first of these was let go, which waited for a timestamp up to this one; or none waits for one
abbrev pub IsPopped : ℕ → List (ℕ × ℕ) → List (ℕ × ℕ) → Option ℕ → Type 0
IsPopped at old new (Some i) = (s : ℕ) × (s ≤ at) × (old ≡ (s, i) ∷ new)
IsPopped at old new None = (new ≡ old) × ((q : ℕ × ℕ) → Contains old q → at < q.0)

abbrev pub IsBetween : ℕ → ℕ → ℕ → Type 0
IsBetween from end i = (from ≤ i) × (i < end)

-- a number of these waits for a timestamp up to this one
abbrev pub IsAwaited : ℕ → List (ℕ × ℕ) → ℕ → Type 0
IsAwaited at waiting i = (s : ℕ) × (s ≤ at) × Contains waiting (s, i)

-- Due are the numbers from one on up to another, and those that waited for a timestamp up to this one, in their order;
-- the others wait on.
pub record AreDue (at from end : ℕ) (old new : List (ℕ × ℕ)) (due : List ℕ) : Type 0 where
  pub rising : IsStrictlyIncreasing due
  pub between : (i : ℕ) → from ≤ i → i < end → Contains due i
  pub waited : (q : ℕ × ℕ) → Contains old q → Contains new q ⊎ ((q.0 ≤ at) × Contains due q.1)
  pub only : (i : ℕ) → Contains due i → IsBetween from end i ⊎ IsAwaited at old i
  pub kept : (q : ℕ × ℕ) → Contains new q → Contains old q
  pub later : (q : ℕ × ℕ) → Contains new q → at < q.0

-- Left are the numbers of all that waited, in their order.
pub record AreLeft (waiting : List (ℕ × ℕ)) (left : List ℕ) : Type 0 where
  pub rising : IsStrictlyIncreasing left
  pub all : (q : ℕ × ℕ) → Contains waiting q → Contains left q.1
  pub only : (i : ℕ) → Contains left i → (s : ℕ) × Contains waiting (s, i)
