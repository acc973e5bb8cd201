use Rattle.std.proofs.Common.{◌≡◌, ℕ, ◌≤◌, ◌<◌, ◌⊎◌, List, length}
use Rattle.std.specs.Prelude.{Contains}
use Rattle.std.specs.List.Sorted.{IsStrictlySortedBy}
use Rattle.std.specs.Ordering.{nat_cmp}
use Rattle.monitor.specs.Waiting.{IsAwaited, IsBetween}
use Rattle.monitor.proofs.waiting.due.Given as goal

-- due are the numbers so far
pub record AreFirst (from i : ℕ) (due : List ℕ) : Type 0 where
  pub sorted : IsStrictlySortedBy nat_cmp due
  pub there : (j : ℕ) → from ≤ j → j < i → Contains due j
  pub only : (j : ℕ) → Contains due j → IsBetween from i j

-- and those that were let go
pub record AreLetGo (at from end : ℕ) (old now : List (ℕ × ℕ)) (due : List ℕ) : Type 0 where
  pub sorted : IsStrictlySortedBy nat_cmp due
  pub between : (i : ℕ) → from ≤ i → i < end → Contains due i
  pub waited : (q : ℕ × ℕ) → Contains old q → Contains now q ⊎ ((q.0 ≤ at) × Contains due q.1)
  pub only : (i : ℕ) → Contains due i → IsBetween from end i ⊎ IsAwaited at old i
  pub kept : (q : ℕ × ℕ) → Contains now q → Contains old q

abbrev pub invariant-loop-i : goal.invariant-loop-i
invariant-loop-i l = (l.waiting.keys ≡ l.fn.waiting.keys) × AreFirst l.from l.i l.due.keys

abbrev pub invariant-loop-i-2 : goal.invariant-loop-i-2
invariant-loop-i-2 l = AreLetGo l.at l.from l.end l.fn.waiting.keys l.waiting.keys l.due.keys

abbrev pub decreases-loop-i-2 : goal.decreases-loop-i-2
decreases-loop-i-2 l = length l.waiting.keys
