use Rattle.std.proofs.Common.{ℕ, ◌⊎◌, List, length}
use Rattle.std.specs.Prelude.{Contains}
use Rattle.std.specs.List.Sorted.{IsStrictlySortedBy}
use Rattle.std.specs.Ordering.{nat_cmp}
use Rattle.monitor.proofs.waiting.left.Given as goal

-- left are the numbers of those that were let go
pub record AreSoFar (old now : List (ℕ × ℕ)) (left : List ℕ) : Type 0 where
  pub sorted : IsStrictlySortedBy nat_cmp left
  pub all : (q : ℕ × ℕ) → Contains old q → Contains now q ⊎ Contains left q.1
  pub only : (i : ℕ) → Contains left i → (s : ℕ) × Contains old (s, i)
  pub kept : (q : ℕ × ℕ) → Contains now q → Contains old q

abbrev pub invariant-loop-i : goal.invariant-loop-i
invariant-loop-i l = AreSoFar l.fn.waiting.keys l.waiting.keys l.left.keys

abbrev pub decreases-loop-i : goal.decreases-loop-i
decreases-loop-i l = length l.waiting.keys
