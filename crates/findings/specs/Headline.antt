-- What a clean verdict says.
use Rattle.std.specs.Prelude.{◌≡◌, ℕ, List, true, Ok, All}
use Rattle.trace_lines.specs.Traces.{trace_of}
use Rattle.trace_lines.specs.Values.{TraceValue}
use Rattle.evidence_check.specs.Members.{IsRight}
use Rattle.token_order.specs.Order.{IsInOrder}
use Rattle.findings.specs.NewEnemy.{HasNoNewEnemy}

-- Each reply is what the rules mean over the tuples committed up to its snapshot. Every content check is latest,
-- every entry closed, and every check at least as new as its zookie, as the content check of the version that it
-- names, and as all commits before that. Each token that was issued for content carries the snapshot of its check.
pub record IsRightAndFresh (t : TraceValue) : Type 0 where
  pub right : All (IsRight t) t.entries
  pub fresh : IsInOrder t

-- The bytes say a trace of which that holds; and each check of a content version has seen all access changes before
-- that version's content check.
pub record IsTraceRightAndFresh (a : List ℕ) : Type 0 where
  pub trace : TraceValue
  pub said : trace_of true a ≡ Ok trace
  pub right_and_fresh : IsRightAndFresh trace
  pub no_new_enemy : HasNoNewEnemy trace
