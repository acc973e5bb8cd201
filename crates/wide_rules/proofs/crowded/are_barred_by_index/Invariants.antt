use Rattle.std.proofs.Common.{◌≡◌, ℕ, List, ◌<◌, Some}
use Rattle.std.specs.Prelude.{Contains, slice_get}
use Rattle.rewrites.specs.Parts.{computed_names}
use Rattle.judgement.specs.Passes.{AreThroughOut}
use Rattle.judgement.specs.AskedFact.{asked_set}
use Rattle.wide_rules.proofs.crowded.are_barred_by_index.Given as goal

-- nothing of the namespaces so far may have the user
abbrev pub invariant-loop-number : goal.invariant-loop-number
invariant-loop-number g l =
    (k n : ℕ) → k < l.number-index → slice_get l.numbers k ≡ Some n → (c : List ℕ) → Contains (computed_names l.through) c
    → AreThroughOut l.fact.snapshot.now l.index.through l.fact.known.now (asked_set l.fact) c l.fact.user n
