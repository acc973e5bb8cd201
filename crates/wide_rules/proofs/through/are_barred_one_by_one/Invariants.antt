use Rattle.std.proofs.Common.{◌≡◌, ℕ, List, ◌<◌, Some}
use Rattle.std.specs.Prelude.{slice_get}
use Rattle.rewrites.specs.Parts.{computed_names}
use Rattle.judgement.specs.AskedFact.{IsBarredFor}
use Rattle.wide_rules.proofs.through.are_barred_one_by_one.Given as goal

-- each so far is barred
abbrev pub invariant-loop-k : goal.invariant-loop-k
invariant-loop-k g l =
    (i : ℕ) (c : List ℕ) → i < l.k → slice_get (computed_names l.through) i ≡ Some c
    → IsBarredFor l.fact (Some c)
