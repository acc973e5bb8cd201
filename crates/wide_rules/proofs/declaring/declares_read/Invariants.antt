use Rattle.std.proofs.Common.{◌≡◌, ℕ, List, ◌<◌, Some}
use Rattle.std.specs.Prelude.{Contains, slice_get}
use Rattle.namespaces.specs.InForce.{names_in_force}
use Rattle.rewrites.specs.Parts.{computed_names}
use Rattle.wide_rules.proofs.declaring.declares_read.Given as goal

-- none so far is read
abbrev pub invariant-loop-k : goal.invariant-loop-k
invariant-loop-k l =
    (i : ℕ) (relation : List ℕ) → i < l.k → slice_get (names_in_force l.at l.namespace l.rules) i ≡ Some relation
    → ¬ Contains (computed_names l.through) relation
