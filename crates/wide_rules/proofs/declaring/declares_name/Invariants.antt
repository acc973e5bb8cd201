use Rattle.std.proofs.Common.{◌≡◌, ℕ, List, ◌<◌, None, Some}
use Rattle.std.specs.Prelude.{slice_get}
use Rattle.namespaces.specs.Lookup.{rule_at}
use Rattle.rewrites.specs.Parts.{computed_names}
use Rattle.wide_rules.proofs.declaring.declares_name.Given as goal

-- none so far is declared
abbrev pub invariant-loop-k : goal.invariant-loop-k
invariant-loop-k l =
    (i : ℕ) (relation : List ℕ) → i < l.k → slice_get (computed_names l.through) i ≡ Some relation → rule_at l.rules l.at l.namespace relation ≡ None
