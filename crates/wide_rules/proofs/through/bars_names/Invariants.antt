use Rattle.std.proofs.Common.{◌≡◌, ℕ, List, ◌<◌, Some}
use Rattle.std.specs.Prelude.{Contains, slice_get}
use Rattle.tuple_text.specs.Refs.{set_value}
use Rattle.namespaces.specs.InForce.{names_in_force}
use Rattle.rewrites.specs.Parts.{computed_names}
use Rattle.judgement.specs.AskedFact.{BarsFor}
use Rattle.wide_rules.proofs.through.bars_names.Given as goal

-- those so far that are read have the user under none of them
abbrev pub invariant-loop-k : goal.invariant-loop-k
invariant-loop-k g l =
    (i : ℕ) (c : List ℕ) → i < l.k → slice_get (names_in_force l.fact.snapshot.now.at (set_value l.set.set).namespace l.fact.snapshot.now.timeline.declarations) i ≡ Some c
    → Contains (computed_names l.through) c → BarsFor l.fact (Some c) (set_value l.set.set)
