use Rattle.std.proofs.Common.{◌≡◌, ◌≤◌, ◌↔◌, ℕ, List, ◌<◌, Some, length}
use Rattle.std.specs.Prelude.{slice_get}
use Rattle.tuple_text.specs.Refs.{set_value}
use Rattle.rewrites.specs.Parts.{computed_names}
use Rattle.judgement.specs.Passes.{SomeSet}
use Rattle.judgement.specs.AskedFact.{GivesFor}
use Rattle.wide_rules.specs.AskedFact.{LeadsUnder}
use Rattle.wide_rules.proofs.through.gives_either.Given as goal

-- no name so far gives it, and what is left of the targets decides
abbrev pub invariant-loop-k : goal.invariant-loop-k
invariant-loop-k g l = record {
  names : (i : ℕ) (c : List ℕ) → i < l.k → slice_get (computed_names l.through) i ≡ Some c
      → ¬ GivesFor l.fact (Some c) (set_value l.one.set);
  targets : SomeSet (LeadsUnder l.fact (computed_names l.through)) l.targets
      ↔ SomeSet (LeadsUnder l.fact (computed_names l.through)) l.fn.targets;
  fewer : length l.targets ≤ length l.fn.targets;
}
