use Rattle.std.proofs.Common.{◌≡◌, ℕ, List, ◌+◌, ◌≤◌, length}
use Rattle.std.specs.Prelude.{Contains}
use Rattle.tuple_text.specs.Tuples.{FactValue}
use Rattle.namespaces.specs.Lookup.{rule_at}
use Rattle.version_chains.specs.Commits.{store_at}
use Rattle.evidence_check.specs.Steps.{step_values}
use Rattle.evidence_maker.specs.Making.{IsMaking, HasLeft}
use Rattle.evidence_maker.proofs.settle.settle_layer.Given as goal

abbrev pub invariant-loop-round : goal.invariant-loop-round
invariant-loop-round l = record {
  asked : l.asked ≡ l.fn.asked;
  kept : (C : List FactValue) (k : ℕ) → ((f : FactValue) → Contains l.fn.layer.items f → Contains C f)
      → IsMaking (rule_at l.fn.asked.declarations l.at) (store_at l.fn.asked.commits l.at) C k l.fn.known (step_values l.fn.steps.items)
      → IsMaking (rule_at l.fn.asked.declarations l.at) (store_at l.fn.asked.commits l.at) C k l.known (step_values l.steps.items);
  left : HasLeft l.known l.fn.layer.items l.left.items;
  count : length l.left.items + l.round ≤ l.rounds;
}
