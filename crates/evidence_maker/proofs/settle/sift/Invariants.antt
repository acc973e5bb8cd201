use Rattle.std.proofs.Common.{◌≡◌, ℕ, List, take}
use Rattle.std.specs.Prelude.{Contains}
use Rattle.tuple_text.specs.Tuples.{FactValue}
use Rattle.namespaces.specs.Lookup.{rule_at}
use Rattle.version_chains.specs.Commits.{store_at}
use Rattle.evidence_check.specs.Steps.{step_values}
use Rattle.evidence_maker.specs.Making.{IsMaking, IsSifted}
use Rattle.evidence_maker.proofs.settle.sift.Given as goal

abbrev pub invariant-loop-fact : goal.invariant-loop-fact
invariant-loop-fact l = record {
  asked : l.asked ≡ l.fn.asked;
  kept : (C : List FactValue) (k : ℕ) → ((f : FactValue) → Contains l.facts f → Contains C f)
      → IsMaking (rule_at l.fn.asked.declarations l.at) (store_at l.fn.asked.commits l.at) C k l.fn.known (step_values l.fn.steps.items)
      → IsMaking (rule_at l.fn.asked.declarations l.at) (store_at l.fn.asked.commits l.at) C k l.known (step_values l.steps.items);
  sifted : IsSifted (rule_at l.fn.asked.declarations l.at) (store_at l.fn.asked.commits l.at) l.fn.known l.known (take l.fact-index l.facts) l.left.items;
}
