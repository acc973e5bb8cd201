use Rattle.std.specs.Prelude.{true, false, option_map}
use Rattle.trace_lines.specs.EntryViews.{entry_value}
use Rattle.evidence_check.specs.Steps.{step_values}
use Rattle.evidence_check.proofs.JudgedLemmas.{if_judged}
use Rattle.evidence_check.proofs.judged.judge_entry.Goals as goal

pub returns-clause-supported : goal.returns-clause-supported
returns-clause-supported c =
    if_judged true c.args.trace.now c.valid_strata.ensures c.args.i (entry_value c.entry-entry.result) (option_map (λ s. step_values s.now.items) c.steps.result) c.judge.result c.entry-entry.ensures.value c.judge.ensures

pub returns-clause-contradicted : goal.returns-clause-contradicted
returns-clause-contradicted c =
    if_judged false c.args.trace.now c.valid_strata.ensures c.args.i (entry_value c.entry-entry.result) (option_map (λ s. step_values s.now.items) c.steps.result) c.judge.result c.entry-entry.ensures.value c.judge.ensures
