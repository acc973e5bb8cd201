use Rattle.std.proofs.Common.{Err, subst}
use Rattle.strata.specs.Edges.{first_broken, rule_edges}
use Rattle.strata.specs.declared.change.ChangeFault.{ChangeFault}
use Rattle.serde_json.specs.View.{view}
use Rattle.strata.specs.Changes.{Answers}
use Rattle.trace_lines.proofs.Orderly.{late_and_broken}
use Rattle.trace_lines.proofs.declaring.late_change.Goals as goal

pub returns-in-Err-Strata : goal.returns-in-Err-Strata
returns-in-Err-Strata c =
    late_and_broken c.args.rules.now (view c.args.value.now) c.args.last c.in-Err-Strata.edge c.in-Ok.ensures (λ at es h. subst (λ (f : ChangeFault). Answers (Err f) (first_broken es (rule_edges es))) c.in-Err-Strata.field-0-is (c.in-Err-Strata.ensures at es h))
