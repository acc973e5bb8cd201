use Rattle.trace_lines.proofs.RefusedEdges.{edges_refuse}
use Rattle.trace_lines.proofs.builder.commit.Goals as goal

pub returns-in_err-admit_all-clause-answer : goal.returns-in_err-admit_all-clause-answer
returns-in_err-admit_all-clause-answer c = edges_refuse _ c.from_residual.result _ _ _ c.from_residual.ensures.1 c.in_err-admit_all.ensures.answer
