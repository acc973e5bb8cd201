use Rattle.trace_lines.specs.Values.{empty_trace}
use Rattle.trace_lines.proofs.FrontLemmas.{front_made, made_by_lines, passed_from, passed_on}
use Rattle.trace_lines.proofs.front.read_trace_front.Goals as goal

pub returns-clause-front : goal.returns-clause-front
returns-clause-front g c =
    rw c.made_of.ensures
    (front_made _ _ _ _ empty_trace c.read_front.new.value _ c.new-builder.ensures c.in_ok-front.ensures.front)

pub returns-clause-refused : goal.returns-clause-refused
returns-clause-refused g c = rw c.made_of.ensures (made_by_lines _ _ c.in_ok-front.ensures.refused)

pub returns-in_err-front-clause-kept : goal.returns-in_err-front-clause-kept
returns-in_err-front-clause-kept g c other =
    c.in_err-front.ensures.kept (λ same. other (passed_on c.from_residual.result c.in_err-front.field-0.0 _ c.from_residual.ensures.1 same))

pub returns-in_err-front-clause-long : goal.returns-in_err-front-clause-long
returns-in_err-front-clause-long g c same = c.in_err-front.ensures.long (passed_from c.from_residual.result c.in_err-front.field-0.0 _ c.from_residual.ensures.1 same)

pub returns-in_err-front-clause-failed : goal.returns-in_err-front-clause-failed
returns-in_err-front-clause-failed g c same = c.in_err-front.ensures.failed (passed_from c.from_residual.result c.in_err-front.field-0.0 _ c.from_residual.ensures.1 same)
