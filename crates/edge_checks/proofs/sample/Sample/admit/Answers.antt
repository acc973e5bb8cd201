use Rattle.std.proofs.Common.{List, [], ◌∷◌, ◌++◌, subst, sym}
use Rattle.std.proofs.lemmas.Result.{IfOk-from_err}
use Rattle.tuple_text.specs.TupleRefs.{tuple_value}
use Rattle.tuple_text.specs.Tuples.{TupleValue}
use Rattle.edge_checks.specs.Sampled.{Represents}
use Rattle.edge_checks.proofs.Sampling.{kind_unbroken, left_out}
use Rattle.edge_checks.proofs.sample.Sample.admit.Goals as goal

pub returns-then-has-clause-answer : goal.returns-then-has-clause-answer
returns-then-has-clause-answer c =
    kind_unbroken c.args.rules.now c.args.self.now (tuple_value c.args.tuple) (c.has.ensures.found c.if-has.true) c.requires.unbroken

pub returns-then-has-clause-taken : goal.returns-then-has-clause-taken
returns-then-has-clause-taken c =
    let all = c.args.self.now ++ tuple_value c.args.tuple ∷ [] in
    subst (λ (ts : List TupleValue). Represents ts all) (sym c.has.ensures.same)
    (left_out c.args.self.now (tuple_value c.args.tuple) (λ ds. kind_unbroken ds c.args.self.now (tuple_value c.args.tuple) (c.has.ensures.found c.if-has.true)))

pub returns-in_err-tuple-clause-taken : goal.returns-in_err-tuple-clause-taken
returns-in_err-tuple-clause-taken c = IfOk-from_err _ _ c.from_residual.ensures.0

pub returns-in_err-tuple-clause-index : goal.returns-in_err-tuple-clause-index
returns-in_err-tuple-clause-index c = IfOk-from_err _ _ c.from_residual.ensures.0

pub returns-in_err-look-clause-taken : goal.returns-in_err-look-clause-taken
returns-in_err-look-clause-taken c = IfOk-from_err _ _ c.from_residual-in_err-look.ensures.0

pub returns-in_err-look-clause-index : goal.returns-in_err-look-clause-index
returns-in_err-look-clause-index c = IfOk-from_err _ _ c.from_residual-in_err-look.ensures.0

pub returns-in_err-put-clause-taken : goal.returns-in_err-put-clause-taken
returns-in_err-put-clause-taken c = IfOk-from_err _ _ c.from_residual-in_err-put.ensures.0

pub returns-in_err-put-clause-index : goal.returns-in_err-put-clause-index
returns-in_err-put-clause-index c = IfOk-from_err _ _ c.from_residual-in_err-put.ensures.0
