use Rattle.std.proofs.Common.{rules, ◌≡◌, ◌++◌, ◌∷◌, []}
use Rattle.std.proofs.lemmas.Result.{err_from_is_err_and}
use Rattle.std.proofs.lemmas.List.{map_push}
use Rattle.tuple_text.specs.TupleRefs.{tuple_value, tuple_values}
use Rattle.carry.specs.Fields.{repeated}
use Rattle.carry.specs.Reading.{tuple_line_at}
use Rattle.carry.proofs.Loop.{ends, goes_on, is_done, told}
use Rattle.carry.proofs.reading.tuples_of.Goals as goal

pub returns-in_err-tuple : goal.returns-in_err-tuple
returns-in_err-tuple c =
    let p = err_from_is_err_and c.from_residual.result c.from_residual.ensures.1 in
    rw (p.1, p.2) (ends tuple_line_at c.in_err-tuple.field-0.0 (tuple_values c.loop.tuples.items) c.args.count c.loop.counter c.loop.rest.now (repeated tuple_line_at c.args.count c.args.text.now) c.loop-test.true (told c.in_err-tuple.field-0.0 (tuple_line_at c.loop.rest.now) c.in_err-tuple.ensures) c.loop.invariant.so_far)

pub loop-preserved : goal.loop-preserved
loop-preserved c =
    let t = c.in_ok-tuple.tuple in
    let e : tuple_values c.push.new.self.items ≡ tuple_values c.loop.tuples.items ++ tuple_value t ∷ [] = rw c.in_ok-push.ensures.items (map_push _ c.loop.tuples.items t) in
    record { so_far = rw e (goes_on tuple_line_at (tuple_values c.loop.tuples.items) c.args.count c.loop.counter c.loop.rest.now (tuple_value t) c.in_ok-tuple.after.now (repeated tuple_line_at c.args.count c.args.text.now) c.loop-test.true c.in_ok-tuple.ensures c.loop.invariant.so_far); utf8 = search rules }

pub returns : goal.returns
returns c = is_done tuple_line_at (tuple_values c.loop.tuples.items) c.args.count c.loop.counter c.loop.rest.now (repeated tuple_line_at c.args.count c.args.text.now) c.loop-test.false c.loop.invariant.so_far
