use Rattle.std.proofs.Common.{◌≡◌, ◌+◌, ◌∙◌, ◌∷◌, [], ap, length, sym, subst, take, arith, rules}
use Rattle.std.proofs.lemmas.List.{length-append, length-map, take_all}
use Rattle.std.proofs.lemmas.Option.{slice_get_within}
use Rattle.tuple_text.specs.TupleRefs.{tuple_values}
use Rattle.version_chains.specs.Arena.{tuples_of}
use Rattle.version_chains.specs.Rows.{Kept, row_value}
use Rattle.trace_lines.proofs.ToldTuples.{borrowed_more, none_past, told_form}
use Rattle.trace_lines.proofs.owned.tuple_refs.Goals as goal

pub from_parts-requires-clause-set : goal.from_parts-requires-clause-set
from_parts-requires-clause-set c = (told_form c.args.tuples.now c.len-in-loop-row.result (row_value c.in-Some.row) (sym c.in-Some.ensures) c.requires).head

pub from_parts-requires-clause-user : goal.from_parts-requires-clause-user
from_parts-requires-clause-user c = (told_form c.args.tuples.now c.len-in-loop-row.result (row_value c.in-Some.row) (sym c.in-Some.ensures) c.requires).user

pub loop-row-preserved : goal.loop-row-preserved
loop-row-preserved c =
    let refs = c.loop-row.refs.items in
    let at : c.len-in-loop-row.result ≡ length refs = search rules in
    let more = borrowed_more c.args.tuples.now c.len-in-loop-row.result (row_value c.in-Some.row) (sym c.in-Some.ensures) refs c.push.new.self.items c.from_parts.result
    (subst (λ n. tuple_values refs ≡ take n (tuples_of c.args.tuples.now)) (sym at) c.loop-row.invariant) c.in_ok-push.ensures.items c.from_parts.ensures in
    let count : length c.push.new.self.items ≡ c.len-in-loop-row.result + 1 = ap length c.in_ok-push.ensures.items ∙ length-append refs (c.from_parts.result ∷ []) ∙ ap (λ n. n + 1) (sym at) in
    subst (λ n. tuple_values c.push.new.self.items ≡ take n (tuples_of c.args.tuples.now)) (sym count) more

pub loop-row-smaller : goal.loop-row-smaller
loop-row-smaller c =
    let refs = c.loop-row.refs.items in
    let at : c.len-in-loop-row.result ≡ length refs = search rules in
    let within = slice_get_within c.args.tuples.now c.len-in-loop-row.result (row_value c.in-Some.row) (sym c.in-Some.ensures) in
    let count = ap length c.in_ok-push.ensures.items ∙ length-append refs (c.from_parts.result ∷ []) in
    omega (arith, at, within, count)

pub returns : goal.returns
returns c =
    let refs = c.loop-row.refs.items in
    let at : c.len-in-loop-row.result ≡ length refs = search rules in
    let past = none_past c.args.tuples.now c.len-in-loop-row.result (sym c.in_default.ensures) in
    let count = length-map c.args.tuples.now (λ (k : Kept). k.tuple) in
    c.loop-row.invariant ∙ take_all (length refs) (tuples_of c.args.tuples.now) (omega (arith, at, past, count))
