use Rattle.std.proofs.Common.{rules, refl}
use Rattle.std.specs.Prelude.{option_map}
use Rattle.tuple_text.specs.TupleRefs.{tuple_values}
use Rattle.trace_lines.proofs.WrittenCommits.{is_commit}
use Rattle.trace_lines.proofs.written.commit_written.Goals as goal

pub returns : goal.returns
returns c =
    let adds = rw c.in-Some-2.is at c.in_ok-adds.ensures.text in
    let removes = rw c.in-Some-3.is at c.in_ok-removes.ensures.text in
    rw (c.listed.ensures, c.listed-2.ensures)
    (is_commit c.args.text.now c.in-Some-3.rest.now c.in-Some.at (option_map (λ v. tuple_values v.items) c.in-Some-2.adds)
    (option_map (λ v. tuple_values v.items) c.in-Some-3.removes) (rw (c.in-Some.ensures, adds, removes) refl) (search rules)
    (rw c.in-Some-2.is at c.in_ok-adds.ensures.tuples) (rw c.in-Some-3.is at c.in_ok-removes.ensures.tuples)
    (c.if-not-is_more.ensures refl))
