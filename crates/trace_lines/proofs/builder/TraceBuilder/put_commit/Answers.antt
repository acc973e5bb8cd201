use Rattle.std.proofs.Common.{List, ap, subst, take, drop, ◌∙◌}
use Rattle.tuple_text.specs.declared.tuple_refs.TupleRef.{TupleRef}
use Rattle.version_chains.specs.Commits.{Commit}
use Rattle.trace_lines.specs.Causes.{Gives}
use Rattle.trace_lines.specs.Traces.{with_commit}
use Rattle.trace_lines.proofs.ToldTuples.{split_commit}
use Rattle.trace_lines.proofs.builder.TraceBuilder.put_commit.Goals as goal

pub returns : goal.returns
returns c =
    let refs = c.in_ok-tuples.tuples.items in
    let front = c.split_at.ensures.front ∙ ap (λ (rs : List TupleRef). take c.adds.result rs) c.deref.ensures.value in
    let back = c.split_at.ensures.back ∙ ap (λ (rs : List TupleRef). drop c.adds.result rs) c.deref.ensures.value in
    let same = split_commit c.args.commit.now c.at.result c.adds.result refs c.split_at.result.0.now c.split_at.result.1.now c.at.ensures c.adds.ensures c.in_ok-tuples.ensures front back in
    subst (λ (x : Commit). Gives (λ _. c.append.new.self) c.append.result (with_commit c.args.line c.args.self.now x)) same c.append.ensures
