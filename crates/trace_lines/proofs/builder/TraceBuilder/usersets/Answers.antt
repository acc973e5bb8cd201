use Rattle.std.proofs.Common.{subst}
use Rattle.version_chains.specs.Commits.{changelog}
use Rattle.userset_index.specs.Growth.{IsReady}
use Rattle.userset_index.proofs.GrowthLemmas.{ready_begun}
use Rattle.trace_lines.specs.Values.{TraceValue}
use Rattle.trace_lines.proofs.builder.TraceBuilder.usersets.Goals as goal

pub returns : goal.returns
returns c grows =
    let touches = changelog c.args.self.now.commits in
    ready_begun c.args.self.now.declarations touches c.growing.result
    (subst (λ (t : TraceValue). IsReady t.declarations touches c.growing.result) c.self.view_is (c.growing.ensures touches grows))
