use Rattle.std.proofs.Common.{◌≡◌, length, subst}
use Rattle.std.specs.Prelude.{All}
use Rattle.std.specs.List.Sorted.{IsStrictlyIncreasing}
use Rattle.trace_lines.specs.Kept.{IsPlaced}
use Rattle.trace_lines.specs.Values.{TraceValue}
use Rattle.trace_lines.specs.Versions.{AreIssuedOnce}
use Rattle.trace_lines.proofs.trace.Trace.recorded.Goals as goal

pub returns-clause-once : goal.returns-clause-once
returns-clause-once c = subst (λ (t : TraceValue). AreIssuedOnce t.entries) c.self.view_is c.self.invariant.1

pub returns-clause-lines : goal.returns-clause-lines
returns-clause-lines c =
    subst (λ (t : TraceValue). IsStrictlyIncreasing t.commit_lines) c.self.view_is c.self.invariant.0.commits_rise

pub returns-clause-counted : goal.returns-clause-counted
returns-clause-counted c =
    subst (λ (t : TraceValue). length t.commit_lines ≡ length t.commits) c.self.view_is c.self.invariant.0.counted

pub returns-clause-placed : goal.returns-clause-placed
returns-clause-placed c =
    subst (λ (t : TraceValue). All (IsPlaced t.commit_lines) t.entries) c.self.view_is c.self.invariant.0.placed
