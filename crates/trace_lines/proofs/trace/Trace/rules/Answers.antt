use Rattle.std.proofs.Common.{ℕ, subst}
use Rattle.namespaces.specs.Lookup.{rule_at}
use Rattle.version_chains.specs.Commits.{store_at}
use Rattle.strata.specs.Strata.{HasValidStrata}
use Rattle.trace_lines.specs.Values.{TraceValue}
use Rattle.trace_lines.proofs.trace.Trace.rules.Goals as goal

pub returns-clause-strata : goal.returns-clause-strata
returns-clause-strata c =
    subst (λ (t : TraceValue). (at : ℕ) → HasValidStrata (rule_at t.declarations at) (store_at t.commits at)) c.self.view_is c.self.invariant.2
