-- What the laws on evidence ask of a trace.
use Rattle.std.specs.Prelude.{ℕ}
use Rattle.namespaces.specs.Lookup.{rule_at}
use Rattle.version_chains.specs.Commits.{store_at}
use Rattle.strata.specs.Strata.{HasValidStrata}
use Rattle.trace_lines.specs.Values.{TraceValue}

abbrev pub HasValidStrataAt : TraceValue → ℕ → Type 0
HasValidStrataAt t s = HasValidStrata (rule_at t.declarations s) (store_at t.commits s)
