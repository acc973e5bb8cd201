-- The rules after a change, over what was added so far. No public clause cites this module.
use Rattle.std.specs.Prelude.{◌≡◌, ℕ, List, [], ◌∷◌, ◌++◌, Some, Result, Ok, Err, codes}
use Rattle.serde_json.specs.Data.{Data}
use Rattle.tuple_text.specs.Tuples.{TupleValue}
use Rattle.namespaces.specs.Declaration.{Declaration}
use Rattle.namespaces.specs.Changing.{IsLater, rules_change}
use Rattle.json_lines.specs.Fields.{text_at}
use Rattle.strata.specs.Edges.{edges_of_tuples, first_broken, rule_edges}
use Rattle.edge_checks.specs.Indexed.{IsIndex}
use Rattle.edge_checks.specs.declared.edge_index.EdgeIndex.{EdgeIndex}
use Rattle.version_chains.specs.Commits.{added}
use Rattle.version_chains.specs.declared.fault.AppendFault.TheVariants.{NotLater}
use Rattle.refusals.specs.Refusals.{◌>>=◌}
use Rattle.trace_lines.specs.Causes.{namespace_cause}
use Rattle.trace_lines.specs.Values.{TraceValue}
use Rattle.trace_lines.specs.Traces.{rules_checked, tuples_checked}
use Rattle.trace_lines.specs.declared.cause.Cause.{Cause}
use Rattle.trace_lines.specs.declared.cause.Cause.TheVariants.{Commit}

-- no edge of the rules is broken
abbrev pub AreUnbroken : List Declaration → Type 0
AreUnbroken ds = first_broken ds (rule_edges ds) ≡ Ok (tt {0})

-- a value declared a namespace last, and before that no edge of the rules was broken
pub record IsDeclaredLast (ds : List Declaration) (d : Data) : Type 0 where
  pub before : List Declaration
  pub last : Declaration
  pub are : ds ≡ before ++ last ∷ []
  pub named : text_at (codes "name") d ≡ Some last.name
  pub unbroken : AreUnbroken before

-- the rules may change at a timestamp, where an index is of them and of what was added so far
pub record MayChange (at : ℕ) (ds : List Declaration) (edges : EdgeIndex) (ts : List TupleValue) : Type 0 where
  pub later : IsLater at ds
  pub unbroken : AreUnbroken ds
  pub tuples : first_broken ds (edges_of_tuples ds ts) ≡ Ok (tt {0})
  pub index : IsIndex ds edges ts

abbrev pub checked : List TupleValue → List Declaration → Result (List Declaration) Cause
checked ts ds = rules_checked ds >>= λ u. tuples_checked ds ts >>= λ v. Ok ds

abbrev pub changed_rules : ℕ → List Declaration → List TupleValue → Data → Result (List Declaration) Cause
changed_rules at ds ts d = namespace_cause (rules_change ds at d) >>= checked ts

-- the trace after a change, whose commit stands already
abbrev pub rules_changed : ℕ → TraceValue → Data → Result TraceValue Cause
rules_changed at t d = changed_rules at t.declarations (added t.commits) d >>= λ es. Ok (record t { declarations = es })

-- a change that is not later than the last commit is refused, for its own sake or for that
abbrev pub refused_late : ℕ → ℕ → List Declaration → Data → Result TraceValue Cause
refused_late last at ds d = namespace_cause (rules_change ds at d) >>= λ es. rules_checked es
    >>= λ u. Err (Commit (NotLater last))
