-- What a line makes of a trace, and the trace of an input.
use Rattle.std.specs.Prelude.{ℕ, ◌-◌, ◌^◌, ◌==◌, ◌&&◌, ◌||◌, not, Bool, List, [], ◌∷◌, ◌++◌, length, Option, None, Some, is_some, option_and_then, Result, Ok, Err, codes, bytes_eq, if◌then◌else◌}
use Rattle.std.specs.List.{list_all}
use Rattle.serde_json.specs.Data.{Data}
use Rattle.serde_json.specs.Find.{get, as_str}
use Rattle.tuple_text.specs.Sets.{SetValue}
use Rattle.tuple_text.specs.Tuples.{TupleValue}
use Rattle.namespaces.specs.Declaration.{Declaration}
use Rattle.namespaces.specs.Lookup.{relation_of}
use Rattle.namespaces.specs.Adding.{rules_add}
use Rattle.namespaces.specs.Changing.{rules_change}
use Rattle.version_chains.specs.Commits.{Commit, Changes, added}
use Rattle.version_chains.specs.Appends.{append_fault}
use Rattle.version_chains.specs.declared.fault.AppendFault.{AppendFault}
use Rattle.strata.specs.declared.edge.Edge.{Edge}
use Rattle.strata.specs.Edges.{first_broken, rule_edges, edges_of_tuples}
use Rattle.refusals.specs.Refusals.{◌>>=◌}
use Rattle.json_lines.specs.Json.{taken_line}
use Rattle.json_lines.specs.Reading.{cause_of, read_all}
use Rattle.json_lines.specs.Fields.{number_at, optional_number_at, flag_at, text_at, optional_text_at, strings_at}
use Rattle.trace_lines.specs.Causes.{needed, namespace_cause, of_input}
use Rattle.trace_lines.specs.Texts.{tuples_of, goal_of, token_of, version_at}
use Rattle.trace_lines.specs.Values.{EntryValue, TraceValue, empty_trace}
use Rattle.trace_lines.specs.Versions.{is_repeated}
use Rattle.trace_lines.specs.declared.entry.EntryKind.{EntryKind}
use Rattle.trace_lines.specs.declared.entry.EntryKind.TheVariants.{Check, Content}
use Rattle.trace_lines.specs.declared.cause.Cause.{Cause}
use Rattle.trace_lines.specs.declared.cause.Cause.TheVariants as causes
use Rattle.trace_lines.specs.declared.cause.TraceFault.{TraceFault}
use Rattle.json_lines.specs.declared.reading.LineFault.{LineFault}
use Rattle.namespaces.specs.declared.fault.RulesFault.TheVariants.{Shape}

-- declared on an earlier line
abbrev pub is_declared : List Declaration → SetValue → Bool
is_declared ds s = is_some (relation_of s.namespace s.relation ds)

abbrev pub are_declared : List Declaration → List TupleValue → Bool
are_declared ds ts = list_all (λ t. is_declared ds t.set) ts

-- ---- namespace lines

-- a commit or an entry stands on an earlier line
abbrev pub is_begun : TraceValue → Bool
is_begun t = not (length t.commit_lines == 0) || not (length t.entries == 0)

abbrev pub strata_cause : Result (Unit {0}) Edge → Result (Unit {0}) Cause
strata_cause (Ok u) = Ok u
strata_cause (Err e) = Err (causes.Strata e)

-- no edge of the rules is broken, or the first that is
abbrev pub rules_checked : List Declaration → Result (Unit {0}) Cause
rules_checked ds = strata_cause (first_broken ds (rule_edges ds))

-- the same of the edges of tuples
abbrev pub tuples_checked : List Declaration → List TupleValue → Result (Unit {0}) Cause
tuples_checked ds ts = strata_cause (first_broken ds (edges_of_tuples ds ts))

abbrev pub late_or : Bool → List Declaration → Result (List Declaration) Cause
late_or begun ds = if begun then Err causes.Late else (rules_checked ds >>= λ u. Ok ds)

-- the declarations after a namespace that is in force from the start on
abbrev pub with_namespace : Bool → List Declaration → Data → Result (List Declaration) Cause
with_namespace begun ds d = namespace_cause (rules_add ds d) >>= late_or begun

unfoldable pub namespace_line : TraceValue → Data → Result TraceValue Cause
namespace_line t d = with_namespace (is_begun t) t.declarations d >>= λ ds. Ok (record t { declarations = ds })

-- ---- commit lines

unfoldable pub commit_of : Data → Result Commit Cause
commit_of d = do
  at ← needed (number_at (codes "at") d)
  add ← needed (strings_at (codes "add") d)
  remove ← needed (strings_at (codes "remove") d)
  adds ← tuples_of add
  removes ← tuples_of remove
  Ok (record { at = at; adds = adds; removes = removes })

-- the store takes at most 2^32 - 1 touches
abbrev pub changes_of : TraceValue → Changes
changes_of t = record { limit = 2 ^ 32 - 1; commits = t.commits }

-- why a commit is refused: the first broken edge of what it adds, and then what the chains say
abbrev pub append_cause : Option AppendFault → Result (Unit {0}) Cause
append_cause None = Ok (tt {0})
append_cause (Some e) = Err (causes.Commit e)

abbrev pub commit_checked : List Declaration → Changes → ℕ → List TupleValue → List TupleValue → Result (Unit {0}) Cause
commit_checked ds old at adds removes = tuples_checked ds adds >>= λ u. append_cause (append_fault old at adds removes)

abbrev pub with_touches : ℕ → TraceValue → Commit → TraceValue
with_touches n t c = record t { commits = t.commits ++ c ∷ []; commit_lines = t.commit_lines ++ n ∷ [] }

unfoldable pub with_commit : ℕ → TraceValue → Commit → Result TraceValue Cause
with_commit n t c =
    if are_declared t.declarations c.adds && are_declared t.declarations c.removes
    then (commit_checked t.declarations (changes_of t) c.at c.adds c.removes >>= λ u. Ok (with_touches n t c))
    else Err causes.Unknown

abbrev pub commit_line : ℕ → TraceValue → Data → Result TraceValue Cause
commit_line n t d = commit_of d >>= with_commit n t

-- ---- change lines

-- a change is a commit without a touch at its timestamp
abbrev pub empty_commit : ℕ → Commit
empty_commit at = record { at = at; adds = []; removes = [] }

-- The edges of the rules are looked at before the timestamp, and those of all tuples ever added behind it.
unfoldable pub change_line : ℕ → ℕ → TraceValue → Data → Result TraceValue Cause
change_line at n t d = do
  ds ← namespace_cause (rules_change t.declarations at d)
  rules ← rules_checked ds
  timestamp ← append_cause (append_fault (changes_of t) at [] [])
  tuples ← tuples_checked ds (added t.commits)
  Ok (record (with_touches n t (empty_commit at)) { declarations = ds })

-- a namespace line with a timestamp changes the rules
abbrev pub declared_from : Option (Option ℕ) → ℕ → TraceValue → Data → Result TraceValue Cause
declared_from None n t d = Err (causes.Namespace Shape)
declared_from (Some None) n t d = namespace_line t d
declared_from (Some (Some at)) n t d = change_line at n t d

unfoldable pub declaration_line : ℕ → TraceValue → Data → Result TraceValue Cause
declaration_line n t d = declared_from (optional_number_at (codes "at") d) n t d

-- ---- check and content lines

unfoldable pub entry_of : EntryKind → ℕ → ℕ → Data → Result EntryValue Cause
entry_of kind n before d = do
  text ← needed (text_at (codes "goal") d)
  snapshot ← needed (number_at (codes "snapshot") d)
  reply ← needed (flag_at (codes "reply") d)
  zookie ← needed (optional_text_at (codes "zookie") d)
  version ← needed (version_at kind reply d)
  goal ← goal_of text
  token ← token_of zookie
  Ok (record {
    kind = kind;
    line = n;
    goal = goal;
    snapshot = snapshot;
    reply = reply;
    zookie = token;
    version = version;
    before = before;
  })

-- an object's version is issued once
abbrev pub recorded : TraceValue → EntryValue → Result TraceValue Cause
recorded t e = if is_repeated t.entries e then Err causes.RepeatedVersion
    else Ok (record t { entries = t.entries ++ e ∷ [] })

unfoldable pub with_entry : TraceValue → EntryValue → Result TraceValue Cause
with_entry t e = if is_declared t.declarations e.goal.set then recorded t e else Err causes.Unknown

abbrev pub entry_line : EntryKind → ℕ → TraceValue → Data → Result TraceValue Cause
entry_line kind n t d = entry_of kind n (length t.commits) d >>= with_entry t

-- ---- lines

abbrev pub of_kind : ℕ → TraceValue → Data → Option (List ℕ) → Result TraceValue Cause
of_kind n t d None = Err causes.Kind
of_kind n t d (Some kind) =
    if bytes_eq kind (codes "namespace") then declaration_line n t d
    else (if bytes_eq kind (codes "commit") then commit_line n t d
    else (if bytes_eq kind (codes "content") then entry_line Content n t d
    else (if bytes_eq kind (codes "check") then entry_line Check n t d
    else Err causes.Kind)))

unfoldable pub value_line : ℕ → TraceValue → Data → Result TraceValue Cause
value_line n t d = of_kind n t d (option_and_then as_str (get (codes "kind") d))

-- ---- the trace

abbrev pub faulted : Result TraceValue (LineFault Cause) → Result TraceValue TraceFault
faulted (Ok t) = Ok t
faulted (Err e) = Err (record { line = e.line; cause = cause_of of_input e.stop })

-- the trace that lines made, or the first of them that is refused
abbrev pub made_of : TraceValue → Result (Unit {0}) (LineFault Cause) → Result TraceValue TraceFault
made_of t (Ok u) = Ok t
made_of t (Err e) = faulted (Err e)

-- The trace that an input says, or its first fault. Whole says that the input ended, and did not fail.
abbrev pub trace_of : Bool → List ℕ → Result TraceValue TraceFault
trace_of whole input = faulted (read_all (taken_line causes.NotJson value_line) whole empty_trace input)
