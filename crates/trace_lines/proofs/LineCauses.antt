-- A line is never refused as a failure of the reader.
use Rattle.std.proofs.Common.{ℕ, ◌&&◌, List, [], Option, Some, None, Result, Ok, Err, length, subst}
use Rattle.std.specs.Prelude.{codes, bytes_eq, option_and_then}
use Rattle.serde_json.specs.Data.{Data, Items, no_items, item}
use Rattle.serde_json.specs.Find.{get, as_str}
use Rattle.tuple_text.specs.declared.fault.TupleFault.{TupleFault}
use Rattle.tuple_text.specs.Reading.{tuple_at, fact_at}
use Rattle.zookie.specs.declared.fault.ZookieFault.{ZookieFault}
use Rattle.zookie.specs.Tokens.{Token}
use Rattle.zookie.specs.Reading.{token_at}
use Rattle.namespaces.specs.declared.fault.RulesFault.{RulesFault}
use Rattle.namespaces.specs.Declaration.{Declaration}
use Rattle.namespaces.specs.Adding.{rules_add}
use Rattle.namespaces.specs.Changing.{rules_change}
use Rattle.tuple_text.specs.Tuples.{TupleValue}
use Rattle.strata.specs.declared.edge.Edge.{Edge}
use Rattle.strata.specs.Edges.{first_broken, rule_edges, edges_of_tuples}
use Rattle.version_chains.specs.Commits.{Commit, Changes, added}
use Rattle.version_chains.specs.Appends.{append_fault}
use Rattle.version_chains.specs.declared.fault.AppendFault.{AppendFault}
use Rattle.refusals.proofs.Steps.{ErrHas, refused, either_refused, needed_refused, refusal_has}
use Rattle.json_lines.specs.Json.{taken_line}
use Rattle.json_lines.proofs.JsonLines.{line_refused}
use Rattle.json_lines.proofs.ReadFaults.{IsReadersOwn}
use Rattle.json_lines.specs.Fields.{number_at, optional_number_at, flag_at, text_at, optional_text_at, strings_at}
use Rattle.trace_lines.specs.Causes.{needed, text_cause, token_cause, namespace_cause, of_input}
use Rattle.trace_lines.specs.Texts.{tuple_of_text, tuples_of, goal_of, some_token, token_of, version_at}
use Rattle.trace_lines.specs.Values.{EntryValue, TraceValue}
use Rattle.trace_lines.specs.Traces.{is_begun, namespace_line, commit_of, changes_of, with_commit, are_declared, entry_of, is_declared, with_entry, entry_line, of_kind, value_line, strata_cause, rules_checked, tuples_checked, late_or, with_namespace, append_cause, commit_checked, change_line, declared_from, declaration_line}
use Rattle.trace_lines.specs.Versions.{is_repeated}
use Rattle.trace_lines.specs.declared.cause.Cause.{Cause}
use Rattle.trace_lines.specs.declared.entry.EntryKind.{EntryKind}
use Rattle.trace_lines.specs.declared.entry.EntryKind.TheVariants.{Check, Content}
use Rattle.trace_lines.specs.declared.cause.Cause.TheVariants as causes

-- no cause of the reader
abbrev pub IsOfLine : Cause → Type 0
IsOfLine causes.Read = ⊥
IsOfLine _ = Unit {0}

abbrev OfLine : {A : Type 0} → Result A Cause → Type 0
OfLine r = ErrHas IsOfLine r

of_needed : {A : Type 0} (o : Option A) → OfLine (needed o)
of_needed o = needed_refused IsOfLine causes.Shape o tt

of_text : {A : Type 0} (r : Result A TupleFault) → OfLine (text_cause r)
of_text (Ok x) = tt
of_text (Err e) = tt

of_some_token : (r : Result Token ZookieFault) → OfLine (some_token (token_cause r))
of_some_token (Ok x) = tt
of_some_token (Err e) = tt

of_token : (o : Option (List ℕ)) → OfLine (token_of o)
of_token None = tt
of_token (Some text) = of_some_token (token_at text)

of_rules : (r : Result (List Declaration) RulesFault) → OfLine (namespace_cause r)
of_rules (Ok x) = tt
of_rules (Err e) = tt

of_tuples : (items : Items) → OfLine (tuples_of items)
of_tuples no_items = tt
of_tuples (item d ds) =
    refused IsOfLine (tuple_of_text (as_str d)) _ (refused IsOfLine (needed (as_str d)) (λ t. text_cause (tuple_at t)) (of_needed (as_str d)) (λ t. of_text (tuple_at t)))
    (λ t. refused IsOfLine (tuples_of ds) _ (of_tuples ds) (λ ts. tt))

of_edges : (r : Result (Unit {0}) Edge) → OfLine (strata_cause r)
of_edges (Ok u) = tt
of_edges (Err e) = tt

of_chains : (o : Option AppendFault) → OfLine (append_cause o)
of_chains None = tt
of_chains (Some e) = tt

of_namespace_line : (t : TraceValue) (d : Data) → OfLine (namespace_line t d)
unfolding namespace_line
of_namespace_line t d =
    refused IsOfLine (with_namespace (is_begun t) t.declarations d) _
    (refused IsOfLine (namespace_cause (rules_add t.declarations d)) (late_or (is_begun t)) (of_rules (rules_add t.declarations d))
    (λ ds. either_refused IsOfLine (is_begun t) _ _ tt (refused IsOfLine (rules_checked ds) _ (of_edges (first_broken ds (rule_edges ds))) (λ u. tt)))) (λ ds. tt)

of_change_line : (at n : ℕ) (t : TraceValue) (d : Data) → OfLine (change_line at n t d)
unfolding change_line
of_change_line at n t d =
    refused IsOfLine (namespace_cause (rules_change t.declarations at d)) _ (of_rules (rules_change t.declarations at d))
    (λ ds. refused IsOfLine (rules_checked ds) _ (of_edges (first_broken ds (rule_edges ds)))
    (λ u. refused IsOfLine (append_cause (append_fault (changes_of t) at [] [])) _ (of_chains (append_fault (changes_of t) at [] []))
    (λ v. refused IsOfLine (tuples_checked ds (added t.commits)) _ (of_edges (first_broken ds (edges_of_tuples ds (added t.commits)))) (λ w. tt))))

of_declared : (o : Option (Option ℕ)) (n : ℕ) (t : TraceValue) (d : Data) → OfLine (declared_from o n t d)
of_declared None n t d = tt
of_declared (Some None) n t d = of_namespace_line t d
of_declared (Some (Some at)) n t d = of_change_line at n t d

of_declaration_line : (n : ℕ) (t : TraceValue) (d : Data) → OfLine (declaration_line n t d)
unfolding declaration_line
of_declaration_line n t d = of_declared (optional_number_at (codes "at") d) n t d

of_commit : (d : Data) → OfLine (commit_of d)
unfolding commit_of
of_commit d =
    refused IsOfLine (needed (number_at (codes "at") d)) _ (of_needed _)
    (λ at. refused IsOfLine (needed (strings_at (codes "add") d)) _ (of_needed _)
    (λ add. refused IsOfLine (needed (strings_at (codes "remove") d)) _ (of_needed _)
    (λ remove. refused IsOfLine (tuples_of add) _ (of_tuples add)
    (λ adds. refused IsOfLine (tuples_of remove) _ (of_tuples remove) (λ removes. tt)))))

of_commit_checked : (ds : List Declaration) (old : Changes) (at : ℕ) (adds removes : List TupleValue) → OfLine (commit_checked ds old at adds removes)
of_commit_checked ds old at adds removes =
    refused IsOfLine (tuples_checked ds adds) _ (of_edges (first_broken ds (edges_of_tuples ds adds))) (λ u. of_chains (append_fault old at adds removes))

of_with_commit : (n : ℕ) (t : TraceValue) (c : Commit) → OfLine (with_commit n t c)
unfolding with_commit
of_with_commit n t c =
    either_refused IsOfLine (are_declared t.declarations c.adds && are_declared t.declarations c.removes) _ _
    (refused IsOfLine (commit_checked t.declarations (changes_of t) c.at c.adds c.removes) _ (of_commit_checked t.declarations (changes_of t) c.at c.adds c.removes) (λ u. tt)) tt

of_entry : (kind : EntryKind) (n before : ℕ) (d : Data) → OfLine (entry_of kind n before d)
unfolding entry_of
of_entry kind n before d =
    refused IsOfLine (needed (text_at (codes "goal") d)) _ (of_needed _)
    (λ text. refused IsOfLine (needed (number_at (codes "snapshot") d)) _ (of_needed _)
    (λ snapshot. refused IsOfLine (needed (flag_at (codes "reply") d)) _ (of_needed _)
    (λ reply. refused IsOfLine (needed (optional_text_at (codes "zookie") d)) _ (of_needed _)
    (λ zookie. refused IsOfLine (needed (version_at kind reply d)) _ (of_needed _)
    (λ version. refused IsOfLine (goal_of text) _ (of_text (fact_at text))
    (λ goal. refused IsOfLine (token_of zookie) _ (of_token zookie) (λ token. tt)))))))

of_with_entry : (t : TraceValue) (e : EntryValue) → OfLine (with_entry t e)
unfolding with_entry
of_with_entry t e = either_refused IsOfLine (is_declared t.declarations e.goal.set) _ _ (either_refused IsOfLine (is_repeated t.entries e) _ _ tt tt) tt

of_entry_line : (kind : EntryKind) (n : ℕ) (t : TraceValue) (d : Data) → OfLine (entry_line kind n t d)
of_entry_line kind n t d = refused IsOfLine (entry_of kind n (length t.commits) d) (with_entry t) (of_entry kind n (length t.commits) d) (of_with_entry t)

of_a_kind : (n : ℕ) (t : TraceValue) (d : Data) (kind : Option (List ℕ)) → OfLine (of_kind n t d kind)
of_a_kind n t d None = tt
of_a_kind n t d (Some kind) =
    either_refused IsOfLine (bytes_eq kind (codes "namespace")) _ _ (of_declaration_line n t d)
    (either_refused IsOfLine (bytes_eq kind (codes "commit")) _ _ (refused IsOfLine (commit_of d) (with_commit n t) (of_commit d) (of_with_commit n t))
    (either_refused IsOfLine (bytes_eq kind (codes "content")) _ _ (of_entry_line Content n t d)
    (either_refused IsOfLine (bytes_eq kind (codes "check")) _ _ (of_entry_line Check n t d) tt)))

of_value_line : (n : ℕ) (t : TraceValue) (d : Data) → OfLine (value_line n t d)
unfolding value_line
of_value_line n t d = of_a_kind n t d (option_and_then as_str (get (codes "kind") d))

-- what a line says, and how it is told, is never a failure of the reader
pub readers_own : IsReadersOwn (taken_line causes.NotJson value_line) of_input
readers_own = record {
  of_no_line = λ n t line c e told. subst IsOfLine told (refusal_has IsOfLine (taken_line causes.NotJson value_line n t line) c e (line_refused IsOfLine causes.NotJson value_line n t line tt (of_value_line n t)));
  not_too_long = λ e. cc;
  not_memory = λ e. cc;
}
