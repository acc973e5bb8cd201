-- The same lines behind a log and behind what stands in for it.
use Rattle.std.proofs.Common.{◌≡◌, ℕ, ◌+◌, ◌-◌, ◌≤◌, ◌^◌, ◌==◌, ◌&&◌, not, Bool, true, false, cond, List, [], ◌∷◌, ◌++◌, length, map, Option, None, Some, Result, Ok, Err, codes, unwrap_or, refl, sym, ◌∙◌, ap, subst, append_assoc, append-nil}
use Rattle.std.specs.Prelude.{option_and_then}
use Rattle.std.specs.Result.{result_ok}
use Rattle.std.specs.Str.{is_utf8}
use Rattle.std.proofs.lemmas.List.{append_cancel_left, map-append}
use Rattle.serde_json.specs.Data.{Data}
use Rattle.serde_json.specs.Read.{read}
use Rattle.refusals.specs.Refusals.{◌>>=◌}
use Rattle.namespaces.specs.Changing.{rules_change}
use Rattle.namespaces.specs.Declaration.{Declaration}
use Rattle.version_chains.specs.Commits.{Commit, added}
use Rattle.version_chains.specs.Appends.{append_fault}
use Rattle.json_lines.specs.Fields.{optional_number_at}
use Rattle.json_lines.specs.Json.{is_blank, json_line, of_json, taken_line}
use Rattle.json_lines.specs.Reading.{at_line, parts, passes_limit, read_from}
use Rattle.json_lines.specs.declared.lines.InputFault.TheVariants.{TooLong}
use Rattle.json_lines.specs.declared.reading.LineFault.{LineFault}
use Rattle.json_lines.specs.declared.reading.Stop.TheVariants.{Input}
use Rattle.trace_lines.specs.LineValues.{LineValue, line_of_text, placed_at, put_line}
use Rattle.trace_lines.specs.LineValues as line
use Rattle.trace_lines.specs.Traces.{append_cause, are_declared, change_line, changes_of, commit_checked, declaration_line, declared_from, empty_commit, is_begun, is_declared, namespace_line, rules_checked, tuples_checked, value_line, with_commit, with_entry, with_namespace, with_touches}
use Rattle.trace_lines.specs.Causes.{namespace_cause}
use Rattle.trace_lines.specs.Values.{EntryValue, TraceValue, next_line}
use Rattle.trace_lines.specs.Versions.{is_repeated}
use Rattle.trace_lines.specs.declared.cause.Cause.{Cause}
use Rattle.trace_lines.specs.declared.cause.Cause.TheVariants as causes
use Rattle.trace_lines.proofs.LineSplits.{text_splits}
use Rattle.windows.specs.Growth.{GoesOn}
use Rattle.carry_laws.specs.Carried.{GoesOnAlike, placeless}
use Rattle.runs.specs.DeclaredTexts.{rules_said}
use Rattle.runs.specs.Kept.{log_behind}
use Rattle.runs.proofs.DeclaredLemmas.{declaration_said, passed, step}
use Rattle.runs.proofs.KeptReadLemmas.{goes_behind, said_lines}

-- ---- what a line adds, whatever stands before it

-- a change of rules is a commit without a touch
abbrev changes_in : Option (Option ℕ) → List Commit
changes_in (Some (Some at)) = empty_commit at ∷ []
changes_in (Some None) = []
changes_in None = []

abbrev commits_in : LineValue → List Commit
commits_in (line.declares text) = changes_in (option_and_then (λ d. optional_number_at (codes "at") d) (read text))
commits_in (line.commits c) = c ∷ []
commits_in (line.records e) = []

abbrev lines_in : ℕ → LineValue → List ℕ
lines_in n l = map (λ c. n) (commits_in l)

abbrev entries_in : ℕ → LineValue → List EntryValue
entries_in n (line.declares text) = []
entries_in n (line.commits c) = []
entries_in n (line.records e) = placeless (placed_at n 0 e) ∷ []

abbrev declared_with : List Declaration → LineValue → List Declaration
declared_with ds (line.declares text) = unwrap_or (option_and_then (rules_said ds) (read text)) ds
declared_with ds (line.commits c) = ds
declared_with ds (line.records e) = ds

record Adds (n : ℕ) (l : LineValue) (t u : TraceValue) : Type 0 where
  declared : u.declarations ≡ declared_with t.declarations l
  committed : u.commits ≡ t.commits ++ commits_in l
  on_lines : u.commit_lines ≡ t.commit_lines ++ lines_in n l
  recorded : map placeless u.entries ≡ map placeless t.entries ++ entries_in n l

namespace_made : (t u : TraceValue) (d : Data) → namespace_line t d ≡ Ok u → (ds : List Declaration)
    × (record t { declarations = ds } ≡ u)
unfolding namespace_line
namespace_made t u d h =
    let one = step (with_namespace (is_begun t) t.declarations d) (λ ds. Ok (record t { declarations = ds })) u h in
    (one.0, let e = one.2 in cc)

change_made : (at n : ℕ) (t u : TraceValue) (d : Data) → change_line at n t d ≡ Ok u → (ds : List Declaration)
    × (record (with_touches n t (empty_commit at)) { declarations = ds } ≡ u)
unfolding change_line
change_made at n t u d h =
    let one = step (namespace_cause (rules_change t.declarations at d)) _ u h in (
      one.0,
      passed (rules_checked one.0) (append_cause (append_fault (changes_of t) at [] []))
          (tuples_checked one.0 (added t.commits)) (record (with_touches n t (empty_commit at)) { declarations = one.0 }) u one.2,
    )

declaration_adds : (n : ℕ) (t u : TraceValue) (text : List ℕ) (d : Data) → read text ≡ Some d → declaration_line n t d ≡ Ok u
    → Adds n (line.declares text) t u
unfolding declaration_line
declaration_adds n t u text d is h = by_time (optional_number_at (codes "at") d) refl h
  where
    said : declaration_line n t d ≡ Ok u → u.declarations ≡ declared_with t.declarations (line.declares text)
    said h = sym (ap (λ (o : Option Data). unwrap_or (option_and_then (rules_said t.declarations) o) t.declarations) is
        ∙ ap (λ (o : Option (List Declaration)). unwrap_or o t.declarations) (declaration_said n t u d h))

    changes : (o : Option (Option ℕ)) → optional_number_at (codes "at") d ≡ o → commits_in (line.declares text) ≡ changes_in o
    changes o at = ap (λ (p : Option Data). changes_in (option_and_then (λ x. optional_number_at (codes "at") x) p)) is
        ∙ ap changes_in at

    by_time : (o : Option (Option ℕ)) → optional_number_at (codes "at") d ≡ o → declared_from o n t d ≡ Ok u
        → Adds n (line.declares text) t u
    by_time None at h = cc
    by_time (Some None) at h =
        let made = namespace_made t u d h in record {
          declared = said (ap (λ (o : Option (Option ℕ)). declared_from o n t d) at ∙ h);
          committed = ap (λ (v : TraceValue). v.commits) (sym made.1) ∙ sym (append-nil t.commits)
              ∙ ap (λ (cs : List Commit). t.commits ++ cs) (sym (changes (Some None) at));
          on_lines = ap (λ (v : TraceValue). v.commit_lines) (sym made.1) ∙ sym (append-nil t.commit_lines)
              ∙ ap (λ (cs : List Commit). t.commit_lines ++ map (λ c. n) cs) (sym (changes (Some None) at));
          recorded = ap (λ (v : TraceValue). map placeless v.entries) (sym made.1) ∙ sym (append-nil (map placeless t.entries));
        }
    by_time (Some (Some time)) at h =
        let made = change_made time n t u d h in record {
          declared = said (ap (λ (o : Option (Option ℕ)). declared_from o n t d) at ∙ h);
          committed = ap (λ (v : TraceValue). v.commits) (sym made.1)
              ∙ ap (λ (cs : List Commit). t.commits ++ cs) (sym (changes (Some (Some time)) at));
          on_lines = ap (λ (v : TraceValue). v.commit_lines) (sym made.1)
              ∙ ap (λ (cs : List Commit). t.commit_lines ++ map (λ c. n) cs) (sym (changes (Some (Some time)) at));
          recorded = ap (λ (v : TraceValue). map placeless v.entries) (sym made.1) ∙ sym (append-nil (map placeless t.entries));
        }

commit_adds : (n : ℕ) (t u : TraceValue) (c : Commit) → with_commit n t c ≡ Ok u → Adds n (line.commits c) t u
unfolding with_commit
commit_adds n t u c h = by_test (are_declared t.declarations c.adds && are_declared t.declarations c.removes) h
  where
    by_test : (b : Bool)
        → cond b (commit_checked t.declarations (changes_of t) c.at c.adds c.removes >>= λ v. Ok (with_touches n t c)) (Err
        causes.Unknown) ≡ Ok u → Adds n (line.commits c) t u
    by_test true h =
        let checked = step (commit_checked t.declarations (changes_of t) c.at c.adds c.removes) (λ v. Ok (with_touches n t c)) u h in
        let made : u ≡ with_touches n t c = (let e = checked.2 in cc) in record {
          declared = ap (λ (v : TraceValue). v.declarations) made;
          committed = ap (λ (v : TraceValue). v.commits) made;
          on_lines = ap (λ (v : TraceValue). v.commit_lines) made;
          recorded = ap (λ (v : TraceValue). map placeless v.entries) made ∙ sym (append-nil (map placeless t.entries));
        }
    by_test false h = cc

entry_adds : (n before : ℕ) (t u : TraceValue) (e : EntryValue) → with_entry t (placed_at n before e) ≡ Ok u
    → Adds n (line.records e) t u
unfolding with_entry
entry_adds n before t u e h = by_test (is_declared t.declarations e.goal.set) (is_repeated t.entries (placed_at n before e)) h
  where
    by_test : (b c : Bool)
        → cond b (cond c (Err causes.RepeatedVersion) (Ok (record t { entries = t.entries ++ placed_at n before e ∷ [] })))
        (Err causes.Unknown) ≡ Ok u → Adds n (line.records e) t u
    by_test true true h = cc
    by_test true false h =
        let made : u ≡ record t { entries = t.entries ++ placed_at n before e ∷ [] } = cc in record {
          declared = ap (λ (v : TraceValue). v.declarations) made;
          committed = ap (λ (v : TraceValue). v.commits) made ∙ sym (append-nil t.commits);
          on_lines = ap (λ (v : TraceValue). v.commit_lines) made ∙ sym (append-nil t.commit_lines);
          recorded = ap (λ (v : TraceValue). map placeless v.entries) made
              ∙ map-append placeless t.entries (placed_at n before e ∷ []);
        }
    by_test false c h = cc

put_adds : (n : ℕ) (t u : TraceValue) (l : LineValue) → put_line n t l ≡ Ok u → Adds n l t u
put_adds n t u (line.declares text) h = by_read (read text) refl h
  where
    by_read : (o : Option Data) → read text ≡ o → of_json causes.NotJson (declaration_line n t) o ≡ Ok u
        → Adds n (line.declares text) t u
    by_read None is h = cc
    by_read (Some d) is h = declaration_adds n t u text d is h
put_adds n t u (line.commits c) h = commit_adds n t u c h
put_adds n t u (line.records e) h = entry_adds n (length t.commits) t u e h

-- ---- lines, from a number on

-- what a line says, if it says anything
abbrev said_on : List ℕ → Option LineValue
said_on l = cond (is_blank l) None (cond (is_utf8 l) (result_ok (line_of_text l)) None)

abbrev commits_on : Option LineValue → List Commit
commits_on None = []
commits_on (Some l) = commits_in l

abbrev entries_on : ℕ → Option LineValue → List EntryValue
entries_on n None = []
entries_on n (Some l) = entries_in n l

abbrev declared_on : List Declaration → Option LineValue → List Declaration
declared_on ds None = ds
declared_on ds (Some l) = declared_with ds l

abbrev all_commits : List (List ℕ) → List Commit
all_commits [] = []
all_commits (l ∷ ls) = commits_on (said_on l) ++ all_commits ls

abbrev all_lines : ℕ → List (List ℕ) → List ℕ
all_lines n [] = []
all_lines n (l ∷ ls) = map (λ c. n) (commits_on (said_on l)) ++ all_lines (n + 1) ls

abbrev all_entries : ℕ → List (List ℕ) → List EntryValue
all_entries n [] = []
all_entries n (l ∷ ls) = entries_on n (said_on l) ++ all_entries (n + 1) ls

abbrev all_declared : List Declaration → List (List ℕ) → List Declaration
all_declared ds [] = ds
all_declared ds (l ∷ ls) = all_declared (declared_on ds (said_on l)) ls

record AddsAll (n : ℕ) (ls : List (List ℕ)) (t u : TraceValue) : Type 0 where
  declared : u.declarations ≡ all_declared t.declarations ls
  committed : u.commits ≡ t.commits ++ all_commits ls
  on_lines : u.commit_lines ≡ t.commit_lines ++ all_lines n ls
  recorded : map placeless u.entries ≡ map placeless t.entries ++ all_entries n ls

record AddsOn (n : ℕ) (o : Option LineValue) (t u : TraceValue) : Type 0 where
  declared : u.declarations ≡ declared_on t.declarations o
  committed : u.commits ≡ t.commits ++ commits_on o
  on_lines : u.commit_lines ≡ t.commit_lines ++ map (λ c. n) (commits_on o)
  recorded : map placeless u.entries ≡ map placeless t.entries ++ entries_on n o

abbrev takes : ℕ → TraceValue → List ℕ → Result TraceValue Cause
takes = taken_line causes.NotJson value_line

nothing_added : (n : ℕ) (t : TraceValue) → AddsOn n None t t
nothing_added n t = record {
  declared = refl;
  committed = sym (append-nil t.commits);
  on_lines = sym (append-nil t.commit_lines);
  recorded = sym (append-nil (map placeless t.entries));
}

line_adds : (n : ℕ) (t u : TraceValue) (l : List ℕ) → takes n t l ≡ Ok u → AddsOn n (said_on l) t u
unfolding json_line
line_adds n t u l h = by_blank (is_blank l) h
  where
    by_line : (r : Result LineValue Cause) → (r >>= put_line n t) ≡ Ok u → AddsOn n (result_ok r) t u
    by_line (Err c) h = cc
    by_line (Ok v) h =
        let adds = put_adds n t u v h in
        record { declared = adds.declared; committed = adds.committed; on_lines = adds.on_lines; recorded = adds.recorded }

    by_utf8 : (b : Bool) → cond b (of_json causes.NotJson (value_line n t) (read l)) (Err causes.NotJson) ≡ Ok u
        → AddsOn n (cond b (result_ok (line_of_text l)) None) t u
    by_utf8 true h = by_line (line_of_text l) (sym (text_splits n t l) ∙ h)
    by_utf8 false h = cc

    by_blank : (b : Bool) → cond b (Ok t) (json_line causes.NotJson (value_line n t) l) ≡ Ok u
        → AddsOn n (cond b None (cond (is_utf8 l) (result_ok (line_of_text l)) None)) t u
    by_blank true h =
        let same : t ≡ u = cc in subst (λ (v : TraceValue). AddsOn n None t v) same (nothing_added n t)
    by_blank false h = by_utf8 (is_utf8 l) h

lines_add : (n room : ℕ) (t u : TraceValue) (ls : List (List ℕ)) → read_from takes true n room t ls ≡ Ok u → AddsAll n ls t u
lines_add n room t u [] h =
    let same : t ≡ u = cc in
    let none = nothing_added n t in
    subst (λ (v : TraceValue). AddsAll n [] t v) same
    (record { declared = refl; committed = none.committed; on_lines = none.on_lines; recorded = none.recorded })
lines_add n room t u (l ∷ ls) h =
    by_limit (λ v rest. lines_add (n + 1) (room - (length l + 1)) v u ls rest) (passes_limit room l (not (length ls == 0))) h
  where
    further : TraceValue → Result TraceValue (LineFault Cause)
    further v = read_from takes true (n + 1) (room - (length l + 1)) v ls

    by_line : ((v : TraceValue) → further v ≡ Ok u → AddsAll (n + 1) ls v u) → (r : Result TraceValue Cause) → takes n t l ≡ r
        → (at_line n r >>= further) ≡ Ok u → AddsAll n (l ∷ ls) t u
    by_line on (Err c) is h = cc
    by_line on (Ok v) is h =
        let one = line_adds n t v l is in
        let rest = on v h in record {
          declared = rest.declared ∙ ap (λ (ds : List Declaration). all_declared ds ls) one.declared;
          committed = rest.committed ∙ ap (λ (cs : List Commit). cs ++ all_commits ls) one.committed
              ∙ append_assoc t.commits (commits_on (said_on l)) (all_commits ls);
          on_lines = rest.on_lines ∙ ap (λ (ns : List ℕ). ns ++ all_lines (n + 1) ls) one.on_lines
              ∙ append_assoc t.commit_lines (map (λ c. n) (commits_on (said_on l))) (all_lines (n + 1) ls);
          recorded = rest.recorded ∙ ap (λ (es : List EntryValue). es ++ all_entries (n + 1) ls) one.recorded
              ∙ append_assoc (map placeless t.entries) (entries_on n (said_on l)) (all_entries (n + 1) ls);
        }

    by_limit : ((v : TraceValue) → further v ≡ Ok u → AddsAll (n + 1) ls v u) → (b : Bool)
        → cond b (Err (record { line = n; stop = Input TooLong })) (at_line n (takes n t l) >>= further) ≡ Ok u
        → AddsAll n (l ∷ ls) t u
    by_limit on true h = cc
    by_limit on false h = by_line on (takes n t l) refl h

-- ---- behind a log, and behind what has the same declarations

pub lines_alike : (n room : ℕ) (t u x y : TraceValue) (ls : List (List ℕ)) → (goes : GoesOn n t u)
    → x.declarations ≡ t.declarations → read_from takes true (n + 1) room t ls ≡ Ok u
    → read_from takes true (n + 1) room x ls ≡ Ok y → GoesOnAlike goes x y
lines_alike n room t u x y ls goes same one two =
    let a = lines_add (n + 1) room t u ls one in
    let b = lines_add (n + 1) room x y ls two in
    record {
      declared =
          b.declared
          ∙ ap (λ (ds : List Declaration). all_declared ds ls) same
          ∙ sym a.declared
          ∙ goes.declared
          ∙ ap (λ (ds : List Declaration). ds ++ goes.declarations) (sym same);
      committed = b.committed ∙ ap (λ (cs : List Commit). x.commits ++ cs) (append_cancel_left t.commits (all_commits ls)
          goes.commits (sym a.committed ∙ goes.committed));
      on_lines = b.on_lines ∙ ap (λ (ns : List ℕ). x.commit_lines ++ ns) (append_cancel_left t.commit_lines
          (all_lines (n + 1) ls) goes.commit_lines (sym a.on_lines ∙ goes.on_lines));
      recorded =
          b.recorded
          ∙ ap (λ (es : List EntryValue). map placeless x.entries ++ es) (append_cancel_left (map placeless t.entries)
          (all_entries (n + 1) ls) (map placeless goes.entries) (sym a.recorded
          ∙ ap (λ (es : List EntryValue). map placeless es) goes.recorded
          ∙ map-append placeless t.entries goes.entries))
          ∙ sym (map-append placeless x.entries goes.entries);
    }

pub come_alike : (lines : ℕ) (t u x y : TraceValue) (a : List ℕ) → x.declarations ≡ t.declarations
    → next_line t ≤ lines + 1 → log_behind (record { lines = lines; log = t }) true a ≡ Ok u
    → log_behind (record { lines = lines; log = x }) true a ≡ Ok y → (goes : GoesOn lines t u) × GoesOnAlike goes x y
come_alike lines t u x y a same fits one two =
    let goes = goes_behind (record { lines = lines; log = t }) fits a u one in (
      goes,
      lines_alike lines (2 ^ 30) t u x y (parts a) goes same (said_lines (record { lines = lines; log = t }) a u one)
          (said_lines (record { lines = lines; log = x }) a y two),
    )
