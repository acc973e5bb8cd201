-- What a log declares whose items say the texts.
use Rattle.std.proofs.Common.{◌≡◌, ℕ, ◌+◌, ◌++◌, ◌&&◌, Bool, true, false, cond, List, [], ◌∷◌, Option, None, Some, Result, Ok, Err, codes, refl, sym, ◌∙◌, ap}
use Rattle.std.specs.Prelude.{option_and_then, nat_lt, nat_le}
use Rattle.std.specs.Result.{result_ok}
use Rattle.serde_json.specs.Data.{Data}
use Rattle.serde_json.specs.Read.{read}
use Rattle.version_chains.specs.Appends.{append_fault}
use Rattle.version_chains.specs.Commits.{Commit, added}
use Rattle.namespaces.specs.Adding.{rules_add}
use Rattle.namespaces.specs.Changing.{rules_change}
use Rattle.namespaces.specs.Declaration.{Declaration}
use Rattle.namespaces.specs.declared.fault.RulesFault.{RulesFault}
use Rattle.refusals.specs.Refusals.{◌>>=◌}
use Rattle.json_lines.specs.Fields.{optional_number_at}
use Rattle.json_lines.specs.Json.{of_json}
use Rattle.trace_lines.specs.Causes.{namespace_cause}
use Rattle.trace_lines.specs.LineValues.{put_line, placed_at}
use Rattle.trace_lines.specs.LineValues as line
use Rattle.trace_lines.specs.Traces.{append_cause, are_declared, change_line, changes_of, commit_checked, declaration_line, declared_from, empty_commit, is_begun, is_declared, late_or, namespace_line, rules_checked, tuples_checked, with_commit, with_entry, with_namespace, with_touches}
use Rattle.trace_lines.specs.Values.{EntryValue, TraceValue, empty_trace}
use Rattle.trace_lines.specs.Versions.{is_repeated}
use Rattle.trace_lines.specs.declared.cause.Cause.{Cause}
use Rattle.trace_lines.specs.declared.cause.Cause.TheVariants as causes
use Rattle.carry.specs.Values.{CarryValue, ItemValue, SaidValue, declares, commits, records}
use Rattle.runs.specs.Begins.{line_of, log_from, log_of, with_item}
use Rattle.runs.specs.DeclaredTexts.{declared_by, declared_in, rules_from, rules_said, with_declared}
use Rattle.runs.specs.Faults.{refused_at}
use Rattle.runs.specs.declared.fault.BeginFault.TheVariants.{OutOfOrder}

pub step : {A B E : Type 0} (r : Result A E) (f : A → Result B E) (y : B) → (r >>= f) ≡ Ok y → (x : A) × (r ≡ Ok x) × (f x ≡ Ok y)
step (Ok x) f y h = (x, refl, h)
step (Err e) f y h = cc

-- ---- a declaration

cause_ok : (r : Result (List Declaration) RulesFault) (ds : List Declaration) → namespace_cause r ≡ Ok ds → r ≡ Ok ds
cause_ok (Ok es) ds h = let same : es ≡ ds = cc in ap Ok same
cause_ok (Err e) ds h = cc

late_same : (begun : Bool) (ds es : List Declaration) → late_or begun ds ≡ Ok es → ds ≡ es
late_same true ds es h = cc
late_same false ds es h =
    let checked = step (rules_checked ds) (λ u. Ok ds) es h in
    let made = checked.2 in
    cc

namespace_said : (t u : TraceValue) (d : Data) → namespace_line t d ≡ Ok u
    → result_ok (rules_add t.declarations d) ≡ Some u.declarations
unfolding namespace_line
namespace_said t u d h =
    let one = step (with_namespace (is_begun t) t.declarations d) (λ ds. Ok (record t { declarations = ds })) u h in
    let two = step (namespace_cause (rules_add t.declarations d)) (late_or (is_begun t)) one.0 one.1 in
    let made = cause_ok (rules_add t.declarations d) two.0 two.1 in
    let same = late_same (is_begun t) two.0 one.0 two.2 in
    let whole : record t { declarations = one.0 } ≡ u = (let e = one.2 in cc) in
    ap result_ok made ∙ ap Some (same ∙ ap (λ (v : TraceValue). v.declarations) whole)

pub passed : {A B C E : Type 0} (p : Result A E) (q : Result B E) (r : Result C E) (v u : TraceValue)
    → (p >>= λ a. q >>= λ b. r >>= λ c. Ok v) ≡ Ok u → v ≡ u
passed (Ok a) (Ok b) (Ok c) v u h = cc
passed (Ok a) (Ok b) (Err e) v u h = cc
passed (Ok a) (Err e) r v u h = cc
passed (Err e) q r v u h = cc

change_said : (at n : ℕ) (t u : TraceValue) (d : Data) → change_line at n t d ≡ Ok u
    → result_ok (rules_change t.declarations at d) ≡ Some u.declarations
unfolding change_line
change_said at n t u d h =
    let one = step (namespace_cause (rules_change t.declarations at d)) _ u h in
    let made = cause_ok (rules_change t.declarations at d) one.0 one.1 in
    let whole = passed (rules_checked one.0) (append_cause (append_fault (changes_of t) at [] []))
    (tuples_checked one.0 (added t.commits)) (record (with_touches n t (empty_commit at)) { declarations = one.0 }) u one.2 in
    ap result_ok made ∙ ap (λ (v : TraceValue). Some v.declarations) whole

pub declaration_said : (n : ℕ) (t u : TraceValue) (d : Data) → declaration_line n t d ≡ Ok u
    → rules_said t.declarations d ≡ Some u.declarations
unfolding declaration_line
declaration_said n t u d h = by_time (optional_number_at (codes "at") d) h
  where
    by_time : (o : Option (Option ℕ)) → declared_from o n t d ≡ Ok u → rules_from o t.declarations d ≡ Some u.declarations
    by_time None h = cc
    by_time (Some None) h = namespace_said t u d h
    by_time (Some (Some at)) h = change_said at n t u d h

text_said : (n : ℕ) (t u : TraceValue) (text : List ℕ) → put_line n t (line.declares text) ≡ Ok u
    → option_and_then (rules_said t.declarations) (read text) ≡ Some u.declarations
text_said n t u text h = by_read (read text) h
  where
    by_read : (o : Option Data) → of_json causes.NotJson (declaration_line n t) o ≡ Ok u
        → option_and_then (rules_said t.declarations) o ≡ Some u.declarations
    by_read None h = cc
    by_read (Some d) h = declaration_said n t u d h

-- ---- other lines declare nothing

pub commit_keeps : (n : ℕ) (t u : TraceValue) (c : Commit) → with_commit n t c ≡ Ok u → t.declarations ≡ u.declarations
unfolding with_commit
commit_keeps n t u c h = by_test (are_declared t.declarations c.adds && are_declared t.declarations c.removes) h
  where
    by_test : (b : Bool)
        → cond b (commit_checked t.declarations (changes_of t) c.at c.adds c.removes >>= λ v. Ok (with_touches n t c)) (Err
        causes.Unknown) ≡ Ok u → t.declarations ≡ u.declarations
    by_test true h =
        let checked = step (commit_checked t.declarations (changes_of t) c.at c.adds c.removes) (λ v. Ok (with_touches n t c)) u h in
        let made : with_touches n t c ≡ u = (let e = checked.2 in cc) in
        ap (λ (v : TraceValue). v.declarations) made
    by_test false h = cc

pub entry_keeps : (t u : TraceValue) (e : EntryValue) → with_entry t e ≡ Ok u → t.declarations ≡ u.declarations
unfolding with_entry
entry_keeps t u e h = by_test (is_declared t.declarations e.goal.set) (is_repeated t.entries e) h
  where
    by_test : (b c : Bool)
        → cond b (cond c (Err causes.RepeatedVersion) (Ok (record t { entries = t.entries ++ e ∷ [] }))) (Err causes.Unknown)
        ≡ Ok u → t.declarations ≡ u.declarations
    by_test true true h = cc
    by_test true false h =
        let made : record t { entries = t.entries ++ e ∷ [] } ≡ u = cc in ap (λ (v : TraceValue). v.declarations) made
    by_test false c h = cc

-- ---- the items

fits : (k : ℕ) (r : Result TraceValue Cause) (u : TraceValue) → refused_at k r ≡ Ok u → r ≡ Ok u
fits k (Ok v) u h = let same : v ≡ u = cc in ap Ok same
fits k (Err e) u h = cc

pub put : (lines k last : ℕ) (t u : TraceValue) (i : ItemValue) → with_item lines k last t i ≡ Ok u
    → put_line i.line t (line_of i.said) ≡ Ok u
put lines k last t u i h = by_test (nat_lt last i.line && nat_le i.line lines) h
  where
    by_test : (b : Bool) → cond b (refused_at k (put_line i.line t (line_of i.said))) (Err (OutOfOrder k)) ≡ Ok u
        → put_line i.line t (line_of i.said) ≡ Ok u
    by_test true h = fits k (put_line i.line t (line_of i.said)) u h
    by_test false h = cc

goes_on_from : (n : ℕ) (t u : TraceValue) (said : SaidValue) (texts : List (List ℕ)) (ds : List Declaration)
    → put_line n t (line_of said) ≡ Ok u → declared_by u.declarations texts ≡ Some ds
    → declared_by t.declarations (with_declared said texts) ≡ Some ds
goes_on_from n t u (declares text) texts ds h rest = rw (text_said n t u text h) rest
goes_on_from n t u (commits c) texts ds h rest =
    ap (λ (es : List Declaration). declared_by es texts) (commit_keeps n t u c h) ∙ rest
goes_on_from n t u (records e) texts ds h rest =
    ap (λ (es : List Declaration). declared_by es texts) (entry_keeps t u _ h) ∙ rest

log_said : (lines k last : ℕ) (t x : TraceValue) (is : List ItemValue) → log_from lines k last t is ≡ Ok x
    → declared_by t.declarations (declared_in is) ≡ Some x.declarations
log_said lines k last t x [] h = let same : t ≡ x = cc in ap (λ (v : TraceValue). Some v.declarations) same
log_said lines k last t x (i ∷ is) h =
    let first = step (with_item lines k last t i) (λ u. log_from lines (k + 1) i.line u is) x h in
    goes_on_from i.line t first.0 i.said (declared_in is) x.declarations (put lines k last t first.0 i first.1)
    (log_said lines (k + 1) i.line first.0 x is first.2)

-- The texts in a carry make the declarations of the log that it begins.
pub begun_texts : (c : CarryValue) (x : TraceValue) → log_of c ≡ Ok x → declared_by [] (declared_in c.items) ≡ Some x.declarations
begun_texts c x begun = log_said c.lines 0 0 empty_trace x c.items begun

pub begun_declares : (c : CarryValue) (x : TraceValue) (ds : List Declaration) → log_of c ≡ Ok x
    → declared_by [] (declared_in c.items) ≡ Some ds → x.declarations ≡ ds
begun_declares c x ds begun made =
    let same : Some x.declarations ≡ Some ds = sym (begun_texts c x begun) ∙ made in
    cc
