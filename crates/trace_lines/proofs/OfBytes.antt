-- What holds of the trace that bytes say, by induction over their lines.
use Rattle.std.proofs.Common.{◌≡◌, ℕ, ◌+◌, ◌-◌, ◌^◌, ◌<◌, ◌≤◌, ◌&&◌, ◌==◌, not, if◌then◌else◌, Bool, true, false, List, [], ◌∷◌, ◌++◌, length, Option, Some, None, Result, Ok, Err, refl, ap, ◌∙◌, append-nil, arith}
use Rattle.std.specs.Prelude.{codes, bytes_eq, option_and_then}
use Rattle.std.specs.List.Sorted.{IsStrictlyIncreasing}
use Rattle.std.specs.Str.{is_utf8}
use Rattle.std.proofs.lemmas.List.{map-append}
use Rattle.serde_json.specs.Data.{Data}
use Rattle.serde_json.specs.Find.{get, as_str}
use Rattle.serde_json.specs.Read.{read}
use Rattle.namespaces.specs.declared.fault.RulesFault.{RulesFault}
use Rattle.namespaces.specs.Declaration.{Declaration, addition, change}
use Rattle.namespaces.specs.Adding.{rules_add}
use Rattle.namespaces.specs.Adding as adding
use Rattle.namespaces.specs.Changing.{changed, rules_change, IsLater}
use Rattle.namespaces.specs.Lookup.{rule_at}
use Rattle.namespaces.proofs.Growth.{later_added, later_changed}
use Rattle.version_chains.specs.Commits.{Commit, added, store_at}
use Rattle.version_chains.specs.Appends.{append_fault}
use Rattle.version_chains.proofs.ApartLemmas.{touch-once}
use Rattle.strata.specs.Edges.{first_broken, edges_of_tuples}
use Rattle.strata.specs.Strata.{HasValidStrata}
use Rattle.refusals.specs.Refusals.{◌>>=◌}
use Rattle.refusals.proofs.Steps.{OkHas, passes, passes_with, either_passes, value_has}
use Rattle.json_lines.specs.Fields.{optional_number_at}
use Rattle.json_lines.specs.Json.{is_blank, of_json, json_line, taken_line}
use Rattle.json_lines.specs.Reading.{at_line, passes_limit, read_from, read_all, parts}
use Rattle.json_lines.specs.declared.reading.LineFault.{LineFault}
use Rattle.trace_lines.specs.Causes.{namespace_cause}
use Rattle.trace_lines.specs.Placed.{HasPlacedCommits}
use Rattle.trace_lines.specs.Values.{EntryValue, TraceValue, empty_trace, entry_lines, next_line}
use Rattle.trace_lines.specs.Versions.{AreIssuedOnce, is_repeated}
use Rattle.trace_lines.specs.Traces.{is_begun, rules_checked, tuples_checked, late_or, with_namespace, namespace_line, changes_of, append_cause, commit_checked, with_touches, with_commit, commit_of, empty_commit, change_line, declared_from, declaration_line, are_declared, entry_of, is_declared, recorded, with_entry, entry_line, of_kind, value_line, faulted, trace_of}
use Rattle.trace_lines.specs.Declaring.{changed_rules}
use Rattle.edge_checks.specs.Sampled.{Represents}
use Rattle.trace_lines.specs.Tuples.{IsOrderly}
use Rattle.trace_lines.specs.declared.entry.EntryKind.{EntryKind}
use Rattle.trace_lines.specs.declared.entry.EntryKind.TheVariants.{Check, Content}
use Rattle.trace_lines.specs.declared.cause.Cause.{Cause}
use Rattle.trace_lines.specs.declared.cause.Cause.TheVariants as causes
use Rattle.trace_lines.proofs.Orderly.{orderly_empty, orderly_commit, orderly_declared, orderly_change, nothing_before, valid_strata, commit_ok, accepted, added_pushed, last_pushed}
use Rattle.trace_lines.proofs.Placing.{ArePlaced, placed_empty, placed_push}
use Rattle.trace_lines.proofs.FirstIssuers.{HasFirstIssuers, first_issuers_empty, first_issuers_push, first_issuers_once}
use Rattle.trace_lines.proofs.RisingLines.{rising_push, fits_value, entry_stands}

-- ---- steps

-- what holds of each value that steps give, where each step tells what it gave
passes_told : {A B E : Type 0} (P : B → Type 0) (r : Result A E) (f : A → Result B E) → ((x : A) → r ≡ Ok x → OkHas P (f x)) → OkHas P (r >>= f)
passes_told P (Ok x) f k = k x refl
passes_told P (Err e) f k = tt

told : {A E : Type 0} (P : A → Type 0) (r : Result A E) → ((x : A) → r ≡ Ok x → P x) → OkHas P r
told P (Ok x) k = k x refl
told P (Err e) k = tt

both_hold : {A E : Type 0} (P Q : A → Type 0) (r : Result A E) → OkHas P r → OkHas Q r → OkHas (λ x. P x × Q x) r
both_hold P Q (Ok x) p q = (p, q)
both_hold P Q (Err e) p q = tt

-- ---- what is kept from one line to the next

-- no edge is broken, the commits are placed, and the entries stand on lines that rise, and issue no version twice
pub record IsSound (t : TraceValue) : Type 0 where
  pub orderly : IsOrderly t.declarations t.commits (added t.commits)
  pub placed : ArePlaced t.commit_lines t.commits
  pub rising : IsStrictlyIncreasing (entry_lines t.entries)
  pub once : HasFirstIssuers t.entries

pub sound_empty : IsSound empty_trace
sound_empty = record {
  orderly = orderly_empty;
  placed = placed_empty;
  rising = λ k lt. absurd (omega (arith, lt));
  once = first_issuers_empty;
}

-- a commit more, and what all have added
added_alike : (commits : List Commit) (c : Commit) → Represents (added (commits ++ c ∷ [])) (added commits ++ c.adds)
added_alike commits c ds = ap (λ ts. first_broken ds (edges_of_tuples ds ts)) (added_pushed commits c)

-- ---- lines of namespaces

abbrev KeepsLater : List Declaration → List Declaration → Type 0
KeepsLater ds es = (at : ℕ) → IsLater at ds → IsLater at es

of_rules : (P : List Declaration → Type 0) (r : Result (List Declaration) RulesFault) → OkHas P r → OkHas P (namespace_cause r)
of_rules P (Ok ds) h = h
of_rules P (Err f) h = tt

later_namespace : (begun : Bool) (ds : List Declaration) (d : Data) → OkHas (KeepsLater ds) (with_namespace begun ds d)
later_namespace begun ds d =
    passes_with (KeepsLater ds) (KeepsLater ds) (namespace_cause (rules_add ds d)) (late_or begun)
    (of_rules (KeepsLater ds) (rules_add ds d)
    (passes (KeepsLater ds) (adding.added ds d) _ (λ n at later. later_added (Ok (tt {0})) at ds (ds ++ addition n ∷ []) n refl tt later)))
    (λ es keeps. either_passes (KeepsLater ds) begun (Err causes.Late) _ tt (passes (KeepsLater ds) (rules_checked es) _ (λ u. keeps)))

sound_namespace : (t : TraceValue) (d : Data) → IsSound t → OkHas IsSound (namespace_line t d)
unfolding namespace_line
sound_namespace t d is =
    passes_told IsSound (with_namespace (is_begun t) t.declarations d) _
    (λ es made. record {
      orderly = orderly_declared (Ok (tt {0})) (is_begun t) t.declarations es t.commits (added t.commits) d is.orderly
          (nothing_before t.commit_lines (not (length t.entries == 0)) t.commits is.placed.counted) made tt
          (value_has (KeepsLater t.declarations) (with_namespace (is_begun t) t.declarations d) es made (later_namespace (is_begun t) t.declarations d));
      placed = is.placed;
      rising = is.rising;
      once = is.once;
    })

-- ---- lines of changes

abbrev IsBefore : ℕ → List Declaration → Type 0
IsBefore at es = (next : ℕ) → at < next → IsLater next es

before_next : (at : ℕ) (ds : List Declaration) (d : Data) → IsLater at ds → OkHas (IsBefore at) (rules_change ds at d)
before_next at ds d later =
    passes (IsBefore at) (changed ds d) _ (λ n next lt. later_changed (Ok (tt {0})) at next ds (ds ++ change at n ∷ []) n refl tt later lt)

module _ (at n : ℕ) (t : TraceValue) (d : Data) (le : next_line t ≤ n) (is : IsSound t) (room : append_cause (append_fault (changes_of t) at [] []) ≡ Ok (tt {0})) where
  fault : append_fault (changes_of t) at [] [] ≡ None
  fault = (commit_ok t.declarations (changes_of t) (empty_commit at) room).1

  -- the rules before the change, over its commit too
  orderly_before : IsOrderly t.declarations (t.commits ++ empty_commit at ∷ []) (added (t.commits ++ empty_commit at ∷ []))
  orderly_before =
      orderly_commit t.declarations t.commits (added t.commits) (added (t.commits ++ empty_commit at ∷ [])) is.orderly (empty_commit at) refl fault
      (added_alike t.commits (empty_commit at))

  later_before : IsLater at t.declarations
  later_before = is.orderly.later at (accepted t.commits (empty_commit at) fault).later

  sound_changed : (es : List Declaration) → namespace_cause (rules_change t.declarations at d) ≡ Ok es → rules_checked es ≡ Ok (tt {0})
      → tuples_checked es (added t.commits) ≡ Ok (tt {0}) → IsSound (record (with_touches n t (empty_commit at)) { declarations = es })
  sound_changed es made rules tuples =
      let same : added (t.commits ++ empty_commit at ∷ []) ≡ added t.commits = added_pushed t.commits (empty_commit at) ∙ append-nil (added t.commits) in
      let given : changed_rules at t.declarations (added (t.commits ++ empty_commit at ∷ [])) d ≡ Ok es = rw (same, made, rules, tuples) refl in
      record {
        orderly = orderly_change t.declarations es (t.commits ++ empty_commit at ∷ []) (added (t.commits ++ empty_commit at ∷ [])) at d orderly_before later_before
            (last_pushed t.commits (empty_commit at)) given
            (value_has (IsBefore at) (namespace_cause (rules_change t.declarations at d)) es made
            (of_rules (IsBefore at) (rules_change t.declarations at d) (before_next at t.declarations d later_before)));
        placed = placed_push t.commit_lines n t.commits (empty_commit at) is.placed (omega (arith, le)) fault;
        rising = is.rising;
        once = is.once;
      }

sound_change : (at n : ℕ) (t : TraceValue) (d : Data) → next_line t ≤ n → IsSound t → OkHas IsSound (change_line at n t d)
unfolding change_line
sound_change at n t d le is =
    passes_told IsSound (namespace_cause (rules_change t.declarations at d)) _
    (λ es made. passes_told IsSound (rules_checked es) _
    (λ u rules. passes_told IsSound (append_cause (append_fault (changes_of t) at [] [])) _
    (λ v room. passes_told IsSound (tuples_checked es (added t.commits)) _ (λ w tuples. sound_changed at n t d le is room es made rules tuples))))

sound_declared : (o : Option (Option ℕ)) (n : ℕ) (t : TraceValue) (d : Data) → next_line t ≤ n → IsSound t
    → OkHas IsSound (declared_from o n t d)
sound_declared None n t d le is = tt
sound_declared (Some None) n t d le is = sound_namespace t d is
sound_declared (Some (Some at)) n t d le is = sound_change at n t d le is

pub sound_declaration : (n : ℕ) (t : TraceValue) (d : Data) → next_line t ≤ n → IsSound t → OkHas IsSound (declaration_line n t d)
unfolding declaration_line
sound_declaration n t d le is = sound_declared (optional_number_at (codes "at") d) n t d le is

-- ---- lines of commits

pub sound_commit : (n : ℕ) (t : TraceValue) (c : Commit) → next_line t ≤ n → IsSound t → OkHas IsSound (with_commit n t c)
unfolding with_commit
sound_commit n t c le is =
    either_passes IsSound (are_declared t.declarations c.adds && are_declared t.declarations c.removes) _ (Err causes.Unknown)
    (passes_told IsSound (commit_checked t.declarations (changes_of t) c.at c.adds c.removes) _
    (λ u h.
    let fine = commit_ok t.declarations (changes_of t) c h in
    record {
      orderly = orderly_commit t.declarations t.commits (added t.commits) (added (t.commits ++ c ∷ [])) is.orderly c fine.0 fine.1 (added_alike t.commits c);
      placed = placed_push t.commit_lines n t.commits c is.placed (omega (arith, le)) fine.1;
      rising = is.rising;
      once = is.once;
    }))
    tt

-- ---- lines of entries

pub sound_entry : (n : ℕ) (t : TraceValue) (e : EntryValue) → next_line t ≤ n → e.line ≡ n → IsSound t → OkHas IsSound (with_entry t e)
unfolding with_entry
sound_entry n t e le at is =
    either_passes IsSound (is_declared t.declarations e.goal.set) (recorded t e) (Err causes.Unknown)
    (by_test (is_repeated t.entries e) refl)
    tt
  where
    by_test : (b : Bool) → is_repeated t.entries e ≡ b
        → OkHas IsSound (if b then Err causes.RepeatedVersion else Ok (record t { entries = t.entries ++ e ∷ [] }))
    by_test true is_said = tt
    by_test false is_said = record {
      orderly = is.orderly;
      placed = is.placed;
      rising = rw (map-append (λ (x : EntryValue). x.line) t.entries (e ∷ [])) (rising_push (entry_lines t.entries) e.line is.rising (omega (arith, at, le)));
      once = first_issuers_push t.entries e is.once is_said;
    }

sound_entry_line : (kind : EntryKind) (n : ℕ) (t : TraceValue) (d : Data) → next_line t ≤ n → IsSound t → OkHas IsSound (entry_line kind n t d)
sound_entry_line kind n t d le is =
    passes_told IsSound (entry_of kind n (length t.commits) d) (with_entry t)
    (λ e made. sound_entry n t e le (entry_stands kind n (length t.commits) d e made).0 is)

-- ---- all lines

sound_kind : (n : ℕ) (t : TraceValue) (d : Data) (kind : Option (List ℕ)) → next_line t ≤ n → IsSound t → OkHas IsSound (of_kind n t d kind)
sound_kind n t d None le is = tt
sound_kind n t d (Some kind) le is =
    either_passes IsSound (bytes_eq kind (codes "namespace")) _ _ (sound_declaration n t d le is)
    (either_passes IsSound (bytes_eq kind (codes "commit")) _ _ (passes IsSound (commit_of d) (with_commit n t) (λ c. sound_commit n t c le is))
    (either_passes IsSound (bytes_eq kind (codes "content")) _ _ (sound_entry_line Content n t d le is)
    (either_passes IsSound (bytes_eq kind (codes "check")) _ _ (sound_entry_line Check n t d le is) tt)))

sound_value : (n : ℕ) (t : TraceValue) (d : Data) → next_line t ≤ n → IsSound t → OkHas IsSound (value_line n t d)
unfolding value_line
sound_value n t d le is = sound_kind n t d (option_and_then as_str (get (codes "kind") d)) le is

-- what holds before line n
abbrev pub IsSoundBefore : ℕ → TraceValue → Type 0
IsSoundBefore n t = IsSound t × (next_line t ≤ n)

sound_json : (n : ℕ) (t : TraceValue) (o : Option Data) → IsSoundBefore n t → OkHas (IsSoundBefore (n + 1)) (of_json causes.NotJson (value_line n t) o)
sound_json n t None is = tt
sound_json n t (Some d) is = both_hold IsSound (λ u. next_line u ≤ n + 1) (value_line n t d) (sound_value n t d is.1 is.0) (fits_value n t d is.1)

sound_line : (n : ℕ) (t : TraceValue) (line : List ℕ) → IsSoundBefore n t → OkHas (IsSoundBefore (n + 1)) (taken_line causes.NotJson value_line n t line)
unfolding json_line
sound_line n t line is =
    let le = is.1 in
    either_passes (IsSoundBefore (n + 1)) (is_blank line) (Ok t) _ (is.0, omega (arith, le))
    (either_passes (IsSoundBefore (n + 1)) (is_utf8 line) _ (Err causes.NotJson) (sound_json n t (read line) is) tt)

on_line : {S C : Type 0} (P : S → Type 0) (n : ℕ) (r : Result S C) → OkHas P r → OkHas P (at_line n r)
on_line P n (Ok s) h = h
on_line P n (Err c) h = tt

pub sound_from : (n room : ℕ) (t : TraceValue) (lines : List (List ℕ)) → IsSoundBefore n t → OkHas IsSound (read_from (taken_line causes.NotJson value_line) true n room t lines)
sound_from n room t [] is = is.0
sound_from n room t (line ∷ lines) is =
    either_passes IsSound (passes_limit room line (not (length lines == 0))) _ _ tt
    (passes_with (IsSoundBefore (n + 1)) IsSound (at_line n (taken_line causes.NotJson value_line n t line)) _
    (on_line (IsSoundBefore (n + 1)) n (taken_line causes.NotJson value_line n t line) (sound_line n t line is))
    (λ u next. sound_from (n + 1) (room - (length line + 1)) u lines next))

sound_faulted : (r : Result TraceValue (LineFault Cause)) → OkHas IsSound r → OkHas IsSound (faulted r)
sound_faulted (Ok t) h = h
sound_faulted (Err e) h = tt

sound_bytes : (bytes : List ℕ) (t : TraceValue) → trace_of true bytes ≡ Ok t → IsSound t
unfolding read_all
sound_bytes bytes t h =
    value_has IsSound (trace_of true bytes) t h
    (sound_faulted (read_all (taken_line causes.NotJson value_line) true empty_trace bytes) (sound_from 1 (2 ^ 30) empty_trace (parts bytes) (sound_empty, omega arith)))

-- ---- the laws

module _ (t : TraceValue) (is : IsSound t) where
  pub strata_of_sound : (at : ℕ) → HasValidStrata (rule_at t.declarations at) (store_at t.commits at)
  strata_of_sound = valid_strata t.declarations t.commits (added t.commits) is.orderly

  pub versions_of_sound : AreIssuedOnce t.entries
  versions_of_sound = first_issuers_once t.entries is.once

  pub commits_of_sound : HasPlacedCommits t
  commits_of_sound = record {
    counted = is.placed.counted;
    lines = is.placed.lines_rise;
    timestamps = is.placed.times_rise;
    once = touch-once t.commits is.placed.apart;
  }

pub strata_of_bytes : (bytes : List ℕ) (t : TraceValue) → trace_of true bytes ≡ Ok t → (at : ℕ) → HasValidStrata (rule_at t.declarations at) (store_at t.commits at)
strata_of_bytes bytes t h = strata_of_sound t (sound_bytes bytes t h)

pub lines_of_bytes : (bytes : List ℕ) (t : TraceValue) → trace_of true bytes ≡ Ok t → IsStrictlyIncreasing (entry_lines t.entries)
lines_of_bytes bytes t h = (sound_bytes bytes t h).rising

pub versions_of_bytes : (bytes : List ℕ) (t : TraceValue) → trace_of true bytes ≡ Ok t → AreIssuedOnce t.entries
versions_of_bytes bytes t h = versions_of_sound t (sound_bytes bytes t h)

pub commits_placed : (bytes : List ℕ) (t : TraceValue) → trace_of true bytes ≡ Ok t → HasPlacedCommits t
commits_placed bytes t h = commits_of_sound t (sound_bytes bytes t h)
