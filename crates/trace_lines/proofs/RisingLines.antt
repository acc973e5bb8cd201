-- Commits and entries stand on lines that rise.
use Rattle.std.proofs.Common.{◌≡◌, ℕ, ◌+◌, ◌-◌, ◌≤◌, ◌&&◌, List, [], ◌∷◌, ◌++◌, length, get_or, Option, Some, None, Result, Ok, Err, arith, refl, inl, inr}
use Rattle.std.specs.Prelude.{codes, bytes_eq, option_and_then, OnOk}
use Rattle.std.specs.List.Sorted.{IsStrictlyIncreasing}
use Rattle.std.proofs.Math.ListN.{get_or-append}
use Rattle.std.proofs.Math.Seq.{get_or-append_seam}
use Rattle.std.proofs.lemmas.Bool.{cases_lt}
use Rattle.std.proofs.lemmas.List.{length-append, map-append}
use Rattle.std.proofs.lemmas.Option.{slice_get-get_or}
use Rattle.serde_json.specs.Data.{Data}
use Rattle.serde_json.specs.Find.{get, as_str}
use Rattle.namespaces.specs.Changing.{rules_change}
use Rattle.version_chains.specs.Commits.{Commit, added}
use Rattle.version_chains.specs.Appends.{append_fault}
use Rattle.refusals.proofs.Steps.{OkHas, passes, passes_with, either_passes, value_has}
use Rattle.serde_json.specs.Read.{read}
use Rattle.json_lines.specs.Json.{of_json}
use Rattle.trace_lines.specs.LineValues.{LineValue, commits, declares, placed_at, put_line, records}
use Rattle.trace_lines.specs.declared.cause.Cause.TheVariants as causes
use Rattle.json_lines.specs.Fields.{number_at, optional_number_at, flag_at, text_at, optional_text_at}
use Rattle.trace_lines.specs.Causes.{needed, namespace_cause, Gives}
use Rattle.trace_lines.specs.Texts.{goal_of, token_of, version_at}
use Rattle.trace_lines.specs.Values.{EntryValue, TraceValue, entry_lines, after_last, next_line}
use Rattle.trace_lines.specs.Versions.{is_repeated}
use Rattle.trace_lines.specs.declared.entry.EntryKind.{EntryKind}
use Rattle.trace_lines.specs.declared.entry.EntryKind.TheVariants.{Check, Content}
use Rattle.trace_lines.specs.Traces.{is_begun, namespace_line, commit_of, changes_of, with_commit, are_declared, entry_of, is_declared, recorded, with_entry, entry_line, of_kind, value_line, rules_checked, tuples_checked, with_namespace, append_cause, commit_checked, with_touches, empty_commit, change_line, declared_from, declaration_line}
use Rattle.trace_lines.specs.declared.cause.Cause.{Cause}

pub last_of : (x : ℕ) (xs : List ℕ) → after_last (x ∷ xs) ≡ get_or (x ∷ xs) (length xs) 0 + 1
last_of x xs =
    let place : length (x ∷ xs) - 1 ≡ length xs = omega arith in
    rw (place, slice_get-get_or (x ∷ xs) (length xs) 0 (omega arith)) refl

-- the next number goes behind numbers that rise
pub rising_push : (ns : List ℕ) (n : ℕ) → IsStrictlyIncreasing ns → after_last ns ≤ n → IsStrictlyIncreasing (ns ++ n ∷ [])
rising_push [] n up le k h = absurd (omega arith)
rising_push (x ∷ xs) n up le k h =
    let len = length-append (x ∷ xs) (n ∷ []) in
    elim (cases_lt (k + 1) (length (x ∷ xs))) [
      | inl lt ↦ rw (get_or-append (x ∷ xs) (n ∷ []) 0 k (omega arith), get_or-append (x ∷ xs) (n ∷ []) 0 (k + 1) lt) (up k lt)
      | inr ge ↦
          let end : k + 1 ≡ length (x ∷ xs) = omega (arith, len) in
          let here : k ≡ length xs = omega (arith, end) in
          let last = last_of x xs in
          rw (get_or-append (x ∷ xs) (n ∷ []) 0 k (omega (arith, end)), end, get_or-append_seam (x ∷ xs) n [] 0, here) (omega (arith, last, le))
    ]

after_push : (ns : List ℕ) (n : ℕ) → after_last (ns ++ n ∷ []) ≡ n + 1
after_push ns n =
    let place : length (ns ++ n ∷ []) - 1 ≡ length ns = omega (arith, length-append ns (n ∷ [])) in
    rw (place, slice_get-get_or (ns ++ n ∷ []) (length ns) 0 (omega (arith, length-append ns (n ∷ []))), get_or-append_seam ns n [] 0) refl

-- ---- what each line leaves

abbrev pub Fits : ℕ → TraceValue → Type 0
Fits n t = next_line t ≤ n + 1

fits_as_before : (n : ℕ) (t : TraceValue) → next_line t ≤ n → Fits n t
fits_as_before n t le = omega (arith, le)

fits_namespace : (n : ℕ) (t : TraceValue) (d : Data) → next_line t ≤ n → OkHas (Fits n) (namespace_line t d)
unfolding namespace_line
fits_namespace n t d le = passes (Fits n) (with_namespace (is_begun t) t.declarations d) _ (λ ds. fits_as_before n t le)

fits_touches : (n : ℕ) (t : TraceValue) (c : Commit) → next_line t ≤ n → Fits n (with_touches n t c)
fits_touches n t c le = let after = after_push t.commit_lines n in omega (arith, after, le)

fits_change : (at n : ℕ) (t : TraceValue) (d : Data) → next_line t ≤ n → OkHas (Fits n) (change_line at n t d)
unfolding change_line
fits_change at n t d le =
    passes (Fits n) (namespace_cause (rules_change t.declarations at d)) _
    (λ ds. passes (Fits n) (rules_checked ds) _
    (λ u. passes (Fits n) (append_cause (append_fault (changes_of t) at [] [])) _
    (λ v. passes (Fits n) (tuples_checked ds (added t.commits)) _ (λ w. fits_touches n t (empty_commit at) le))))

fits_declared : (o : Option (Option ℕ)) (n : ℕ) (t : TraceValue) (d : Data) → next_line t ≤ n → OkHas (Fits n) (declared_from o n t d)
fits_declared None n t d le = tt
fits_declared (Some None) n t d le = fits_namespace n t d le
fits_declared (Some (Some at)) n t d le = fits_change at n t d le

pub fits_declaration : (n : ℕ) (t : TraceValue) (d : Data) → next_line t ≤ n → OkHas (Fits n) (declaration_line n t d)
unfolding declaration_line
fits_declaration n t d le = fits_declared (optional_number_at (codes "at") d) n t d le

pub fits_commit : (n : ℕ) (t : TraceValue) (c : Commit) → next_line t ≤ n → OkHas (Fits n) (with_commit n t c)
unfolding with_commit
fits_commit n t c le =
    either_passes (Fits n) (are_declared t.declarations c.adds && are_declared t.declarations c.removes) _ _ (passes (Fits n) (commit_checked t.declarations (changes_of t) c.at c.adds c.removes) _ (λ u. fits_touches n t c le)) tt

-- where an entry of a line stands
abbrev pub StandsAt : ℕ → ℕ → EntryValue → Type 0
StandsAt n before e = (e.line ≡ n) × (e.before ≡ before)

stands_at : (kind : EntryKind) (n before : ℕ) (d : Data) → OkHas (StandsAt n before) (entry_of kind n before d)
unfolding entry_of
stands_at kind n before d =
    passes _ (needed (text_at (codes "goal") d)) _
    (λ text. passes _ (needed (number_at (codes "snapshot") d)) _
    (λ snapshot. passes _ (needed (flag_at (codes "reply") d)) _
    (λ reply. passes _ (needed (optional_text_at (codes "zookie") d)) _
    (λ zookie. passes _ (needed (version_at kind reply d)) _
    (λ version. passes _ (goal_of text) _
    (λ goal. passes _ (token_of zookie) _ (λ token. (refl, refl))))))))

pub fits_entry : (n before : ℕ) (t : TraceValue) (e : EntryValue) → next_line t ≤ n → StandsAt n before e → OkHas (Fits n) (with_entry t e)
unfolding with_entry
fits_entry n before t e le at =
    either_passes (Fits n) (is_declared t.declarations e.goal.set) (recorded t e) _ (
    either_passes (Fits n) (is_repeated t.entries e) _ (Ok (record t { entries = t.entries ++ e ∷ [] })) tt (
    let lines : entry_lines (t.entries ++ e ∷ []) ≡ entry_lines t.entries ++ e.line ∷ [] = map-append (λ (x : EntryValue). x.line) t.entries (e ∷ []) in
    let after = after_push (entry_lines t.entries) e.line in
    rw lines (omega (arith, after, at.0, le))
    )
    )
    tt

fits_entry_line : (kind : EntryKind) (n : ℕ) (t : TraceValue) (d : Data) → next_line t ≤ n → OkHas (Fits n) (entry_line kind n t d)
fits_entry_line kind n t d le =
    passes_with (StandsAt n (length t.commits)) (Fits n) (entry_of kind n (length t.commits) d) (with_entry t) (stands_at kind n (length t.commits) d)
    (λ e at. fits_entry n (length t.commits) t e le at)

fits_kind : (n : ℕ) (t : TraceValue) (d : Data) (kind : Option (List ℕ)) → next_line t ≤ n → OkHas (Fits n) (of_kind n t d kind)
fits_kind n t d None le = tt
fits_kind n t d (Some kind) le =
    either_passes (Fits n) (bytes_eq kind (codes "namespace")) _ _ (fits_declaration n t d le)
    (either_passes (Fits n) (bytes_eq kind (codes "commit")) _ _ (passes (Fits n) (commit_of d) (with_commit n t) (λ c. fits_commit n t c le))
    (either_passes (Fits n) (bytes_eq kind (codes "content")) _ _ (fits_entry_line Content n t d le)
    (either_passes (Fits n) (bytes_eq kind (codes "check")) _ _ (fits_entry_line Check n t d le) tt)))

pub fits_value : (n : ℕ) (t : TraceValue) (d : Data) → next_line t ≤ n → OkHas (Fits n) (value_line n t d)
unfolding value_line
fits_value n t d le = fits_kind n t d (option_and_then as_str (get (codes "kind") d)) le

fits_text : (n : ℕ) (t : TraceValue) (o : Option Data) → next_line t ≤ n
    → OkHas (Fits n) (of_json causes.NotJson (declaration_line n t) o)
fits_text n t None le = tt
fits_text n t (Some d) le = fits_declaration n t d le

fits_put : (n : ℕ) (t : TraceValue) (l : LineValue) → next_line t ≤ n → OkHas (Fits n) (put_line n t l)
fits_put n t (declares text) le = fits_text n t (read text) le
fits_put n t (commits c) le = fits_commit n t c le
fits_put n t (records e) le =
    fits_entry n (length t.commits) t (placed_at n (length t.commits) e) le (refl, refl)

-- what a line says, put in, leaves room for the next
pub put_further : (n : ℕ) (t u : TraceValue) (l : LineValue) (result : Result (Unit {0}) Cause) → next_line t ≤ n
    → Gives (λ _. u) result (put_line n t l) → OnOk result (next_line u ≤ n + 1)
put_further n t u l (Ok x) le e = value_has (Fits n) (put_line n t l) u e (fits_put n t l le)
put_further n t u l (Err c) le e = tt

pub entry_stands : (kind : EntryKind) (n before : ℕ) (d : Data) (e : EntryValue) → entry_of kind n before d ≡ Ok e → (e.line ≡ n) × (e.before ≡ before)
entry_stands kind n before d e h = value_has (StandsAt n before) (entry_of kind n before d) e h (stands_at kind n before d)
