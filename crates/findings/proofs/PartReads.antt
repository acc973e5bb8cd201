-- A trace whose bytes have blank lines for the entries of other objects reads as the part with the entries of these.
use Rattle.std.proofs.Common.{◌≡◌, ℕ, ◌^◌, ◌≤◌, ◌==◌, ◌&&◌, ◌||◌, not, Bool, true, false, cond, List, [], ◌∷◌, ◌++◌, length, map, Option, Some, None, Result, Ok, Err, arith, refl, sym, ap, subst, ◌∙◌, append-nil}
use Rattle.std.specs.Prelude.{⊤, codes, bytes_eq, filter, is_none, is_some, option_map, option_and_then}
use Rattle.std.specs.List.{position_from}
use Rattle.std.specs.Str.{is_utf8}
use Rattle.std.proofs.lemmas.Bool.{ne_eqb, not-false, not-true, or_right}
use Rattle.std.proofs.lemmas.Slice.Eq.{bytes_eq-Decides}
use Rattle.serde_json.specs.Data.{Data}
use Rattle.serde_json.specs.Find.{get, as_str}
use Rattle.serde_json.specs.Read.{read}
use Rattle.namespaces.specs.Declaration.{Declaration}
use Rattle.namespaces.specs.Adding.{rules_add}
use Rattle.namespaces.specs.Changing.{rules_change}
use Rattle.version_chains.specs.Commits.{Commit, added}
use Rattle.version_chains.specs.Appends.{append_fault}
use Rattle.refusals.specs.Refusals.{◌>>=◌}
use Rattle.refusals.proofs.Steps.{OkHas, passes, either_passes, value_has}
use Rattle.json_lines.specs.Fields.{number_at, optional_number_at, flag_at, text_at, optional_text_at}
use Rattle.json_lines.specs.Json.{is_blank, of_json, json_line, taken_line}
use Rattle.json_lines.specs.Reading.{read_from, read_all, parts}
use Rattle.json_lines.specs.declared.reading.LineFault.{LineFault}
use Rattle.tuple_text.specs.Sets.{SetValue}
use Rattle.trace_lines.specs.Causes.{needed, namespace_cause}
use Rattle.trace_lines.specs.Texts.{goal_of, token_of, version_at}
use Rattle.trace_lines.specs.Values.{EntryValue, TraceValue, empty_trace}
use Rattle.trace_lines.specs.Versions.{Version, version_of, version_issued, entry_version, issues, is_repeated}
use Rattle.trace_lines.specs.Traces.{is_begun, rules_checked, tuples_checked, late_or, namespace_line, changes_of, append_cause, commit_checked, with_commit, commit_of, commit_line, change_line, declared_from, declaration_line, are_declared, entry_of, is_declared, with_entry, entry_line, of_kind, value_line, faulted, trace_of}
use Rattle.trace_lines.specs.declared.entry.EntryKind.{EntryKind}
use Rattle.trace_lines.specs.declared.entry.EntryKind.TheVariants.{Check, Content}
use Rattle.trace_lines.specs.declared.cause.Cause.{Cause}
use Rattle.trace_lines.specs.declared.cause.Cause.TheVariants as causes
use Rattle.findings.specs.Parts.{is_of, part_of}
use Rattle.findings.specs.PartBytes.{is_entry_kind, goal_at, is_elsewhere, is_of_others, line_of_part, IsPartOfBytes}
use Rattle.findings.proofs.PartLines.{lines_carried}
use Rattle.findings.proofs.PartLemmas.{found_alike, first_kept, issued_object, next_kept}

some_alike : {X Y : Type 0} (o : Option X) (p : Option Y) → is_none o ≡ is_none p → is_some o ≡ is_some p
some_alike None None h = refl
some_alike None (Some y) h = cc
some_alike (Some x) None h = cc
some_alike (Some x) (Some y) h = refl

issued_here : (k : EntryKind) (label : Option (List ℕ)) (s : SetValue) (v : Version) → version_issued k (option_map (version_of s) label) ≡ Some v → (v.namespace ≡ s.namespace) × (v.id ≡ s.id)
issued_here Check label s v h = cc
issued_here Content None s v h = cc
issued_here Content (Some l) s v h = let same : version_of s l ≡ v = cc in (ap (λ w. w.namespace) (sym same), ap (λ w. w.id) (sym same))

told : {A B E : Type 0} (P : B → Type 0) (r : Result A E) (f : A → Result B E) → ((x : A) → r ≡ Ok x → OkHas P (f x)) → OkHas P (r >>= f)
told P (Ok x) f k = k x refl
told P (Err e) f k = tt

pub has_goal : (kind : EntryKind) (n before : ℕ) (d : Data) → OkHas (λ e. goal_at d ≡ Ok e.goal) (entry_of kind n before d)
unfolding entry_of
has_goal kind n before d =
    told _ (needed (text_at (codes "goal") d)) _
    (λ text is. passes _ (needed (number_at (codes "snapshot") d)) _
    (λ snapshot. passes _ (needed (flag_at (codes "reply") d)) _
    (λ reply. passes _ (needed (optional_text_at (codes "zookie") d)) _
    (λ zookie. passes _ (needed (version_at kind reply d)) _
    (λ version. told _ (goal_of text) _
    (λ goal made. passes _ (token_of zookie) _ (λ token. rw is made)))))))

module _ (objects : List ℕ → List ℕ → Bool) where
  -- where the whole accepts a line, so does the part, and has the part of what the whole has then
  abbrev pub Carries : Result TraceValue Cause → Result TraceValue Cause → Type 0
  Carries whole part = OkHas (λ u. part ≡ Ok (part_of objects u)) whole

  abbrev part_read : TraceValue → Result TraceValue Cause
  part_read t = Ok (part_of objects t)

  -- the line makes nothing of the part
  abbrev Drops : TraceValue → Result TraceValue Cause → Type 0
  Drops t whole = OkHas (λ u. part_read t ≡ part_read u) whole

  carries_then : {X : Type 0} (m : Result X Cause) (f g : X → Result TraceValue Cause) → ((x : X) → Carries (f x) (g x)) → Carries (m >>= f) (m >>= g)
  carries_then (Ok x) f g k = k x
  carries_then (Err e) f g k = tt

  carries_told : {X : Type 0} (m : Result X Cause) (f g : X → Result TraceValue Cause) → ((x : X) → m ≡ Ok x → Carries (f x) (g x)) → Carries (m >>= f) (m >>= g)
  carries_told (Ok x) f g k = k x refl
  carries_told (Err e) f g k = tt

  carries_if : (b : Bool) (r s r2 s2 : Result TraceValue Cause) → Carries r r2 → Carries s s2 → Carries (cond b r s) (cond b r2 s2)
  carries_if true r s r2 s2 h k = h
  carries_if false r s r2 s2 h k = k

  -- ---- namespaces, commits and changes

  not_begun : (a : Bool) (es : List EntryValue) → (a || not (length es == 0)) ≡ false → (a || not (length (filter (is_of objects) es) == 0)) ≡ false
  not_begun a [] h = h
  not_begun a (x ∷ xs) h = let no : true ≡ false = sym (or_right a (not (length (x ∷ xs) == 0)) (ap not (ne_eqb (length (x ∷ xs)) 0 (λ e. omega (arith, e))))) ∙ h in cc

  checked : (r : Result (Unit {0}) Cause) (ds : List Declaration) (t : TraceValue)
      → Carries ((r >>= λ u. Ok ds) >>= λ es. Ok (record t { declarations = es })) ((r >>= λ u. Ok ds) >>= λ es. Ok (record (part_of objects t) { declarations = es }))
  checked (Ok u) ds t = refl
  checked (Err e) ds t = tt

  declares : (b c : Bool) → (b ≡ false → c ≡ false) → (m : Result (List Declaration) Cause) (t : TraceValue)
      → Carries ((m >>= late_or b) >>= λ es. Ok (record t { declarations = es })) ((m >>= late_or c) >>= λ es. Ok (record (part_of objects t) { declarations = es }))
  declares true c h (Ok ds) t = tt
  declares true c h (Err e) t = tt
  declares false c h (Err e) t = tt
  declares false c h (Ok ds) t =
      subst (λ b. Carries ((rules_checked ds >>= λ u. Ok ds) >>= λ es. Ok (record t { declarations = es })) (late_or b ds >>= λ es. Ok (record (part_of objects t) { declarations = es })))
      (sym (h refl)) (checked (rules_checked ds) ds t)

  namespace_carried : (t : TraceValue) (d : Data) → Carries (namespace_line t d) (namespace_line (part_of objects t) d)
  unfolding namespace_line
  namespace_carried t d =
      declares (is_begun t) (is_begun (part_of objects t)) (not_begun (not (length t.commit_lines == 0)) t.entries) (namespace_cause (rules_add t.declarations d)) t

  change_carried : (at n : ℕ) (t : TraceValue) (d : Data) → Carries (change_line at n t d) (change_line at n (part_of objects t) d)
  unfolding change_line
  change_carried at n t d =
      carries_then (namespace_cause (rules_change t.declarations at d)) _ _
      (λ ds. carries_then (rules_checked ds) _ _
      (λ u. carries_then (append_cause (append_fault (changes_of t) at [] [])) _ _
      (λ v. carries_then (tuples_checked ds (added t.commits)) _ _ (λ w. refl))))

  declared_carried : (o : Option (Option ℕ)) (n : ℕ) (t : TraceValue) (d : Data) → Carries (declared_from o n t d) (declared_from o n (part_of objects t) d)
  declared_carried None n t d = tt
  declared_carried (Some None) n t d = namespace_carried t d
  declared_carried (Some (Some at)) n t d = change_carried at n t d

  declaration_carried : (n : ℕ) (t : TraceValue) (d : Data) → Carries (declaration_line n t d) (declaration_line n (part_of objects t) d)
  unfolding declaration_line
  declaration_carried n t d = declared_carried (optional_number_at (codes "at") d) n t d

  with_commit_carried : (n : ℕ) (t : TraceValue) (c : Commit) → Carries (with_commit n t c) (with_commit n (part_of objects t) c)
  unfolding with_commit
  with_commit_carried n t c =
      carries_if (are_declared t.declarations c.adds && are_declared t.declarations c.removes) _ _ _ _
      (carries_then (commit_checked t.declarations (changes_of t) c.at c.adds c.removes) _ _ (λ u. refl)) tt

  commit_carried : (n : ℕ) (t : TraceValue) (d : Data) → Carries (commit_line n t d) (commit_line n (part_of objects t) d)
  commit_carried n t d = carries_then (commit_of d) (with_commit n t) (with_commit n (part_of objects t)) (λ c. with_commit_carried n t c)

  -- ---- entries

  -- who issued the version that an entry issues asks of the same object
  same_issued : (e : EntryValue) (v : Version) → is_of objects e ≡ true → version_issued e.kind (entry_version e) ≡ Some v → (x : EntryValue) → issues v x ≡ true → is_of objects x ≡ true
  same_issued e v kept issued x h =
      let by = issued_object x.kind x.version x.goal.set v h in
      let of = issued_here e.kind e.version e.goal.set v issued in
      ap (λ n. objects n x.goal.set.id) (sym by.0 ∙ of.0) ∙ ap (λ i. objects e.goal.set.namespace i) (sym by.1 ∙ of.1) ∙ kept

  pub repeated_alike : (es : List EntryValue) (e : EntryValue) → is_of objects e ≡ true → is_repeated (filter (is_of objects) es) e ≡ is_repeated es e
  repeated_alike es e kept = by_version (version_issued e.kind (entry_version e)) refl
    where
      by_version : (o : Option Version) → version_issued e.kind (entry_version e) ≡ o
          → is_some (option_and_then (λ v. position_from (issues v) 0 (filter (is_of objects) es)) o) ≡ is_some (option_and_then (λ v. position_from (issues v) 0 es) o)
      by_version None issued = refl
      by_version (Some v) issued =
          some_alike (position_from (issues v) 0 (filter (is_of objects) es)) (position_from (issues v) 0 es)
          (found_alike (issues v) 0 (filter (is_of objects) es)
          ∙ ap (λ o. is_none o) (first_kept (is_of objects) (issues v) (same_issued e v kept issued) es)
          ∙ sym (found_alike (issues v) 0 es))

  records : (b c : Bool) → c ≡ b → (t : TraceValue) (e : EntryValue) → is_of objects e ≡ true
      → Carries (cond b (Err causes.RepeatedVersion) (Ok (record t { entries = t.entries ++ e ∷ [] })))
      (cond c (Err causes.RepeatedVersion) (Ok (record (part_of objects t) { entries = filter (is_of objects) t.entries ++ e ∷ [] })))
  records true c same t e kept = tt
  records false c same t e kept = rw same (ap (λ es. Ok (record (part_of objects t) { entries = es })) (sym (next_kept objects t [] t.entries e true kept)))

  entry_carried : (t : TraceValue) (e : EntryValue) → is_of objects e ≡ true → Carries (with_entry t e) (with_entry (part_of objects t) e)
  unfolding with_entry
  entry_carried t e kept =
      carries_if (is_declared t.declarations e.goal.set) _ _ _ _ (records (is_repeated t.entries e) (is_repeated (filter (is_of objects) t.entries) e) (repeated_alike t.entries e kept) t e kept) tt

  entry_dropped : (t : TraceValue) (e : EntryValue) → is_of objects e ≡ false → Drops t (with_entry t e)
  unfolding with_entry
  entry_dropped t e h =
      either_passes _ (is_declared t.declarations e.goal.set) _ _
      (either_passes _ (is_repeated t.entries e) _ _ tt
      (ap (λ es. Ok (record (part_of objects t) { entries = es })) (sym (next_kept objects t [] t.entries e false h ∙ append-nil (filter (is_of objects) t.entries)))))
      tt

  entry_line_carried : (kind : EntryKind) (n : ℕ) (t : TraceValue) (d : Data) → is_elsewhere objects (goal_at d) ≡ false → Carries (entry_line kind n t d) (entry_line kind n (part_of objects t) d)
  entry_line_carried kind n t d here =
      carries_told (entry_of kind n (length t.commits) d) (with_entry t) (with_entry (part_of objects t))
      (λ e made. let goal = value_has (λ x. goal_at d ≡ Ok x.goal) (entry_of kind n (length t.commits) d) e made (has_goal kind n (length t.commits) d) in
      entry_carried t e (not-false _ (ap (is_elsewhere objects) (sym goal) ∙ here)))

  entry_line_dropped : (kind : EntryKind) (n : ℕ) (t : TraceValue) (d : Data) → is_elsewhere objects (goal_at d) ≡ true → Drops t (entry_line kind n t d)
  entry_line_dropped kind n t d there =
      told _ (entry_of kind n (length t.commits) d) (with_entry t)
      (λ e made. let goal = value_has (λ x. goal_at d ≡ Ok x.goal) (entry_of kind n (length t.commits) d) e made (has_goal kind n (length t.commits) d) in
      entry_dropped t e (not-true _ (ap (is_elsewhere objects) (sym goal) ∙ there)))

  -- ---- values

  by_kind : (ns co ct ck there : Bool) (a b c d a2 b2 c2 d2 : Result TraceValue Cause) → ((ct || ck) && there) ≡ false
      → Carries a a2 → Carries b b2 → (there ≡ false → Carries c c2) → (there ≡ false → Carries d d2)
      → Carries (cond ns a (cond co b (cond ct c (cond ck d (Err causes.Kind))))) (cond ns a2 (cond co b2 (cond ct c2 (cond ck d2 (Err causes.Kind)))))
  by_kind true co ct ck there a b c d a2 b2 c2 d2 h ka kb kc kd = ka
  by_kind false true ct ck there a b c d a2 b2 c2 d2 h ka kb kc kd = kb
  by_kind false false true ck there a b c d a2 b2 c2 d2 h ka kb kc kd = kc h
  by_kind false false false true there a b c d a2 b2 c2 d2 h ka kb kc kd = kd h
  by_kind false false false false there a b c d a2 b2 c2 d2 h ka kb kc kd = tt

  kind_carried : (n : ℕ) (t : TraceValue) (d : Data) (kind : Option (List ℕ)) → (is_entry_kind kind && is_elsewhere objects (goal_at d)) ≡ false → Carries (of_kind n t d kind) (of_kind n (part_of objects t) d kind)
  kind_carried n t d None h = tt
  kind_carried n t d (Some kind) h =
      by_kind (bytes_eq kind (codes "namespace")) (bytes_eq kind (codes "commit")) (bytes_eq kind (codes "content")) (bytes_eq kind (codes "check")) (is_elsewhere objects (goal_at d))
      _ _ _ _ _ _ _ _ h (declaration_carried n t d) (commit_carried n t d) (entry_line_carried Content n t d) (entry_line_carried Check n t d)

  kind_dropped : (n : ℕ) (t : TraceValue) (d : Data) (kind : Option (List ℕ)) → (is_entry_kind kind && is_elsewhere objects (goal_at d)) ≡ true → Drops t (of_kind n t d kind)
  kind_dropped n t d None h = cc
  kind_dropped n t d (Some kind) h = by_test (bytes_eq kind (codes "content")) refl (bytes_eq kind (codes "check")) refl h
    where
      by_test : (ct : Bool) → bytes_eq kind (codes "content") ≡ ct → (ck : Bool) → bytes_eq kind (codes "check") ≡ ck → ((ct || ck) && is_elsewhere objects (goal_at d)) ≡ true → Drops t (of_kind n t d (Some kind))
      by_test true is ck _ there = subst (λ k. Drops t (of_kind n t d (Some k))) (sym ((bytes_eq-Decides kind (codes "content")).0 is)) (entry_line_dropped Content n t d there)
      by_test false _ true is there = subst (λ k. Drops t (of_kind n t d (Some k))) (sym ((bytes_eq-Decides kind (codes "check")).0 is)) (entry_line_dropped Check n t d there)
      by_test false _ false _ there = cc

  value_carried : (n : ℕ) (t : TraceValue) (d : Data) → is_of_others objects (Some d) ≡ false → Carries (value_line n t d) (value_line n (part_of objects t) d)
  unfolding value_line
  value_carried n t d h = kind_carried n t d (option_and_then as_str (get (codes "kind") d)) h

  value_dropped : (n : ℕ) (t : TraceValue) (d : Data) → is_of_others objects (Some d) ≡ true → Drops t (value_line n t d)
  unfolding value_line
  value_dropped n t d h = kind_dropped n t d (option_and_then as_str (get (codes "kind") d)) h

  -- ---- lines

  json_carried : (n : ℕ) (t : TraceValue) (o : Option Data) → is_of_others objects o ≡ false → Carries (of_json causes.NotJson (value_line n t) o) (of_json causes.NotJson (value_line n (part_of objects t)) o)
  json_carried n t None h = tt
  json_carried n t (Some d) h = value_carried n t d h

  json_dropped : (n : ℕ) (t : TraceValue) (o : Option Data) → is_of_others objects o ≡ true → Drops t (of_json causes.NotJson (value_line n t) o)
  json_dropped n t None h = tt
  json_dropped n t (Some d) h = value_dropped n t d h

  text_carried : (n : ℕ) (t : TraceValue) (line : List ℕ) → (is_utf8 line && is_of_others objects (read line)) ≡ false → Carries (json_line causes.NotJson (value_line n t) line) (json_line causes.NotJson (value_line n (part_of objects t)) line)
  unfolding json_line
  text_carried n t line = by_utf8 (is_utf8 line)
    where
      by_utf8 : (b : Bool) → (b && is_of_others objects (read line)) ≡ false
          → Carries (cond b (of_json causes.NotJson (value_line n t) (read line)) (Err causes.NotJson)) (cond b (of_json causes.NotJson (value_line n (part_of objects t)) (read line)) (Err causes.NotJson))
      by_utf8 true h = json_carried n t (read line) h
      by_utf8 false h = tt

  text_dropped : (n : ℕ) (t : TraceValue) (line : List ℕ) → (is_utf8 line && is_of_others objects (read line)) ≡ true → Drops t (json_line causes.NotJson (value_line n t) line)
  unfolding json_line
  text_dropped n t line = by_utf8 (is_utf8 line)
    where
      by_utf8 : (b : Bool) → (b && is_of_others objects (read line)) ≡ true → Drops t (cond b (of_json causes.NotJson (value_line n t) (read line)) (Err causes.NotJson))
      by_utf8 true h = json_dropped n t (read line) h
      by_utf8 false h = tt

  pub line_carried : (n : ℕ) (t : TraceValue) (line : List ℕ) → Carries (taken_line causes.NotJson value_line n t line) (taken_line causes.NotJson value_line n (part_of objects t) (line_of_part objects line))
  line_carried n t line = by_test (is_utf8 line && is_of_others objects (read line)) refl
    where
      by_test : (b : Bool) → (is_utf8 line && is_of_others objects (read line)) ≡ b
          → Carries (taken_line causes.NotJson value_line n t line) (taken_line causes.NotJson value_line n (part_of objects t) (cond b [] line))
      by_test true h = either_passes _ (is_blank line) (Ok t) _ refl (text_dropped n t line h)
      by_test false h = carries_if (is_blank line) _ _ _ _ refl (text_carried n t line h)

  shorter : (line : List ℕ) → length (line_of_part objects line) ≤ length line
  shorter line = by_test (is_utf8 line && is_of_others objects (read line))
    where
      by_test : (b : Bool) → length (cond b [] line) ≤ length line
      by_test true = omega arith
      by_test false = omega arith

  -- ---- all lines

  each_line : (n : ℕ) (t : TraceValue) (line : List ℕ) → ⊤
      → OkHas (λ u. ⊤ × (taken_line causes.NotJson value_line n (part_of objects t) (line_of_part objects line) ≡ Ok (part_of objects u))) (taken_line causes.NotJson value_line n t line)
  each_line n t line keeps = with_nothing (taken_line causes.NotJson value_line n t line) (line_carried n t line)
    where
      with_nothing : (whole : Result TraceValue Cause) → Carries whole (taken_line causes.NotJson value_line n (part_of objects t) (line_of_part objects line))
          → OkHas (λ u. ⊤ × (taken_line causes.NotJson value_line n (part_of objects t) (line_of_part objects line) ≡ Ok (part_of objects u))) whole
      with_nothing (Ok u) h = (tt, h)
      with_nothing (Err e) h = tt

  all_carried : (lines : List (List ℕ)) → OkHas (λ u. read_from (taken_line causes.NotJson value_line) true 1 (2 ^ 30) empty_trace (map (line_of_part objects) lines) ≡ Ok (part_of objects u))
      (read_from (taken_line causes.NotJson value_line) true 1 (2 ^ 30) empty_trace lines)
  all_carried lines =
      lines_carried (taken_line causes.NotJson value_line) (taken_line causes.NotJson value_line) (part_of objects) (λ t. ⊤) (line_of_part objects) shorter each_line
      1 (2 ^ 30) (2 ^ 30) empty_trace lines tt (omega arith)

has_faulted : (P : TraceValue → Type 0) (r : Result TraceValue (LineFault Cause)) → OkHas P r → OkHas P (faulted r)
has_faulted P (Ok t) h = h
has_faulted P (Err e) h = tt

pub bytes_of_part_law : (objects : List ℕ → List ℕ → Bool) (bytes part : List ℕ) (t : TraceValue) → trace_of true bytes ≡ Ok t → IsPartOfBytes objects part bytes → trace_of true part ≡ Ok (part_of objects t)
unfolding read_all
bytes_of_part_law objects bytes part t h same =
    let all = value_has (λ u. read_from (taken_line causes.NotJson value_line) true 1 (2 ^ 30) empty_trace (map (line_of_part objects) (parts bytes)) ≡ Ok (part_of objects u)) (trace_of true bytes) t h
    (has_faulted _ (read_all (taken_line causes.NotJson value_line) true empty_trace bytes) (all_carried objects (parts bytes))) in
    ap (λ ls. faulted (read_from (taken_line causes.NotJson value_line) true 1 (2 ^ 30) empty_trace ls)) same ∙ ap faulted all
