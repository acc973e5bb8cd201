-- Parts that read make a whole: where the whole refuses a line, so does a part.
use Rattle.std.proofs.Common.{◌≡◌, ℕ, ◌+◌, ◌-◌, ◌^◌, ◌==◌, ◌&&◌, ◌||◌, not, Bool, true, false, cond, List, [], ◌∷◌, length, map, Option, Some, None, Result, Ok, Err, arith, refl, sym, ap, subst, ◌∙◌}
use Rattle.std.specs.Prelude.{codes, bytes_eq, filter, nat_eq, option_and_then}
use Rattle.std.specs.Str.{is_utf8}
use Rattle.std.proofs.lemmas.Bool.{eq-eqb, ne_eqb, not-false, or_right}
use Rattle.std.proofs.lemmas.Slice.Eq.{bytes_eq-Decides}
use Rattle.serde_json.specs.Data.{Data}
use Rattle.serde_json.specs.Find.{get, as_str}
use Rattle.serde_json.specs.Read.{read}
use Rattle.namespaces.specs.Declaration.{Declaration}
use Rattle.namespaces.specs.Adding.{rules_add}
use Rattle.namespaces.specs.Changing.{rules_change}
use Rattle.version_chains.specs.Commits.{Commit, added}
use Rattle.version_chains.specs.Appends.{append_fault}
use Rattle.refusals.specs.Refusals.{◌>>=◌}
use Rattle.refusals.proofs.Steps.{value_has}
use Rattle.json_lines.specs.Fields.{optional_number_at}
use Rattle.json_lines.specs.Json.{is_blank, of_json, json_line, taken_line}
use Rattle.json_lines.specs.Reading.{at_line, passes_limit, read_from, read_all, parts}
use Rattle.json_lines.specs.declared.lines.InputFault.TheVariants.{TooLong}
use Rattle.json_lines.specs.declared.reading.LineFault.{LineFault}
use Rattle.json_lines.specs.declared.reading.Stop.TheVariants.{Input}
use Rattle.tuple_text.specs.Tuples.{FactValue}
use Rattle.trace_lines.specs.Causes.{namespace_cause}
use Rattle.trace_lines.specs.Values.{EntryValue, TraceValue, empty_trace}
use Rattle.trace_lines.specs.Versions.{is_repeated}
use Rattle.trace_lines.specs.Traces.{is_begun, rules_checked, tuples_checked, late_or, namespace_line, changes_of, append_cause, commit_checked, with_commit, commit_of, commit_line, change_line, declared_from, declaration_line, are_declared, entry_of, is_declared, with_entry, entry_line, of_kind, value_line, faulted, trace_of}
use Rattle.trace_lines.specs.declared.entry.EntryKind.{EntryKind}
use Rattle.trace_lines.specs.declared.entry.EntryKind.TheVariants.{Check, Content}
use Rattle.trace_lines.specs.declared.cause.Cause.{Cause}
use Rattle.trace_lines.specs.declared.cause.Cause.TheVariants as causes
use Rattle.findings.specs.Parts.{is_of, part_of}
use Rattle.findings.specs.PartBytes.{is_entry_kind, goal_at, is_elsewhere, is_of_others, line_of_part}
use Rattle.findings.specs.Said.{said_from, IsReadPart, IsSaidBy}
use Rattle.findings.proofs.PartReads.{has_goal, line_carried, repeated_alike}

abbrev is_refused : {X : Type 0} → Result X Cause → Bool
is_refused (Ok x) = false
is_refused (Err e) = true

-- where the whole refuses, so does the part
abbrev Follows : Result TraceValue Cause → Result TraceValue Cause → Type 0
Follows whole part = is_refused whole ≡ true → is_refused part ≡ true

follows_then : {X : Type 0} (m : Result X Cause) (f g : X → Result TraceValue Cause) → ((x : X) → m ≡ Ok x → Follows (f x) (g x))
    → Follows (m >>= f) (m >>= g)
follows_then (Ok x) f g k = k x refl
follows_then (Err e) f g k = λ h. refl

follows_if : (b : Bool) (r s r2 s2 : Result TraceValue Cause) → Follows r r2 → Follows s s2 → Follows (cond b r s) (cond b r2 s2)
follows_if true r s r2 s2 h k = h
follows_if false r s r2 s2 h k = k

accepted : {X : Type 0} (x : X) (P : Type 0) → is_refused (Ok x) ≡ true → P
accepted x P h = absurd (let no : false ≡ true = h in cc)

-- ---- lines that each part has

checked : (r : Result (Unit {0}) Cause) (ds : List Declaration) (t u : TraceValue)
    → Follows ((r >>= λ v. Ok ds) >>= λ es. Ok (record t { declarations = es })) ((r >>= λ v. Ok ds) >>= λ es. Ok (record u { declarations = es }))
checked (Ok v) ds t u = λ h. accepted (record t { declarations = ds }) _ h
checked (Err e) ds t u = λ h. refl

declares : (b c : Bool) → (b ≡ true → c ≡ true) → (m : Result (List Declaration) Cause) (t u : TraceValue)
    → Follows ((m >>= late_or b) >>= λ es. Ok (record t { declarations = es })) ((m >>= late_or c) >>= λ es. Ok (record u { declarations = es }))
declares b c h (Err e) t u = λ r. refl
declares b true h (Ok ds) t u = λ r. refl
declares true false h (Ok ds) t u = let no : false ≡ true = h refl in cc
declares false false h (Ok ds) t u = checked (rules_checked ds) ds t u

module _ (objects : List ℕ → List ℕ → Bool) where
  namespace_follows : (t : TraceValue) (d : Data) → (is_begun t ≡ true → is_begun (part_of objects t) ≡ true)
      → Follows (namespace_line t d) (namespace_line (part_of objects t) d)
  unfolding namespace_line
  namespace_follows t d begun =
      declares (is_begun t) (is_begun (part_of objects t)) begun (namespace_cause (rules_add t.declarations d)) t (part_of objects t)

  change_follows : (at n : ℕ) (t : TraceValue) (d : Data) → Follows (change_line at n t d) (change_line at n (part_of objects t) d)
  unfolding change_line
  change_follows at n t d =
      follows_then (namespace_cause (rules_change t.declarations at d)) _ _
      (λ ds is. follows_then (rules_checked ds) _ _
      (λ u is. follows_then (append_cause (append_fault (changes_of t) at [] [])) _ _
      (λ v is. follows_then (tuples_checked ds (added t.commits)) _ _ (λ w is h. absurd (let no : false ≡ true = h in cc)))))

  declared_follows : (o : Option (Option ℕ)) (n : ℕ) (t : TraceValue) (d : Data) → (is_begun t ≡ true → is_begun (part_of objects t) ≡ true)
      → Follows (declared_from o n t d) (declared_from o n (part_of objects t) d)
  declared_follows None n t d begun = λ h. refl
  declared_follows (Some None) n t d begun = namespace_follows t d begun
  declared_follows (Some (Some at)) n t d begun = change_follows at n t d

  declaration_follows : (n : ℕ) (t : TraceValue) (d : Data) → (is_begun t ≡ true → is_begun (part_of objects t) ≡ true)
      → Follows (declaration_line n t d) (declaration_line n (part_of objects t) d)
  unfolding declaration_line
  declaration_follows n t d begun = declared_follows (optional_number_at (codes "at") d) n t d begun

  with_commit_follows : (n : ℕ) (t : TraceValue) (c : Commit) → Follows (with_commit n t c) (with_commit n (part_of objects t) c)
  unfolding with_commit
  with_commit_follows n t c =
      follows_if (are_declared t.declarations c.adds && are_declared t.declarations c.removes) _ _ _ _
      (follows_then (commit_checked t.declarations (changes_of t) c.at c.adds c.removes) _ _ (λ u is h. absurd (let no : false ≡ true = h in cc)))
      (λ h. refl)

  commit_follows : (n : ℕ) (t : TraceValue) (d : Data) → Follows (commit_line n t d) (commit_line n (part_of objects t) d)
  commit_follows n t d = follows_then (commit_of d) (with_commit n t) (with_commit n (part_of objects t)) (λ c is. with_commit_follows n t c)

  -- ---- lines of entries

  records : (b c : Bool) → c ≡ b → (t u : TraceValue) → Follows (cond b (Err causes.RepeatedVersion) (Ok t)) (cond c (Err causes.RepeatedVersion) (Ok u))
  records true c same t u = λ h. ap (λ (x : Bool). is_refused (cond x (Err causes.RepeatedVersion) (Ok u))) same
  records false c same t u = λ h. accepted t _ h

  entry_follows : (t : TraceValue) (e : EntryValue) → is_of objects e ≡ true → Follows (with_entry t e) (with_entry (part_of objects t) e)
  unfolding with_entry
  entry_follows t e kept =
      follows_if (is_declared t.declarations e.goal.set) _ _ _ _
      (records (is_repeated t.entries e) (is_repeated (filter (is_of objects) t.entries) e) (repeated_alike objects t.entries e kept) _ _)
      (λ h. refl)

  entry_line_follows : (kind : EntryKind) (n : ℕ) (t : TraceValue) (d : Data) → is_elsewhere objects (goal_at d) ≡ false
      → Follows (entry_line kind n t d) (entry_line kind n (part_of objects t) d)
  entry_line_follows kind n t d here =
      follows_then (entry_of kind n (length t.commits) d) (with_entry t) (with_entry (part_of objects t))
      (λ e made. let goal = value_has (λ x. goal_at d ≡ Ok x.goal) (entry_of kind n (length t.commits) d) e made (has_goal kind n (length t.commits) d) in
      entry_follows t e (not-false _ (ap (is_elsewhere objects) (sym goal) ∙ here)))

  -- ---- values

  by_kind : (ns co ct ck there : Bool) (a b c d a2 b2 c2 d2 : Result TraceValue Cause) → ((ct || ck) && there) ≡ false
      → (ns ≡ true → Follows a a2) → Follows b b2 → (there ≡ false → Follows c c2) → (there ≡ false → Follows d d2)
      → Follows (cond ns a (cond co b (cond ct c (cond ck d (Err causes.Kind))))) (cond ns a2 (cond co b2 (cond ct c2 (cond ck d2 (Err causes.Kind)))))
  by_kind true co ct ck there a b c d a2 b2 c2 d2 h ka kb kc kd = ka refl
  by_kind false true ct ck there a b c d a2 b2 c2 d2 h ka kb kc kd = kb
  by_kind false false true ck there a b c d a2 b2 c2 d2 h ka kb kc kd = kc h
  by_kind false false false true there a b c d a2 b2 c2 d2 h ka kb kc kd = kd h
  by_kind false false false false there a b c d a2 b2 c2 d2 h ka kb kc kd = λ r. refl

  kind_follows : (n : ℕ) (t : TraceValue) (d : Data) (kind : Option (List ℕ)) → (is_entry_kind kind && is_elsewhere objects (goal_at d)) ≡ false
      → (kind ≡ Some (codes "namespace") → is_begun t ≡ true → is_begun (part_of objects t) ≡ true)
      → Follows (of_kind n t d kind) (of_kind n (part_of objects t) d kind)
  kind_follows n t d None h begun = λ r. refl
  kind_follows n t d (Some kind) h begun =
      by_kind (bytes_eq kind (codes "namespace")) (bytes_eq kind (codes "commit")) (bytes_eq kind (codes "content")) (bytes_eq kind (codes "check")) (is_elsewhere objects (goal_at d))
      _ _ _ _ _ _ _ _ h
      (λ is. declaration_follows n t d (begun (ap (λ (k : List ℕ). Some k) ((bytes_eq-Decides kind (codes "namespace")).0 is))))
      (commit_follows n t d) (entry_line_follows Content n t d) (entry_line_follows Check n t d)

  value_follows : (n : ℕ) (t : TraceValue) (d : Data) → is_of_others objects (Some d) ≡ false
      → (option_and_then as_str (get (codes "kind") d) ≡ Some (codes "namespace") → is_begun t ≡ true → is_begun (part_of objects t) ≡ true)
      → Follows (value_line n t d) (value_line n (part_of objects t) d)
  unfolding value_line
  value_follows n t d h begun = kind_follows n t d (option_and_then as_str (get (codes "kind") d)) h begun

-- ---- which part refuses a line

module _ (part : List ℕ → List ℕ → ℕ) where
  abbrev objects : ℕ → List ℕ → List ℕ → Bool
  objects k n i = nat_eq (part n i) k

  -- some part has begun where the whole has
  first_part : List EntryValue → ℕ
  first_part [] = 0
  first_part (e ∷ es) = part e.goal.set.namespace e.goal.set.id

  begun_too : (t : TraceValue) → is_begun t ≡ true → is_begun (part_of (objects (first_part t.entries)) t) ≡ true
  unfolding first_part
  begun_too t = by_entries (not (length t.commit_lines == 0)) t.entries
    where
      some_kept : (a : Bool) (b : Bool) (e : EntryValue) (es : List EntryValue) → b ≡ true
          → (a || not (length (cond b (e ∷ es) es) == 0)) ≡ true
      some_kept a true e es is = or_right a (not (length (e ∷ es) == 0)) (ap not (ne_eqb (length (e ∷ es)) 0 (λ h. omega (arith, h))))
      some_kept a false e es is = let no : false ≡ true = is in cc

      by_entries : (a : Bool) (es : List EntryValue) → (a || not (length es == 0)) ≡ true
          → (a || not (length (filter (is_of (objects (first_part es))) es) == 0)) ≡ true
      by_entries a [] h = h
      by_entries a (e ∷ es) h =
          some_kept a (is_of (objects (part e.goal.set.namespace e.goal.set.id)) e) e (filter (is_of (objects (part
          e.goal.set.namespace e.goal.set.id))) es) (eq-eqb _ _ refl)

  -- the part that a goal asks of
  goal_part : Result FactValue Cause → ℕ
  goal_part (Ok goal) = part goal.set.namespace goal.set.id
  goal_part (Err c) = 0

  not_elsewhere : (r : Result FactValue Cause) → is_elsewhere (objects (goal_part r)) r ≡ false
  unfolding goal_part
  not_elsewhere (Ok goal) = ap not (eq-eqb (part goal.set.namespace goal.set.id) (part goal.set.namespace goal.set.id) refl)
  not_elsewhere (Err c) = refl

  no_others : (b : Bool) (r : Result FactValue Cause) → (b && is_elsewhere (objects (goal_part r)) r) ≡ false
  no_others true r = not_elsewhere r
  no_others false r = refl

  -- a part that refuses what the whole refuses
  record Refuser (t : TraceValue) (line : List ℕ) (whole : Result TraceValue Cause) (n : ℕ) : Type 0 where
    number : ℕ
    follows : Follows whole (taken_line causes.NotJson value_line n (part_of (objects number) t) (line_of_part (objects number) line))

  value_refuser : (n : ℕ) (t : TraceValue) (d : Data)
      → (k : ℕ) × (is_of_others (objects k) (Some d) ≡ false) × Follows (value_line n t d) (value_line n (part_of (objects k) t) d)
  value_refuser n t d = by_test (bytes_eq-of (option_and_then as_str (get (codes "kind") d))) refl
    where
      bytes_eq-of : Option (List ℕ) → Bool
      bytes_eq-of None = false
      bytes_eq-of (Some kind) = bytes_eq kind (codes "namespace")

      is_namespace : (o : Option (List ℕ)) → bytes_eq-of o ≡ true → o ≡ Some (codes "namespace")
      is_namespace None h = let no : false ≡ true = h in cc
      is_namespace (Some kind) h = ap (λ (k : List ℕ). Some k) ((bytes_eq-Decides kind (codes "namespace")).0 h)

      not_namespace : (o : Option (List ℕ)) → bytes_eq-of o ≡ false → o ≡ Some (codes "namespace") → ⊥
      not_namespace None h is = cc
      not_namespace (Some kind) h is =
          let same : kind ≡ codes "namespace" = cc in
          let yes : bytes_eq kind (codes "namespace") ≡ true = (bytes_eq-Decides kind (codes "namespace")).1 same in
          let no : true ≡ false = sym yes ∙ h in cc

      by_test : (b : Bool) → bytes_eq-of (option_and_then as_str (get (codes "kind") d)) ≡ b
          → (k : ℕ) × (is_of_others (objects k) (Some d) ≡ false) × Follows (value_line n t d) (value_line n (part_of (objects k) t) d)
      by_test true is =
          let kind = is_namespace (option_and_then as_str (get (codes "kind") d)) is in
          let k = first_part t.entries in
          let others : is_of_others (objects k) (Some d) ≡ false =
          ap (λ (o : Option (List ℕ)). is_entry_kind o && is_elsewhere (objects k) (goal_at d)) kind in
          (k, others, value_follows (objects k) n t d others (λ _. begun_too t))
      by_test false is =
          let k = goal_part (goal_at d) in
          let others : is_of_others (objects k) (Some d) ≡ false = no_others (is_entry_kind (option_and_then as_str (get (codes "kind") d))) (goal_at d) in
          (k, others, value_follows (objects k) n t d others (λ kind. absurd (not_namespace (option_and_then as_str (get (codes "kind") d)) is kind)))

  -- the line stays in a part of which it is no entry of another's
  stays : (k : ℕ) (line : List ℕ) → (is_utf8 line && is_of_others (objects k) (read line)) ≡ false → line_of_part (objects k) line ≡ line
  stays k line h = ap (λ (b : Bool). cond b [] line) h

  text_refuser : (n : ℕ) (t : TraceValue) (line : List ℕ)
      → (k : ℕ) × ((is_utf8 line && is_of_others (objects k) (read line)) ≡ false)
      × Follows (json_line causes.NotJson (value_line n t) line) (json_line causes.NotJson (value_line n (part_of (objects k) t)) line)
  unfolding json_line
  text_refuser n t line = by_utf8 (is_utf8 line) (read line)
    where
      by_utf8 : (b : Bool) (o : Option Data) → (k : ℕ) × ((b && is_of_others (objects k) o) ≡ false)
          × Follows (cond b (of_json causes.NotJson (value_line n t) o) (Err causes.NotJson))
          (cond b (of_json causes.NotJson (value_line n (part_of (objects k) t)) o) (Err causes.NotJson))
      by_utf8 false o = (0, refl, λ h. refl)
      by_utf8 true None = (0, refl, λ h. refl)
      by_utf8 true (Some d) = value_refuser n t d

  line_refuser : (n : ℕ) (t : TraceValue) (line : List ℕ) → Refuser t line (taken_line causes.NotJson value_line n t line) n
  line_refuser n t line =
      let by = text_refuser n t line in
      record {
        number = by.0;
        follows = subst (λ (l : List ℕ). Follows (taken_line causes.NotJson value_line n t line)
            (taken_line causes.NotJson value_line n (part_of (objects by.0) t) l)) (sym (stays by.0 line by.1))
            (follows_if (is_blank line) (Ok t) _ (Ok (part_of (objects by.0) t)) _ (λ h. accepted t _ h) by.2);
      }

  -- ---- all lines

  abbrev cut : ℕ → List (List ℕ) → List (List ℕ)
  cut k lines = map (line_of_part (objects k)) lines

  whole_from : (n : ℕ) (t : TraceValue) (lines : List (List ℕ)) (us : ℕ → TraceValue)
      → ((k : ℕ) → said_from n (part_of (objects k) t) (cut k lines) ≡ Ok (us k))
      → (u : TraceValue) × (said_from n t lines ≡ Ok u) × ((k : ℕ) → us k ≡ part_of (objects k) u)
  whole_from n t [] us each = (t, refl, λ k. let same : Ok (part_of (objects k) t) ≡ Ok (us k) = each k in cc)
  whole_from n t (line ∷ lines) us each =
      by_line (λ v each. whole_from (n + 1) v lines us each) (taken_line causes.NotJson value_line n t line) refl
    where
      accepts : (r : Result TraceValue Cause) (u : TraceValue) (f : TraceValue → Result TraceValue Cause) → (r >>= f) ≡ Ok u → is_refused r ≡ true → ⊥
      accepts (Ok x) u f h refused = let no : false ≡ true = refused in cc
      accepts (Err e) u f h refused = cc

      by_line : ((v : TraceValue) → ((k : ℕ) → said_from (n + 1) (part_of (objects k) v) (cut k lines) ≡ Ok (us k))
          → (u : TraceValue) × (said_from (n + 1) v lines ≡ Ok u) × ((k : ℕ) → us k ≡ part_of (objects k) u))
          → (r : Result TraceValue Cause) → taken_line causes.NotJson value_line n t line ≡ r
          → (u : TraceValue) × ((r >>= λ v. said_from (n + 1) v lines) ≡ Ok u) × ((k : ℕ) → us k ≡ part_of (objects k) u)
      by_line further (Ok v) is =
          further v (λ k.
          let carried : taken_line causes.NotJson value_line n (part_of (objects k) t) (line_of_part (objects k) line) ≡ Ok (part_of (objects k) v) =
          value_has (λ (w : TraceValue). taken_line causes.NotJson value_line n (part_of (objects k) t) (line_of_part (objects k) line) ≡ Ok (part_of (objects k) w))
          (taken_line causes.NotJson value_line n t line) v is (line_carried (objects k) n t line) in
          sym (ap (λ (r : Result TraceValue Cause). r >>= λ w. said_from (n + 1) w (cut k lines)) carried) ∙ each k)
      by_line further (Err e) is =
          let by = line_refuser n t line in
          absurd (accepts _ (us by.number) _ (each by.number) (by.follows (ap is_refused is)))

-- ---- bytes

-- what is read within limits is said
without_limits : (n room : ℕ) (t : TraceValue) (lines : List (List ℕ)) (u : TraceValue)
    → read_from (taken_line causes.NotJson value_line) true n room t lines ≡ Ok u → said_from n t lines ≡ Ok u
without_limits n room t [] u h = let same : t ≡ u = cc in ap Ok same
without_limits n room t (line ∷ lines) u h =
    by_limit (λ v rest. without_limits (n + 1) (room - (length line + 1)) v lines u rest) (passes_limit room line (not (length lines == 0)))
    (taken_line causes.NotJson value_line n t line) h
  where
    further : TraceValue → Result TraceValue (LineFault Cause)
    further v = read_from (taken_line causes.NotJson value_line) true (n + 1) (room - (length line + 1)) v lines

    too_long : Result TraceValue (LineFault Cause)
    too_long = Err (record { line = n; stop = Input TooLong })

    by_limit : ((v : TraceValue) → further v ≡ Ok u → said_from (n + 1) v lines ≡ Ok u) → (b : Bool) (r : Result TraceValue Cause)
        → cond b too_long (at_line n r >>= further) ≡ Ok u → (r >>= λ v. said_from (n + 1) v lines) ≡ Ok u
    by_limit rest true r h = cc
    by_limit rest false (Ok v) h = rest v h
    by_limit rest false (Err c) h = cc

read_ok : (r : Result TraceValue (LineFault Cause)) (t : TraceValue) → faulted r ≡ Ok t → r ≡ Ok t
read_ok (Ok s) t h = let same : s ≡ t = cc in ap Ok same
read_ok (Err e) t h = cc

pub said_by_bytes : (bytes : List ℕ) (t : TraceValue) → trace_of true bytes ≡ Ok t → IsSaidBy (parts bytes) t
unfolding read_all
said_by_bytes bytes t h = without_limits 1 (2 ^ 30) empty_trace (parts bytes) t (read_ok _ t h)

pub whole_of_parts : (part : List ℕ → List ℕ → ℕ) (lines : List (List ℕ)) (ts : ℕ → TraceValue)
    → ((k : ℕ) → IsReadPart part lines k (ts k))
    → (t : TraceValue) × IsSaidBy lines t × ((k : ℕ) → ts k ≡ part_of (λ n i. nat_eq (part n i) k) t)
whole_of_parts part lines ts read =
    whole_from part 1 empty_trace lines ts (λ k.
    let r = read k in
    ap (said_from 1 empty_trace) (sym r.cut) ∙ said_by_bytes r.bytes (ts k) r.said)
