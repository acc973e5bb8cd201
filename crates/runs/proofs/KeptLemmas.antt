-- A log that keeps the texts of its declarations.
use Rattle.std.proofs.Common.{◌≡◌, ℕ, ◌+◌, ◌<◌, ◌≤◌, ◌⊎◌, inl, inr, Bool, true, false, cond, List, [], ◌∷◌, ◌++◌, length, Option, None, Some, Result, Ok, Err, codes, refl, ◌∙◌, ap, arith, length-append}
use Rattle.std.specs.Prelude.{bytes_eq, option_and_then}
use Rattle.std.specs.Result.{result_ok}
use Rattle.serde_json.specs.Data.{Data}
use Rattle.serde_json.specs.Find.{get, as_str}
use Rattle.serde_json.specs.Read.{read}
use Rattle.namespaces.specs.Adding.{rules_add}
use Rattle.namespaces.specs.Changing.{rules_change}
use Rattle.namespaces.specs.Declaration.{Declaration}
use Rattle.namespaces.specs.declared.fault.RulesFault.{RulesFault}
use Rattle.json_lines.specs.Fields.{optional_number_at}
use Rattle.json_lines.specs.Json.{of_json}
use Rattle.refusals.specs.Refusals.{Unless}
use Rattle.trace_lines.specs.Causes.{Gives, is_memory}
use Rattle.trace_lines.specs.declared.cause.Cause.{Cause}
use Rattle.trace_lines.specs.Traces.{commit_line, commit_of, declaration_line, entry_line, entry_of, of_kind, value_line, with_commit, with_entry}
use Rattle.trace_lines.specs.Values.{TraceValue}
use Rattle.trace_lines.specs.declared.cause.Cause.TheVariants as causes
use Rattle.trace_lines.specs.declared.entry.EntryKind.{EntryKind}
use Rattle.trace_lines.specs.declared.entry.EntryKind.TheVariants.{Check, Content}
use Rattle.trace_lines.proofs.Declared.{addition_made, change_made}
use Rattle.runs.specs.DeclaredTexts.{declared_by, rules_from, rules_said}
use Rattle.runs.specs.Kept.{kept_behind, kept_line}
use Rattle.runs.proofs.DeclaredLemmas.{commit_keeps, declaration_said, entry_keeps, step}

-- ---- a line declares, or what was declared stays

entry_line_keeps : (kind : EntryKind) (n : ℕ) (t u : TraceValue) (d : Data) → entry_line kind n t d ≡ Ok u
    → t.declarations ≡ u.declarations
entry_line_keeps kind n t u d h =
    let made = step (entry_of kind n (length t.commits) d) (with_entry t) u h in
    entry_keeps t u made.0 made.2

commit_line_keeps : (n : ℕ) (t u : TraceValue) (d : Data) → commit_line n t d ≡ Ok u → t.declarations ≡ u.declarations
commit_line_keeps n t u d h =
    let made = step (commit_of d) (with_commit n t) u h in
    commit_keeps n t u made.0 made.2

abbrev IsSaid : TraceValue → TraceValue → Data → Type 0
IsSaid t u d = (rules_said t.declarations d ≡ Some u.declarations) ⊎ (t.declarations ≡ u.declarations)

value_said : (n : ℕ) (t u : TraceValue) (d : Data) → value_line n t d ≡ Ok u → IsSaid t u d
unfolding value_line
value_said n t u d h = by_kind (option_and_then as_str (get (codes "kind") d)) h
  where
    by_kind : (o : Option (List ℕ)) → of_kind n t d o ≡ Ok u
        → (rules_said t.declarations d ≡ Some u.declarations) ⊎ (t.declarations ≡ u.declarations)
    by_kind None h = cc
    by_kind (Some kind) h =
        by_word (bytes_eq kind (codes "namespace")) (bytes_eq kind (codes "commit")) (bytes_eq kind (codes "content"))
        (bytes_eq kind (codes "check")) h
      where
        by_word : (a b x y : Bool)
            → cond a (declaration_line n t d) (cond b (commit_line n t d) (cond x (entry_line Content n t d)
            (cond y (entry_line Check n t d) (Err causes.Kind)))) ≡ Ok u
            → (rules_said t.declarations d ≡ Some u.declarations) ⊎ (t.declarations ≡ u.declarations)
        by_word true b x y h = inl (declaration_said n t u d h)
        by_word false true x y h = inr (commit_line_keeps n t u d h)
        by_word false false true y h = inr (entry_line_keeps Content n t u d h)
        by_word false false false true h = inr (entry_line_keeps Check n t u d h)
        by_word false false false false h = cc

-- ---- a line by the numbers of the whole

pub taken_kept : (lines n : ℕ) (t u : TraceValue) (r : Result (Unit {0}) Cause) (o : Option Data)
    → Gives (λ _. u) r (of_json causes.NotJson (value_line (lines + n) t) o)
    → Gives (λ _. record { lines = lines; log = u }) r (of_json causes.NotJson (kept_line n (record { lines = lines; log = t })) o)
taken_kept lines n t u (Ok x) None h = cc
taken_kept lines n t u (Ok x) (Some d) h = ap (kept_behind lines) h
taken_kept lines n t u (Err e) o h = by_memory (is_memory e) o h
  where
    by_memory : (b : Bool) (o : Option Data) → Unless b (of_json causes.NotJson (value_line (lines + n) t) o ≡ Err e)
        → Unless b (of_json causes.NotJson (kept_line n (record { lines = lines; log = t })) o ≡ Err e)
    by_memory true o h = tt
    by_memory false None h = cc
    by_memory false (Some d) h = ap (kept_behind lines) h

-- ---- a declaration more

there : (r : Result (List Declaration) RulesFault) (es : List Declaration) → result_ok r ≡ Some es → r ≡ Ok es
there (Ok ds) es h = let same : ds ≡ es = cc in ap Ok same
there (Err e) es h = cc

one_more : (ds es : List Declaration) (last : Declaration) → es ≡ ds ++ last ∷ [] → length es ≡ length ds + 1
one_more ds es last same = ap length same ∙ length-append ds (last ∷ [])

grown : (ds es : List Declaration) (d : Data) → rules_said ds d ≡ Some es → length es ≡ length ds + 1
grown ds es d h = by_time (optional_number_at (codes "at") d) h
  where
    by_time : (o : Option (Option ℕ)) → rules_from o ds d ≡ Some es → length es ≡ length ds + 1
    by_time None h = cc
    by_time (Some None) h = let made = addition_made ds es d (there (rules_add ds d) es h) in one_more ds es made.0 made.1
    by_time (Some (Some at)) h =
        let made = change_made ds es at d (there (rules_change ds at d) es h) in one_more ds es made.0 made.1

declared_more : (ds : List Declaration) (texts : List (List ℕ)) (text : List ℕ) (es : List Declaration)
    → declared_by ds texts ≡ Some es
    → declared_by ds (texts ++ text ∷ []) ≡ option_and_then (rules_said es) (read text)
declared_more ds [] text es h =
    let same : ds ≡ es = cc in
    whole (option_and_then (rules_said ds) (read text))
    ∙ ap (λ (fs : List Declaration). option_and_then (rules_said fs) (read text)) same
  where
    whole : (o : Option (List Declaration)) → option_and_then (λ fs. Some fs) o ≡ o
    whole None = refl
    whole (Some fs) = refl
declared_more ds (first ∷ texts) text es h =
    by_first (λ fs. declared_more fs texts text es) (option_and_then (rules_said ds) (read first)) h
  where
    by_first : ((fs : List Declaration) → declared_by fs texts ≡ Some es
        → declared_by fs (texts ++ text ∷ []) ≡ option_and_then (rules_said es) (read text))
        → (o : Option (List Declaration)) → option_and_then (λ fs. declared_by fs texts) o ≡ Some es
        → option_and_then (λ fs. declared_by fs (texts ++ text ∷ [])) o ≡ option_and_then (rules_said es) (read text)
    by_first rest None h = cc
    by_first rest (Some fs) h = rest fs h

-- ---- what is kept

-- A line of a text makes u of t, whose declarations these texts make.
module _ (n : ℕ) (t u : TraceValue) (text : List ℕ) (texts : List (List ℕ))
    (h : of_json causes.NotJson (value_line n t) (read text) ≡ Ok u) (before : declared_by [] texts ≡ Some t.declarations) where
  said : (d : Data) × (read text ≡ Some d) × IsSaid t u d
  said = by_read (read text) h
    where
      by_read : (o : Option Data) → of_json causes.NotJson (value_line n t) o ≡ Ok u → (d : Data) × (o ≡ Some d) × IsSaid t u d
      by_read None h = cc
      by_read (Some d) h = (d, refl, value_said n t u d h)

  pub kept_longer : length t.declarations < length u.declarations → declared_by [] (texts ++ text ∷ []) ≡ Some u.declarations
  kept_longer lt = elim said.2 [
    | inl declared ↦
        declared_more [] texts text t.declarations before
        ∙ ap (option_and_then (rules_said t.declarations)) said.1
        ∙ declared
    | inr same ↦ let long = ap length same in absurd (omega (arith, lt, long))
  ]

  pub kept_as_long : length u.declarations ≤ length t.declarations → declared_by [] texts ≡ Some u.declarations
  kept_as_long le = elim said.2 [
    | inl declared ↦ let long = grown t.declarations u.declarations said.0 declared in absurd (omega (arith, le, long))
    | inr same ↦ before ∙ ap Some same
  ]
