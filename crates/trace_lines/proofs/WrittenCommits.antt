-- A commit that is written plainly is read as its value, and commits what that says.
use Rattle.std.proofs.Common.{◌≡◌, ℕ, ◌<◌, ◌≤◌, ◌^◌, Bool, true, false, List, [], ◌∷◌, ◌++◌, map, Option, None, Some, option_map, Ok, codes, decimal, refl, ap, sym, ◌∙◌, arith, append_assoc}
use Rattle.json.specs.Print.{escape_byte, quoted}
use Rattle.json.specs.Tree.{depth, HasNumbers}
use Rattle.json.proofs.Printed.Decimals.{IsNumber-decimal}
use Rattle.serde_json.specs.Data.{Data, number, object, string, unsigned, Members}
use Rattle.serde_json.specs.Find.{get, get_member}
use Rattle.serde_json.specs.Read.{max_depth, of_json, read}
use Rattle.serde_json.specs.View.{items_of}
use Rattle.serde_json.specs.Written.{comma_if, compact_text, items_text, members_text, outline}
use Rattle.serde_json.proofs.Numbers.{number_of-decimal}
use Rattle.tuple_text.specs.Grammar.{IsTuple, tuple_text}
use Rattle.tuple_text.specs.Tuples.{TupleValue}
use Rattle.tuple_text.proofs.GrammarLaws.{tuple_again}
use Rattle.version_chains.specs.Commits.{Commit}
use Rattle.refusals.specs.Refusals.{◌>>=◌}
use Rattle.compact_json.proofs.Compact.{read_compact, texts_are_flat, texts_have_numbers, texts_make}
use Rattle.json_lines.specs.Fields.{are_strings, strings_of}
use Rattle.json_lines.specs.Json.{of_json as line_of_json}
use Rattle.trace_lines.specs.LineValues.{commits, line_said}
use Rattle.trace_lines.specs.Texts.{tuples_of}
use Rattle.trace_lines.specs.Traces.{commit_of}
use Rattle.trace_lines.specs.Written.{AreTuples, IsCommit, IsMore, commit_members, commit_spelled, list_text, listed, more_members, optional_list, put_more, tuples_data, with_tuples}
use Rattle.trace_lines.specs.declared.cause.Cause.TheVariants as causes
use Rattle.trace_lines.proofs.MoreMembers.{asked, more_are_flat, more_make, more_numbers}

-- ---- the texts of a list, as they are gone over

-- each with the comma behind it
abbrev pub with_commas : List TupleValue → List ℕ
with_commas [] = []
with_commas (t ∷ ts) = quoted (tuple_text t) ++ 44 ∷ with_commas ts

pub tuples_more : (ts : List TupleValue) (t : TupleValue) → AreTuples ts → IsTuple t → AreTuples (ts ++ t ∷ [])
tuples_more [] t all one = (one, tt)
tuples_more (u ∷ us) t all one = (all.0, tuples_more us t all.1 one)

-- one more, and what stands behind it
ends_with : (ts : List TupleValue) (t : TupleValue) (later : Bool) → items_text later (items_of (map (λ t. string (tuple_text t)) (ts ++ t ∷ [])))
    ≡ comma_if later ++ (with_commas ts ++ (quoted (tuple_text t) ++ 93 ∷ []))
ends_with [] t later = refl
ends_with (u ∷ us) t later =
    ap (λ l. comma_if later ++ l) (ap (λ l. quoted (tuple_text u) ++ l) (ends_with us t true)
    ∙ sym (append_assoc (quoted (tuple_text u)) (44 ∷ with_commas us) (quoted (tuple_text t) ++ 93 ∷ [])))

pub more_of : (ts : List TupleValue) (t : TupleValue) (rest : List ℕ) → with_commas (ts ++ t ∷ []) ++ rest ≡ with_commas ts ++ (quoted (tuple_text t) ++ 44 ∷ rest)
more_of [] t rest = append_assoc (quoted (tuple_text t)) (44 ∷ []) rest
more_of (u ∷ us) t rest =
    append_assoc (quoted (tuple_text u)) (44 ∷ with_commas (us ++ t ∷ [])) rest
    ∙ ap (λ l. quoted (tuple_text u) ++ 44 ∷ l) (more_of us t rest)
    ∙ sym (append_assoc (quoted (tuple_text u)) (44 ∷ with_commas us) (quoted (tuple_text t) ++ 44 ∷ rest))

pub list_closed : (ts : List TupleValue) (t : TupleValue) (rest : List ℕ) → with_commas ts ++ (quoted (tuple_text t) ++ 93 ∷ rest) ≡ list_text (ts ++ t ∷ []) rest
list_closed ts t rest =
    ap (λ l. with_commas ts ++ l) (sym (append_assoc (quoted (tuple_text t)) (93 ∷ []) rest))
    ∙ sym (append_assoc (with_commas ts) (quoted (tuple_text t) ++ 93 ∷ []) rest)
    ∙ ap (λ l. l ++ rest) (sym (ends_with ts t false))

-- ---- the text is that of the value

add_text : (o : Option (List TupleValue)) (rest : List ℕ) (ms : Members) → rest ≡ members_text true ms
    → optional_list (codes ",\"add\":[") o rest ≡ members_text true (with_tuples (codes "add") o ms)
unfolding escape_byte
add_text None rest ms same = same
add_text (Some ts) rest ms same = ap (λ r. codes ",\"add\":[" ++ list_text ts r) same

remove_text : (o : Option (List TupleValue)) (rest : List ℕ) (ms : Members) → rest ≡ members_text true ms
    → optional_list (codes ",\"remove\":[") o rest ≡ members_text true (with_tuples (codes "remove") o ms)
unfolding escape_byte
remove_text None rest ms same = same
remove_text (Some ts) rest ms same = ap (λ r. codes ",\"remove\":[" ++ list_text ts r) same

module _ (at : ℕ) (more : List (List ℕ × List ℕ)) where
  commit_text : (adds removes : Option (List TupleValue)) (rest : List ℕ) → rest ≡ members_text true (more_members more)
      → codes "{\"kind\":\"commit\",\"at\":" ++ (decimal at ++ optional_list (codes ",\"add\":[") adds
      (optional_list (codes ",\"remove\":[") removes rest)) ≡ compact_text (commit_spelled at adds removes more)
  unfolding escape_byte
  commit_text adds removes rest same =
      ap (λ l. codes "{\"kind\":\"commit\",\"at\":" ++ (decimal at ++ l))
      (add_text adds _ (with_tuples (codes "remove") removes (more_members more)) (remove_text removes rest (more_members more) same))

  -- ---- which is read as its value

  numbers : (adds removes : Option (List TupleValue)) → at < 2 ^ 64 → HasNumbers (outline (commit_spelled at adds removes more))
  numbers None None fits = (tt, (IsNumber-decimal at fits, more_numbers more))
  numbers None (Some rs) fits = (tt, (IsNumber-decimal at fits, (texts_have_numbers tuple_text rs, more_numbers more)))
  numbers (Some ts) None fits = (tt, (IsNumber-decimal at fits, (texts_have_numbers tuple_text ts, more_numbers more)))
  numbers (Some ts) (Some rs) fits =
      (tt, (IsNumber-decimal at fits, (texts_have_numbers tuple_text ts, (texts_have_numbers tuple_text rs, more_numbers more))))

  shallow : (adds removes : Option (List TupleValue)) → depth (outline (commit_spelled at adds removes more)) ≤ max_depth
  shallow None None = omega (arith, more_are_flat more)
  shallow None (Some rs) = omega (arith, texts_are_flat tuple_text rs, more_are_flat more)
  shallow (Some ts) None = omega (arith, texts_are_flat tuple_text ts, more_are_flat more)
  shallow (Some ts) (Some rs) = omega (arith, texts_are_flat tuple_text ts, texts_are_flat tuple_text rs, more_are_flat more)

  makes : (adds removes : Option (List TupleValue)) → at < 2 ^ 64
      → of_json (outline (commit_spelled at adds removes more)) ≡ Some (object (put_more more (commit_members at adds removes)))
  makes None None fits = rw (number_of-decimal at fits) (ap (option_map object) (more_make more (commit_members at None None)))
  makes None (Some rs) fits =
      rw (number_of-decimal at fits, texts_make tuple_text rs) (ap (option_map object) (more_make more (commit_members at None (Some rs))))
  makes (Some ts) None fits =
      rw (number_of-decimal at fits, texts_make tuple_text ts) (ap (option_map object) (more_make more (commit_members at (Some ts) None)))
  makes (Some ts) (Some rs) fits =
      rw (number_of-decimal at fits, texts_make tuple_text ts, texts_make tuple_text rs)
      (ap (option_map object) (more_make more (commit_members at (Some ts) (Some rs))))

  commit_read : (adds removes : Option (List TupleValue)) → at < 2 ^ 64
      → read (compact_text (commit_spelled at adds removes more)) ≡ Some (object (put_more more (commit_members at adds removes)))
  commit_read adds removes fits =
      read_compact (commit_spelled at adds removes more) (object (put_more more (commit_members at adds removes)))
      (numbers adds removes fits) (shallow adds removes) (makes adds removes fits)

-- ---- and says the commit

-- the field of such a list
abbrev field_of : Option (List TupleValue) → Option Data
field_of o = option_map tuples_data o

module _ (at : ℕ) where
  at_there : (adds removes : Option (List TupleValue)) → get_member (codes "at") (commit_members at adds removes) ≡ Some (number (unsigned at))
  at_there None removes = refl
  at_there (Some ts) removes = refl

  kind_there : (adds removes : Option (List TupleValue)) → get_member (codes "kind") (commit_members at adds removes) ≡ Some (string (codes "commit"))
  kind_there None removes = refl
  kind_there (Some ts) removes = refl

  add_there : (adds removes : Option (List TupleValue)) → get_member (codes "add") (commit_members at adds removes) ≡ field_of adds
  add_there None None = refl
  add_there None (Some rs) = refl
  add_there (Some ts) removes = refl

  remove_there : (adds removes : Option (List TupleValue)) → get_member (codes "remove") (commit_members at adds removes) ≡ field_of removes
  remove_there None None = refl
  remove_there None (Some rs) = refl
  remove_there (Some ts) None = refl
  remove_there (Some ts) (Some rs) = refl

are_texts : (ts : List TupleValue) → are_strings (items_of (map (λ t. string (tuple_text t)) ts)) ≡ true
are_texts [] = refl
are_texts (t ∷ ts) = are_texts ts

tuples_read : (ts : List TupleValue) → AreTuples ts → tuples_of (items_of (map (λ t. string (tuple_text t)) ts)) ≡ Ok ts
tuples_read [] h = refl
tuples_read (t ∷ ts) h = rw (tuple_again t h.0, tuples_read ts h.1) refl

field_read : (o : Option (List TupleValue)) → strings_of (field_of o) ≡ Some (items_of (map (λ t. string (tuple_text t)) (listed o)))
unfolding strings_of
field_read None = refl
field_read (Some ts) = rw (are_texts ts) refl

of_fields : (d : Data) (at : ℕ) (adds removes : Option (List TupleValue)) → get (codes "at") d ≡ Some (number (unsigned at))
    → get (codes "add") d ≡ field_of adds → get (codes "remove") d ≡ field_of removes → AreTuples (listed adds) → AreTuples (listed removes)
    → commit_of d ≡ Ok (record { at = at; adds = listed adds; removes = listed removes })
unfolding commit_of
of_fields d at adds removes at_is add remove fine fine_too =
    rw (at_is, add, remove, field_read adds, field_read removes, tuples_read (listed adds) fine, tuples_read (listed removes) fine_too) refl

-- ---- the line

-- what is left behind the lists is members more
pub is_commit : (text rest : List ℕ) (at : ℕ) (adds removes : Option (List TupleValue))
    → text ≡ codes "{\"kind\":\"commit\",\"at\":" ++ (decimal at ++ optional_list (codes ",\"add\":[") adds
    (optional_list (codes ",\"remove\":[") removes rest))
    → at < 2 ^ 64 → AreTuples (listed adds) → AreTuples (listed removes) → IsMore rest
    → IsCommit text (record { at = at; adds = listed adds; removes = listed removes })
is_commit text rest at adds removes same fits fine fine_too more =
    let ms = commit_members at adds removes in
    let d = object (put_more more.0 ms) in (
      d,
      ap read (same ∙ commit_text at more.0 adds removes rest more.1) ∙ commit_read at more.0 adds removes fits,
      asked 0 (omega arith) more.0 ms more.2 ∙ kind_there at adds removes,
      of_fields d at adds removes (asked 6 (omega arith) more.0 ms more.2 ∙ at_there at adds removes)
          (asked 7 (omega arith) more.0 ms more.2 ∙ add_there at adds removes)
          (asked 8 (omega arith) more.0 ms more.2 ∙ remove_there at adds removes) fine fine_too,
    )

told_of_its_kind : (d : Data) (text : List ℕ) → get (codes "kind") d ≡ Some (string (codes "commit")) → line_said text d ≡ (commit_of d >>= λ c. Ok (commits c))
unfolding line_said
told_of_its_kind d text is = rw is refl

module _ (c : Commit) (text : List ℕ) (is : IsCommit text c) where
  pub commit_told : line_of_json causes.NotJson (line_said text) (read text) ≡ Ok (commits c)
  commit_told = ap (line_of_json causes.NotJson (line_said text)) is.1 ∙ told_of_its_kind is.0 text is.2 ∙ ap (λ r. r >>= λ c. Ok (commits c)) is.3
