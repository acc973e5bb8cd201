-- What a line of a trace says, by its text.
use Rattle.std.proofs.Common.{◌≡◌, ℕ, true, false, List, Option, None, Some, Result, Ok, Err, refl, ap, ◌∙◌}
use Rattle.std.specs.Str.{IsUtf8, is_utf8}
use Rattle.std.proofs.lemmas.Bool.{false_from_ne_true}
use Rattle.std.proofs.lemmas.Str.{IsUtf8-from_is_utf8, is_utf8-from_IsUtf8}
use Rattle.serde_json.specs.Data.{Data}
use Rattle.serde_json.specs.Read.{read}
use Rattle.refusals.specs.Refusals.{◌>>=◌}
use Rattle.json_lines.specs.Json.{is_blank, json_line, of_json}
use Rattle.trace_lines.specs.LineValues.{LineValue, line_said}
use Rattle.trace_lines.specs.declared.cause.Cause.{Cause}
use Rattle.trace_lines.specs.declared.cause.Cause.TheVariants as causes
use Rattle.trace_lines.specs.LinesTold.{line_told}

module _ (line : List ℕ) where
  pub is_none : is_blank line ≡ true → line_told line ≡ Ok None
  unfolding line_told
  is_none e = rw e refl

  pub is_no_text : is_blank line ≡ false → ¬ IsUtf8 line → line_told line ≡ Err causes.NotJson
  unfolding line_told json_line
  is_no_text e f =
      let no : is_utf8 line ≡ false = false_from_ne_true (is_utf8 line) (λ is. f (IsUtf8-from_is_utf8 line is)) in
      rw (e, no) refl

  by_data : (o : Option Data)
      → of_json causes.NotJson (λ d. line_said line d >>= λ l. Ok (Some l)) o
      ≡ (of_json causes.NotJson (line_said line) o >>= λ l. Ok (Some l))
  by_data None = refl
  by_data (Some d) = refl

  is_of_text : is_blank line ≡ false → IsUtf8 line
      → line_told line ≡ (of_json causes.NotJson (line_said line) (read line) >>= λ l. Ok (Some l))
  unfolding line_told json_line
  is_of_text e f =
      let is : is_utf8 line ≡ true = is_utf8-from_IsUtf8 line f in
      rw (e, is) (by_data (read line))

  pub is_said : (l : LineValue) → is_blank line ≡ false → IsUtf8 line
      → of_json causes.NotJson (line_said line) (read line) ≡ Ok l → line_told line ≡ Ok (Some l)
  is_said l e f is =
      is_of_text e f ∙ ap (λ (r : Result LineValue Cause). r >>= (λ (k : LineValue). Ok (Some k))) is

  pub is_refused : (c : Cause) → is_blank line ≡ false → IsUtf8 line
      → of_json causes.NotJson (line_said line) (read line) ≡ Err c → line_told line ≡ Err c
  is_refused c e f is =
      is_of_text e f ∙ ap (λ (r : Result LineValue Cause). r >>= (λ (k : LineValue). Ok (Some k))) is
