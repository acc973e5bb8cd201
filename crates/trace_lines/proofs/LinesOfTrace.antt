-- Lines of a trace are taken as what they say by themselves, put in.
use Rattle.std.proofs.Common.{◌≡◌, ℕ, List, Option, None, Some, Result, Ok, refl, sym, ◌∙◌}
use Rattle.std.specs.Str.{is_utf8}
use Rattle.serde_json.specs.Data.{Data}
use Rattle.serde_json.specs.Read.{read}
use Rattle.refusals.specs.Refusals.{◌>>=◌}
use Rattle.json_lines.specs.InputRead.{LinesRead}
use Rattle.json_lines.specs.Json.{is_blank, json_line, of_json}
use Rattle.json_lines.specs.declared.reading.LineFault.{LineFault}
use Rattle.line_blocks.specs.Parts.{taken_by}
use Rattle.line_blocks.proofs.Alike.{inputs_alike, read_alike}
use Rattle.trace_lines.specs.LineValues.{line_said, put_line}
use Rattle.trace_lines.specs.Traces.{value_line}
use Rattle.trace_lines.specs.Values.{TraceValue}
use Rattle.trace_lines.specs.declared.cause.Cause.{Cause}
use Rattle.trace_lines.specs.declared.cause.Cause.TheVariants as causes
use Rattle.trace_lines.proofs.LineSplits.{behind, chosen, line_splits}
use Rattle.trace_lines.proofs.TraceTold.{trace_taken}
use Rattle.trace_lines.specs.LinesTold.{line_told, put_told}

module _ (n : ℕ) (t : TraceValue) (line : List ℕ) where
  by_value : (o : Option Data) → read line ≡ o
      → of_json causes.NotJson (value_line n t) o
      ≡ (of_json causes.NotJson (λ d. line_said line d >>= λ l. Ok (Some l)) o >>= put_told n t)
  by_value None is = refl
  by_value (Some d) is =
      line_splits n t line d is
      ∙ behind (line_said line d) (λ l. Ok (Some l)) (put_told n t) (put_line n t) (λ l. refl)

  trace_splits : taken_by line_told put_told n t line ≡ trace_taken n t line
  unfolding json_line line_told
  trace_splits =
      sym (chosen (is_blank line) _ _ _ _ (put_told n t) refl
      (chosen (is_utf8 line) _ _ _ _ (put_told n t) (by_value (read line) refl) refl))

pub as_trace : {R T : Type 0} (given : R → List ℕ) (ends failures : R → ℕ) (remaining : R → Option (List ℕ))
    (old new : R) (start now : TraceValue) (result : Result T (LineFault Cause))
    → LinesRead given ends failures remaining (taken_by line_told put_told) old new start now result
    → LinesRead given ends failures remaining trace_taken old new start now result
as_trace given ends failures remaining old new start now result read =
    read_alike given ends failures remaining trace_taken (taken_by line_told put_told) old new start now result
    (λ whole input. inputs_alike (taken_by line_told put_told) trace_taken trace_splits whole start input) read
