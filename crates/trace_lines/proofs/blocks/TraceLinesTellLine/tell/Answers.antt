use Rattle.std.proofs.Common.{◌≡◌, ◌∙◌, ℕ, List, Ok, Err, false, sym, subst}
use Rattle.serde_json.specs.Read.{read}
use Rattle.json_lines.specs.Json.{is_blank, of_json}
use Rattle.trace_lines.specs.LineValues.{line_said}
use Rattle.trace_lines.specs.declared.cause.Cause.TheVariants as causes
use Rattle.trace_lines.proofs.ToldLines.{is_none, is_no_text, is_said, is_refused}
use Rattle.trace_lines.proofs.blocks.TraceLinesTellLine.tell.Goals as goal

pub returns-then-is_blank : goal.returns-then-is_blank
returns-then-is_blank c =
    record { told = sym (is_none c.args.line.now (sym c.is_blank.ensures ∙ c.if-is_blank.true)); suits = tt }

pub returns-in_default : goal.returns-in_default
returns-in_default c =
    let blank : is_blank c.args.line.now ≡ false = sym c.is_blank.ensures ∙ c.if-is_blank.false in
    record { told = sym (is_no_text c.args.line.now blank c.in_default.ensures); suits = tt }

pub returns-in-Ok-read-clause-told : goal.returns-in-Ok-read-clause-told
returns-in-Ok-read-clause-told c =
    let blank : is_blank c.args.line.now ≡ false = sym c.is_blank.ensures ∙ c.if-is_blank.false in
    sym (is_said c.args.line.now c.in-Ok-read.said blank c.in-Ok.ensures.1
    (subst (λ (x : List ℕ). of_json causes.NotJson (line_said x) (read x) ≡ Ok c.in-Ok-read.said) c.in-Ok.ensures.0
    c.in-Ok-read.ensures))

pub returns-in-Err-2-clause-told : goal.returns-in-Err-2-clause-told
returns-in-Err-2-clause-told c =
    let blank : is_blank c.args.line.now ≡ false = sym c.is_blank.ensures ∙ c.if-is_blank.false in
    let refused = rw (sym c.is_memory.ensures ∙ c.if-is_memory.false) at c.in-Err.ensures in
    sym (is_refused c.args.line.now c.in-Err.cause blank c.in-Ok.ensures.1
    (subst (λ (x : List ℕ). of_json causes.NotJson (line_said x) (read x) ≡ Err c.in-Err.cause) c.in-Ok.ensures.0
    refused))
