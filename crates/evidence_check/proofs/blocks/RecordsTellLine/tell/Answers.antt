use Rattle.std.proofs.Common.{rules, ◌≡◌, sym, ◌∙◌, false}
use Rattle.json_lines.specs.Json.{is_blank}
use Rattle.evidence_check.specs.Causes.{is_memory}
use Rattle.evidence_check.proofs.VerdictLines.{is_none, is_no_text, is_verdict, is_refusal}
use Rattle.evidence_check.proofs.blocks.RecordsTellLine.tell.Goals as goal

pub returns-then-is_blank : goal.returns-then-is_blank
returns-then-is_blank c =
    record {
      told = sym (is_none c.args.self.now.trace.now c.args.self.now.lines c.args.line.now
          (sym c.is_blank.ensures ∙ c.if-is_blank.true));
      suits = search rules;
    }

pub returns-in_default : goal.returns-in_default
returns-in_default c =
    let blank : is_blank c.args.line.now ≡ false = sym c.is_blank.ensures ∙ c.if-is_blank.false in
    record {
      told = sym (is_no_text c.args.self.now.trace.now c.args.self.now.lines c.args.line.now blank c.in_default.ensures);
      suits = search rules;
    }

pub returns-in-Ok-judge_alone : goal.returns-in-Ok-judge_alone
returns-in-Ok-judge_alone c =
    let line = c.args.line.now in
    let blank : is_blank line ≡ false = sym c.is_blank.ensures ∙ c.if-is_blank.false in
    let judged = rw (c.requires, c.in-Ok.ensures.0) at c.in-Ok-judge_alone.ensures.verdict in
    record {
      told = sym (is_verdict c.args.self.now.trace.now c.args.self.now.lines line c.in-Ok-judge_alone.verdict blank
          c.in-Ok.ensures.1 judged);
      suits = search rules;
    }

pub returns-in-Err-2-clause-told : goal.returns-in-Err-2-clause-told
returns-in-Err-2-clause-told c =
    let line = c.args.line.now in
    let blank : is_blank line ≡ false = sym c.is_blank.ensures ∙ c.if-is_blank.false in
    let known : is_memory c.in-Err.cause ≡ false = search rules in
    let told = rw (c.requires, c.in-Ok.ensures.0) at c.in-Err.ensures.verdict in
    sym (is_refusal c.args.self.now.trace.now c.args.self.now.lines line c.in-Err.cause blank
    c.in-Ok.ensures.1 known told)
