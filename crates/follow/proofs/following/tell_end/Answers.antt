use Rattle.std.proofs.Common.{◌≡◌, ◌∙◌, ℕ, List, [], Option, sym, subst}
use Rattle.trace_lines.specs.Values.{TraceValue}
use Rattle.evidence_check.specs.Steps.{StepValue}
use Rattle.findings.specs.Findings.{findings_of}
use Rattle.findings.specs.Headline.{IsRightAndFresh}
use Rattle.audit.specs.Parts.{Told}
use Rattle.audit.proofs.Answering.{told-map, told_no_memory}
use Rattle.audit.proofs.KindLemmas.{handed_on}
use Rattle.follow.specs.SoFar.{TellsRest}
use Rattle.follow.proofs.following.tell_end.Goals as goal

pub returns-in_err-text-clause-told : goal.returns-in_err-text-clause-told
returns-in_err-text-clause-told g c = handed_on (Told _ _) _ c.from_residual.ensures.1 (told_no_memory _ _)

pub returns-clause-told : goal.returns-clause-told
returns-clause-told g c =
    let same : c.trace-2.result.now ≡ c.args.log = c.trace-2.ensures ∙ c.pause-paused.ensures in
    told-map _ _ _ c.tell.result (λ text v says. (
      subst (λ (t : TraceValue). TellsRest t c.args.follower.now c.tell_end.new.self text) same
          (subst (λ (l : List ℕ). TellsRest c.trace-2.result.now c.args.follower.now c.tell_end.new.self l)
          (sym (says.0 ∙ c.as_str.ensures.value)) c.in_ok-text.ensures.text),
      says.1 ∙ c.verdict.ensures,
    )) c.tell.ensures

pub returns-clause-right : goal.returns-clause-right
returns-clause-right g c =
    subst (λ (t : TraceValue). (evidence : List (Option (List StepValue))) → findings_of t evidence ≡ [] → IsRightAndFresh t)
    (c.trace.ensures ∙ c.pause-paused.ensures) c.right_and_fresh_without_findings.ensures
