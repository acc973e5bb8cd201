use Rattle.std.proofs.Common.{◌≡◌, ◌+◌, ◌∙◌, Bool, ℕ, arith, length, refl, sym, ap, subst}
use Rattle.monitor.specs.Standing.{open_entries}
use Rattle.std.specs.Prelude.{IfSome, string_bytes}
use Rattle.trace_lines.specs.Values.{TraceValue}
use Rattle.audit.specs.Parts.{Told}
use Rattle.audit.proofs.Answering.{told-map, told_no_memory}
use Rattle.audit.proofs.KindLemmas.{handed_on}
use Rattle.follow.specs.Handing.{IsHandedOn, run_lines, unaudited}
use Rattle.follow.specs.declared.handing.RunEnd.{RunEnd}
use Rattle.follow.proofs.handing.end_run.Goals as goal

pub returns-in_err-carry : goal.returns-in_err-carry
returns-in_err-carry g c = handed_on (Told _ _) _ c.from_residual.ensures.1 (told_no_memory _ _)

pub returns-in_err-text : goal.returns-in_err-text
returns-in_err-text g c = handed_on (Told _ _) _ c.from_residual-in_err-text.ensures.1 (told_no_memory _ _)

pub returns : goal.returns
returns g c =
    let f = c.args.follower.now in
    let w = c.is_whole-whole.result in
    let one : c.trace-trace.result.now ≡ c.args.log.log =
    c.trace-trace.ensures ∙ c.pause-paused.ensures ∙ c.into_parts-log.ensures.log in
    let lines = c.in-Some.ensures in
    let sum : c.in-Some.lines ≡ c.args.start.lines + c.args.read = omega (arith, lines) in
    told-map _ _ _ c.tell.result (λ text end says. record {
      last = says.0 ∙ c.as_str.ensures.value ∙ c.in_ok-text.ensures
          ∙ ap (λ (t : TraceValue). run_lines w f.known c.args.start.entries t f.told.items) one
          ∙ ap (λ (b : Bool). run_lines b f.known c.args.start.entries c.args.log.log f.told.items)
          (sym (ap (λ (e : RunEnd). e.whole) says.1));
      verdict = ap (λ (e : RunEnd). e.verdict) says.1 ∙ c.verdict.ensures;
      whole = ap (λ (e : RunEnd). e.whole) says.1 ∙ c.is_whole-whole.ensures ∙ rw (
        c.count_unaudited-unaudited.ensures ∙ ap (λ (t : TraceValue). unaudited f.known c.args.start.entries t) one,
        c.count_open-open.ensures ∙ ap (λ (t : TraceValue). length (open_entries t)) one,
        c.is_some.ensures,
        ap (λ (e : RunEnd). e.carry) says.1,
      ) refl;
      carry = subst (λ o. IfSome o (λ s. IsHandedOn f.known (c.args.start.lines + c.args.read) c.args.log.log (string_bytes s)))
          (sym (ap (λ (e : RunEnd). e.carry) says.1))
          (subst (λ (n : ℕ). IfSome c.in_ok-carry.carry (λ s. IsHandedOn f.known n c.args.log.log (string_bytes s))) sum
          (subst (λ (t : TraceValue). IfSome c.in_ok-carry.carry (λ s. IsHandedOn f.known c.in-Some.lines t (string_bytes s)))
          one c.in_ok-carry.ensures));
    }) c.tell.ensures
