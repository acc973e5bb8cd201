use Rattle.std.proofs.Common.{◌∙◌, Err, ap, refl}
use Rattle.json_lines.specs.declared.lines.InputFault.{InputFault}
use Rattle.audit.specs.Devices.{reader, reads}
use Rattle.audit.specs.JoinedParts.{FrontRead}
use Rattle.audit.proofs.JoinedLemmas.{front_passed, front_refused, front_stopped, front_unmarked, front_whole, too_long_to_part}
use Rattle.audit.proofs.KindLemmas.{handed_on}
use Rattle.audit.proofs.joined.trace_of_front.Goals as goal

pub returns-in_err-trace : goal.returns-in_err-trace
returns-in_err-trace g c =
    let read = c.read_trace_front.ensures in
    let r =
    reads g.R.Source.given g.R.Source.ends g.R.Source.failures g.R.Read.remaining c.args.input.now
    c.read_trace_front.new.reader in
    handed_on (FrontRead r) _ c.from_residual.ensures.1
    (front_stopped r c.in_err-trace.field-0.0 _ refl
    (λ is. too_long_to_part r (read.long (c.in_err-trace.was ∙ ap (λ (x : InputFault). Err x) is))) read.most read.known
    (λ is. read.failed (c.in_err-trace.was ∙ ap (λ (x : InputFault). Err x) is))
    (λ other. read.kept (λ is. other (cc (c.in_err-trace.was, is)))))

pub returns-in_default : goal.returns-in_default
returns-in_default g c =
    front_unmarked
    (reads g.R.Source.given g.R.Source.ends g.R.Source.failures g.R.Read.remaining c.args.input.now
    c.read_trace_front.new.reader) (c.in_ok-trace.ensures.none c.in_default.is) c.read_trace_front.ensures.most
    c.read_trace_front.ensures.known (c.in_ok-trace.ensures.kept (λ is. absurd (cc (is))))

pub returns-in-Ok : goal.returns-in-Ok
returns-in-Ok g c =
    let at = reader g.R.Source.given g.R.Source.ends g.R.Source.failures g.R.Read.remaining in
    front_whole (at c.args.input.now) (at c.read_trace_front.new.reader) c.in_ok-trace.field-0.trace c.in_ok-trace.field-0.rest
    c.in-Some.rest c.in-Some.is c.in_ok-trace.ensures.front c.in_ok-trace.ensures.ended c.read_trace_front.ensures.known
    (c.in_ok-trace.ensures.kept (λ is. absurd (cc (is)))) c.in-Ok.trace c.in-Ok.is c.read_trace_front.ensures.most

pub returns-in-Ok-pass : goal.returns-in-Ok-pass
returns-in-Ok-pass g c =
    let at = reader g.R.Source.given g.R.Source.ends g.R.Source.failures g.R.Read.remaining in
    front_refused (at c.args.input.now) (at c.read_trace_front.new.reader) c.in_ok-trace.field-0.trace c.in_ok-trace.field-0.rest
    c.in-Some.rest c.in-Some.is c.in_ok-trace.ensures.front c.in_ok-trace.ensures.ended c.read_trace_front.ensures.known
    (c.in_ok-trace.ensures.kept (λ is. absurd (cc (is)))) c.in-Err.fault c.in-Err.is c.in_ok-trace.ensures.refused
    (at c.pass.new.reader) c.pass.ensures.read.asked.most c.pass.ensures.read.asked.known c.from.result
    c.in-Ok-pass.ensures.taken c.in-Ok-pass.ensures.read.ended c.pass.ensures.read.over
    (c.in-Ok-pass.ensures.read.asked.kept (λ is. absurd (cc (is)))) c.from.ensures

pub returns-in-Err-pass : goal.returns-in-Err-pass
returns-in-Err-pass g c =
    let at = reader g.R.Source.given g.R.Source.ends g.R.Source.failures g.R.Read.remaining in
    let read = c.pass.ensures.read.asked in
    front_passed (at c.args.input.now) (at c.read_trace_front.new.reader) c.in_ok-trace.field-0.trace c.in_ok-trace.field-0.rest
    c.in-Some.rest c.in-Some.is c.in_ok-trace.ensures.front c.in_ok-trace.ensures.ended c.read_trace_front.ensures.known
    (c.in_ok-trace.ensures.kept (λ is. absurd (cc (is)))) c.in-Err.fault c.in-Err.is c.in_ok-trace.ensures.refused
    (at c.pass.new.reader) read.most read.known c.in-Err-pass.stop c.from-in-Err-pass.result
    c.from-in-Err-pass.ensures (λ is. read.long (c.in-Err-pass.is ∙ ap (λ (x : InputFault). Err x) is))
    (λ is. read.failed (c.in-Err-pass.is ∙ ap (λ (x : InputFault). Err x) is))
    (λ other. read.kept (λ is. other (cc (c.in-Err-pass.is, is))))
