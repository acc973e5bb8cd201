use Rattle.std.proofs.Common.{◌<◌, ap, length, sym, subst, ◌∙◌}
use Rattle.trace_lines.specs.Values.{TraceValue}
use Rattle.trace_lines.specs.Versions.{content_of}
use Rattle.trace_lines.specs.Recorded.{shown}
use Rattle.trace_lines.proofs.IssuedVersions.{content_of-earlier}
use Rattle.trace_lines.proofs.Recording.{content_recorded}
use Rattle.trace_lines.proofs.trace.Trace.content_of.Goals as goal

pub returns-clause-value : goal.returns-clause-value
returns-clause-value c =
    let rs = c.self.inside.recorded in
    let within = subst (λ (t : TraceValue). c.args.i < length t.entries) (sym c.self.view_is) c.requires in
    content_recorded rs c.args.i c.content.result c.self.invariant.0.named within c.content.ensures
    ∙ ap (λ (t : TraceValue). content_of t.entries c.args.i) c.self.view_is

pub returns-clause-earlier : goal.returns-clause-earlier
returns-clause-earlier c =
    let rs = c.self.inside.recorded in
    let within = subst (λ (t : TraceValue). c.args.i < length t.entries) (sym c.self.view_is) c.requires in
    content_of-earlier (shown rs) c.args.i c.content.result (content_recorded rs c.args.i c.content.result c.self.invariant.0.named within c.content.ensures)
