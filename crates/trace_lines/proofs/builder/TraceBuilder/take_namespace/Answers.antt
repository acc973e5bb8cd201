use Rattle.std.proofs.Common.{◌≡◌, false, sym, subst, ◌∙◌}
use Rattle.serde_json.specs.View.{view}
use Rattle.trace_lines.specs.Values.{TraceValue}
use Rattle.trace_lines.specs.Traces.{is_begun}
use Rattle.trace_lines.proofs.Orderly.{nothing_before, orderly_declared}
use Rattle.trace_lines.proofs.builder.TraceBuilder.take_namespace.Goals as goal

pub invariant_of-self : goal.invariant_of-self
invariant_of-self c =
    let begun = subst (λ (t : TraceValue). c.is_begun-begun.result ≡ is_begun t) (sym c.self.view_is) c.is_begun-begun.ensures in
    let first = λ (h : c.is_begun-begun.result ≡ false). nothing_before c.self.inside.commit_lines.items _ c.self.inside.chains.commits c.self.invariant.1.counted (sym begun ∙ h) in (
      c.self.invariant.0,
      c.self.invariant.1,
      orderly_declared c.declare.result c.is_begun-begun.result c.self.inside.rules c.declare.new.rules c.self.inside.chains.commits c.self.inside.sample (view c.args.value.now)
          c.self.invariant.2 first c.declare.ensures.answer c.declare.ensures.dropped c.declare.ensures.later,
      c.declare.ensures.index,
      c.self.invariant.4,
    )
