use Rattle.std.proofs.Common.{◌∙◌, sym}
use Rattle.std.proofs.lemmas.Bool.{true≢false}
use Rattle.trace_lines.specs.Recorded.{shown}
use Rattle.trace_lines.proofs.IssuedVersions.{issued_once}
use Rattle.trace_lines.proofs.Orderly.{valid_strata}
use Rattle.trace_lines.proofs.builder.TraceBuilder.finish.Goals as goal

pub invariant_of-result : goal.invariant_of-result
invariant_of-result c = (
  c.self.invariant.1,
  issued_once c.self.inside.versions (shown c.self.inside.recorded) c.self.invariant.4,
  valid_strata c.self.inside.rules c.self.inside.chains.commits c.self.inside.sample c.self.invariant.2,
  c.usersets_of-usersets.ensures.index,
  c.self.invariant.0,
  λ grows. absurd (true≢false (sym grows ∙ c.usersets_of-usersets.ensures.growing)),
)
