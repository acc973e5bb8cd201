use Rattle.std.proofs.Common.{◌≡◌, Some, sym, subst}
use Rattle.serde_json.specs.View.{view}
use Rattle.namespaces.specs.Changing.{IsLater}
use Rattle.version_chains.specs.Appends.{last_at}
use Rattle.trace_lines.specs.Values.{TraceValue}
use Rattle.trace_lines.proofs.Orderly.{orderly_changed, sample_unbroken}
use Rattle.trace_lines.proofs.builder.TraceBuilder.change_rules.Goals as goal

pub change-requires : goal.change-requires
change-requires c = record {
  later = subst (λ (t : TraceValue). IsLater c.args.at t.declarations) (sym c.self.view_is) c.requires.later;
  unbroken = c.self.invariant.2.unbroken.of_rules;
  tuples = sample_unbroken c.self.inside.rules c.self.inside.chains.commits c.self.inside.sample c.self.invariant.2;
  index = c.self.invariant.3;
}

pub invariant_of-self : goal.invariant_of-self
invariant_of-self c = (
  c.self.invariant.0,
  c.self.invariant.1,
  orderly_changed c.change.result c.self.inside.rules c.change.new.rules c.self.inside.chains.commits c.self.inside.sample c.args.at (view c.args.value.now) c.self.invariant.2
      (subst (λ (t : TraceValue). IsLater c.args.at t.declarations) (sym c.self.view_is) c.requires.later)
      (subst (λ (t : TraceValue). last_at t.commits ≡ Some c.args.at) (sym c.self.view_is) c.requires.last)
      c.change.ensures.answer c.change.ensures.dropped c.change.ensures.later,
  c.change.ensures.index,
  c.self.invariant.4,
)
