use Rattle.std.proofs.Common.{◌≡◌, true, take}
use Rattle.std.specs.Option.{ForSome}
use Rattle.tuple_text.specs.Refs.{set_value}
use Rattle.tuple_text.specs.TupleRefs.{tuple_values}
use Rattle.trace_lines.specs.Traces.{are_declared, is_declared}
use Rattle.trace_lines.proofs.builder.TraceBuilder.are_declared.Given as goal

abbrev pub invariant-loop-tuple : goal.invariant-loop-tuple
invariant-loop-tuple l = record {
  before : are_declared l.self.declarations (take l.tuple-index (tuple_values l.tuples)) ≡ true;
  last : ForSome l.last (λ s. is_declared l.self.declarations (set_value s) ≡ true);
}
