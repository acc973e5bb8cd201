use Rattle.std.proofs.Common.{rules, ◌≡◌, ◌∙◌, ◌∷◌, [], Bool, true, false, take, get_or, ap, sym, refl}
use Rattle.std.specs.List.{list_all}
use Rattle.std.proofs.lemmas.List.{take_more}
use Rattle.std.proofs.lemmas.List.Folds.{list_all-append, list_all_at}
use Rattle.tuple_text.proofs.Borrowed.{tuple_within, tuple_there}
use Rattle.tuple_text.specs.TupleRefs.{tuple_value, tuple_values}
use Rattle.tuple_text.specs.Tuples.{TupleValue}
use Rattle.tuple_text.specs.Refs.{set_value}
use Rattle.tuple_text.specs.declared.sets.SetRef.{SetRef}
use Rattle.trace_lines.specs.Traces.{is_declared}
use Rattle.trace_lines.proofs.builder.TraceBuilder.are_declared.Goals as goal

pub returns-then-not-is_declared_after : goal.returns-then-not-is_declared_after
returns-then-not-is_declared_after c =
    let declared : TupleValue → Bool = λ t. is_declared c.args.self.now.declarations t.set in
    let i = c.loop-tuple.tuple-index in
    let t = tuple_value c.tuple-item.result in
    let within = tuple_within c.args.tuples.now i c.tuple-item.result c.loop-tuple-test.true c.tuple-item.is in
    let is = tuple_there c.args.tuples.now i c.tuple-item.result c.loop-tuple-test.true c.tuple-item.is in
    let not : is_declared c.args.self.now.declarations t.set ≡ false = search rules in
    sym (list_all_at declared (tuple_values c.args.tuples.now) i t within (ap declared (sym is) ∙ not))

pub loop-tuple-preserved : goal.loop-tuple-preserved
loop-tuple-preserved c =
    let declared : TupleValue → Bool = λ t. is_declared c.args.self.now.declarations t.set in
    let ts = tuple_values c.args.tuples.now in
    let i = c.loop-tuple.tuple-index in
    let t = tuple_value c.tuple-item.result in
    let within = tuple_within c.args.tuples.now i c.tuple-item.result c.loop-tuple-test.true c.tuple-item.is in
    let is = tuple_there c.args.tuples.now i c.tuple-item.result c.loop-tuple-test.true c.tuple-item.is in
    let one : is_declared c.args.self.now.declarations t.set ≡ true = search rules in
    record {
      before =
          ap (list_all declared) (take_more ts i t within)
          ∙ list_all-append declared (take i ts) (get_or ts i t ∷ [])
          ∙ rw (c.loop-tuple.invariant.before, ← is, one) refl;
      last = λ x e.
          let same : c.set-in-loop-tuple.result ≡ x = cc in
          ap (λ (s : SetRef). is_declared c.args.self.now.declarations (set_value s)) (sym same)
          ∙ ap (is_declared c.args.self.now.declarations) c.set-in-loop-tuple.ensures.parts ∙ one;
    }
