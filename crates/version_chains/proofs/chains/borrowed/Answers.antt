use Rattle.std.proofs.Common.{◌≡◌, ℕ, ◌+◌, ◌<◌, List, [], ◌∷◌, ◌++◌, length, get_or, take, refl, add-one}
use Rattle.std.proofs.lemmas.List.{map-append}
use Rattle.std.proofs.Math.Seq.{take-suc}
use Rattle.tuple_text.specs.TupleRefs.{tuple_value, tuple_values}
use Rattle.tuple_text.specs.Tuples.{TupleValue}
use Rattle.tuple_text.specs.declared.tuple_refs.TupleRef.{TupleRef}
use Rattle.version_chains.proofs.chains.borrowed.Goals as goal

one_more : (refs more : List TupleRef) (r : TupleRef) (tuples : List TupleValue) (i : ℕ) (t : TupleValue)
    → more ≡ refs ++ r ∷ [] → tuple_values refs ≡ take i tuples → tuple_value r ≡ t → i < length tuples
    → t ≡ get_or tuples i t
    → tuple_values more ≡ take (i + 1) tuples
one_more refs more r tuples i t on before value within is =
    rw (on, map-append tuple_value refs (r ∷ []), before, value, add-one, take-suc tuples i t within, ← is) refl

pub loop-tuple-preserved : goal.loop-tuple-preserved
loop-tuple-preserved c =
    one_more c.loop-tuple.refs.items c.push.new.self.items c.as_ref.result c.args.tuples.now c.loop-tuple.tuple-index
    c.tuple-item.result
    c.in_ok-push.ensures.items c.loop-tuple.invariant c.as_ref.ensures c.loop-tuple-test.true c.tuple-item.is
