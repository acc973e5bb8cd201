use Rattle.std.proofs.Common.{subst}
use Rattle.std.specs.Prelude.{All}
use Rattle.tuple_text.specs.Refs.{set_value}
use Rattle.snapshots.specs.Snapshots.{tuples_in}
use Rattle.judgement.specs.Passes.{IsObjectStored, IsTouchApart}
use Rattle.judgement.proofs.IndexLemmas.{apart_by_objects}
use Rattle.judgement.proofs.LedLemmas.{decided}
use Rattle.judgement.proofs.leading.is_object_in_crowd.Goals as goal

pub returns : goal.returns
returns c =
    let s = c.args.snapshot.now in
    let set = set_value c.args.set.set in
    let other = set_value c.args.other in
    decided (IsObjectStored (tuples_in s) set other) c.is_one_of_object.result c.is_one_of_object.ensures.stored
    (λ gone.
    apart_by_objects s c.fits.ensures c.args.index.now c.requires.whole set c.requires.crowded other
    (subst (All (IsTouchApart s set other)) c.of_object-touches.ensures (c.is_one_of_object.ensures.apart gone)))
