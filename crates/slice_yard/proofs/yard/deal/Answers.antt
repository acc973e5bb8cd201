use Rattle.std.proofs.Common.{◌≡◌, ◌%◌, ◌++◌, ◌∷◌, length, ◌∙◌, refl, arith, rules}
use Rattle.std.specs.Vec.Iter.{into_iter_items}
use Rattle.std.proofs.lemmas.Grind.{common_steps}
use Rattle.std.proofs.Math.Seq.{map-set_same}
use Rattle.slice_yard.specs.Lane.{lane_deque}
use Rattle.slice_yard.proofs.DealLemmas.{nothing_dealt, alone_here, room_here, one_dealt}
use Rattle.slice_yard.proofs.yard.deal.Goals as goal

pub loop-slice-init : goal.loop-slice-init
loop-slice-init c = record {
  so_far = nothing_dealt (length c.args.slices.items) c.args.lanes.now c.requires.some c.requires.empty;
  same = refl;
  all = first_of (search rules, grind (arith, common_steps));
}

pub put-requires-clause-room : goal.put-requires-clause-room
put-requires-clause-room c =
    let e : c.args.slices.items ≡ c.loop-slice.yielded ++ (c.in-Some.slice ∷ into_iter_items c.next.new.self) = first_of (search rules, grind (arith, common_steps)) in
    room_here (length c.args.lanes.now) (length c.args.slices.items) c.loop-slice.yielded c.args.slices.items (into_iter_items c.next.new.self) c.in-Some.slice c.loop-slice.lanes c.index-lanes-l.result
    c.requires.some c.loop-slice.auto.lanes c.loop-slice.invariant.so_far c.requires.numbered refl e

pub put-requires-clause-alone : goal.put-requires-clause-alone
put-requires-clause-alone c =
    let e : c.args.slices.items ≡ c.loop-slice.yielded ++ (c.in-Some.slice ∷ into_iter_items c.next.new.self) = first_of (search rules, grind (arith, common_steps)) in
    alone_here (length c.args.lanes.now) (length c.args.slices.items) c.loop-slice.yielded c.args.slices.items (into_iter_items c.next.new.self) c.in-Some.slice c.loop-slice.lanes c.index-lanes-l.result
    c.requires.some c.loop-slice.auto.lanes c.loop-slice.invariant.so_far c.requires.numbered refl e

pub loop-slice-preserved : goal.loop-slice-preserved
loop-slice-preserved c =
    let e : c.args.slices.items ≡ c.loop-slice.yielded ++ (c.in-Some.slice ∷ into_iter_items c.next.new.self) = first_of (search rules, grind (arith, common_steps)) in
    record {
      so_far = one_dealt (length c.args.lanes.now) (length c.args.slices.items) c.loop-slice.yielded c.args.slices.items (into_iter_items c.next.new.self) c.in-Some.slice c.loop-slice.lanes c.index-lanes-l.result
          c.requires.some c.loop-slice.auto.lanes c.loop-slice.invariant.so_far c.requires.numbered refl e c.put.new.self c.put.ensures.put c.put.ensures.same.1 c.put.ensures.same.2;
      same = map-set_same lane_deque c.loop-slice.lanes (c.in-Some.slice.number % length c.loop-slice.lanes) c.put.new.self c.index-lanes-l.result c.put.ensures.same.0 ∙ c.loop-slice.invariant.same;
      all = first_of (search rules, grind (arith, common_steps));
    }
