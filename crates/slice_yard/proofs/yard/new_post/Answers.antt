use Rattle.std.proofs.Common.{◌+◌, ◌%◌, ◌<◌, ℕ, List, All, length, get_or, map, rules, arith, subst, sym}
use Rattle.std.proofs.lemmas.Grind.{common_steps}
use Rattle.std.proofs.lemmas.List.Elements.{All-push}
use Rattle.slice_yard.specs.declared.yard.Seat.{Seat}
use Rattle.slice_yard.specs.declared.lane.Lane.{Lane}
use Rattle.slice_yard.specs.Lane.{lane_deque, IsTakerOf}
use Rattle.slice_yard.specs.Yard.{IsTakerAt}
use Rattle.std.proofs.Math.Nat.{mod-lt}
use Rattle.slice_core.proofs.Tables.{table_push}
use Rattle.slice_yard.proofs.YardLemmas.{taker_at}
use Rattle.slice_yard.proofs.yard.new_post.Goals as goal

pub loop-i-preserved : goal.loop-i-preserved
loop-i-preserved c = record {
  count = first_of (search rules, grind (arith, common_steps));
  lanes = table_push (λ (s : Seat). s.lane) (λ i. i % length c.args.lanes.now) (c.args.worker + 1) c.loop-i.i c.loop-i.seats.items _ _ c.in_ok-push.ensures.items c.loop-i.invariant.lanes (search rules);
  takers =
      let l : ℕ = (c.args.worker + 1 + c.loop-i.i) % length c.args.lanes.now in
      let within : l < length c.args.lanes.now = mod-lt (c.args.worker + 1 + c.loop-i.i) c.requires.some in
      let taker : IsTakerOf (get_or c.args.lanes.now l c.index-lanes-lane.result) c.in_ok-taker.taker = subst (λ (x : Lane). IsTakerOf x c.in_ok-taker.taker) c.index-lanes-lane.is c.in_ok-taker.ensures in
      subst (λ (ss : List Seat). All (IsTakerAt (map lane_deque c.args.lanes.now)) ss) (sym c.in_ok-push.ensures.items)
      (All-push (IsTakerAt (map lane_deque c.args.lanes.now)) c.loop-i.seats.items _ c.loop-i.invariant.takers
      (taker_at c.args.lanes.now c.index-lanes-lane.result l c.in_ok-taker.taker within taker (c.requires.still l c.index-lanes-lane.result within)));
}
