use Rattle.std.proofs.Common.{arith, ◌∙◌}
use Rattle.std.proofs.Math.Seq.{map-set_same}
use Rattle.std.proofs.lemmas.List.Elements.{All-set}
use Rattle.slice_yard.specs.declared.lane.Lane.{Lane}
use Rattle.slice_yard.specs.Lane.{lane_hand, IsEnded}
use Rattle.slice_yard.specs.Shared.{IsSpent}
use Rattle.slice_core.proofs.Tables.{All_map, below_more}
use Rattle.slice_yard.proofs.ReceiptLemmas.{handed_left, spent_at, within_before}
use Rattle.slice_yard.proofs.receipts.next_of.Goals as goal

pub returns-in-Some-clause-some : goal.returns-in-Some-clause-some
returns-in-Some-clause-some c =
    handed_left c.args.lanes.now c.loop-lane.lanes c.loop-lane.lane-index c.lane-item.result c.loop-lane.invariant.hands (omega arith) c.left.new.self c.in-Some.slice c.in-Some.ensures.some.0 c.in-Some.ensures.some.1

pub loop-lane-preserved : goal.loop-lane-preserved
loop-lane-preserved c = record {
  hands = map-set_same lane_hand c.loop-lane.lanes c.loop-lane.lane-index c.left.new.self c.lane-item.result c.in-None.ensures.none ∙ c.loop-lane.invariant.hands;
  ended = All-set IsEnded c.loop-lane.lanes c.loop-lane.lane-index c.left.new.self c.in-None.ensures.ended c.loop-lane.invariant.ended;
  spent = below_more (λ (l : Lane). IsSpent (lane_hand l)) c.args.lanes.now c.loop-lane.lane-index (within_before c.args.lanes.now c.loop-lane.lanes c.loop-lane.lane-index c.lane-item.result c.loop-lane.invariant.hands (omega arith))
      c.loop-lane.invariant.spent (spent_at c.args.lanes.now c.loop-lane.lanes c.loop-lane.lane-index c.lane-item.result c.loop-lane.invariant.hands (omega arith) c.in-None.ensures.all);
}

pub returns-clause-all : goal.returns-clause-all
returns-clause-all c = All_map IsSpent lane_hand c.args.lanes.now (λ k d lt. c.loop-lane.invariant.spent k d (omega arith))
