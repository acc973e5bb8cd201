use Rattle.std.proofs.Common.{◌≡◌, ◌+◌, length, arith, ◌∙◌}
use Rattle.std.proofs.Math.Seq.{map-set_same}
use Rattle.slice_yard.specs.declared.rule.Hand.{Hand}
use Rattle.slice_yard.specs.Lane.{lane_hand, IsEnded}
use Rattle.slice_core.proofs.Tables.{All_along, below_set}
use Rattle.slice_yard.proofs.receipts.end_all.Goals as goal

pub end-requires : goal.end-requires
end-requires c = All_along (λ (v : Hand). v.seats ≡ length v.closed + 1) lane_hand c.args.lanes.now c.loop-lane.lanes c.loop-lane.invariant.hands c.requires c.loop-lane.lane-index c.lane-item.result (omega arith)

pub loop-lane-preserved : goal.loop-lane-preserved
loop-lane-preserved c = record {
  hands = map-set_same lane_hand c.loop-lane.lanes c.loop-lane.lane-index c.end.new.self c.lane-item.result c.end.ensures.hand ∙ c.loop-lane.invariant.hands;
  ended = below_set IsEnded c.loop-lane.lanes c.loop-lane.lane-index c.end.new.self (omega arith) c.loop-lane.invariant.ended c.end.ensures.ended;
}
