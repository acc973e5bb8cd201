use Rattle.std.proofs.Common.{◌≡◌, ◌<◌, ◌++◌, ◌∷◌, length, map, arith, rules}
use Rattle.std.specs.Vec.Iter.{into_iter_items}
use Rattle.std.proofs.lemmas.Grind.{common_steps}
use Rattle.slice_yard.specs.Lane.{lane_state}
use Rattle.slice_yard.specs.Yard.{IsNextOf}
use Rattle.slice_core.proofs.Tables.{All_mid}
use Rattle.slice_yard.proofs.CloseLemmas.{its_lane, still_open, its_seat, joined, joined_sum, within_lanes}
use Rattle.slice_yard.proofs.yard.absorb_all.Goals.{In-Some}
use Rattle.slice_yard.proofs.yard.absorb_all.Goals as goal

-- the next thief, and the place of its lane
module _ (c : In-Some) where
  whole : c.args.thieves.items ≡ c.loop-thief.yielded ++ (c.in-Some.thief ∷ into_iter_items c.next.new.self)
  whole = first_of (search rules, grind (arith, common_steps))

  fits : IsNextOf (map lane_state c.args.lanes.now) c.in-Some.thief
  fits = All_mid (IsNextOf (map lane_state c.args.lanes.now)) c.args.thieves.items c.loop-thief.yielded (into_iter_items c.next.new.self) c.in-Some.thief whole c.requires.next

  within : (c.in-Some.thief.lane < length c.loop-thief.lanes) × (c.in-Some.thief.lane < length c.args.lanes.now)
  within = within_lanes c.args.lanes.now c.loop-thief.lanes c.in-Some.thief c.loop-thief.auto.lanes fits

pub absorb-requires : goal.absorb-requires
absorb-requires c =
    let at = (goal.at.absorb-requires c).In-Some in
    let before = c.args.lanes.now in
    let now = c.loop-thief.lanes in
    let d = c.index-lanes-thief.result in
    let first = c.loop-thief.yielded in
    let rest = into_iter_items c.next.new.self in
    let all = c.args.thieves.items in
    let thief = c.in-Some.thief in
    let so_far = c.loop-thief.invariant.lanes in
    let once = c.requires.once thief.lane (within at).1 in
    record {
      lane = its_lane before now d first rest all thief (whole at) (fits at) so_far (within at).0 once;
      «open» = still_open before now d first rest all thief (whole at) (fits at) so_far (within at).0 once;
      seat = its_seat before now d first rest all thief (whole at) (fits at) so_far (within at).0 once;
    }

pub loop-thief-preserved : goal.loop-thief-preserved
loop-thief-preserved c =
    let inside = (within (goal.at.loop-thief-preserved c).In-Some).0 in
    record {
      lanes = λ f n first. joined f n c.loop-thief.lanes c.index-lanes-thief.result c.loop-thief.yielded c.in-Some.thief (c.loop-thief.invariant.lanes f n first) inside c.absorb.new.self c.absorb.ensures.same c.absorb.ensures.list;
      sums = joined_sum c.loop-thief.lanes c.in-Some.thief.lane c.absorb.new.self c.index-lanes-thief.result c.loop-thief.yielded c.in-Some.thief inside c.absorb.ensures.list c.args.lanes.now c.loop-thief.invariant.sums;
      all = first_of (search rules, grind (arith, common_steps));
    }
