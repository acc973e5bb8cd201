use Rattle.std.proofs.Common.{◌∙◌, ap}
use Rattle.std.proofs.Math.Seq.{map-set_same}
use Rattle.slice_yard.specs.Lane.{lane_place}
use Rattle.tests_of_slices.proofs.yards.next_of.Goals as goal

pub returns : goal.returns
returns c = map-set_same lane_place c.args.lanes.now.items c.args.l c.next.new.self c.index_mut.result.now (c.next.ensures.same ∙ ap lane_place c.index_mut.ensures.value)
