use Rattle.std.proofs.Common.{◌∙◌, ap}
use Rattle.std.proofs.Math.Seq.{map-set_same}
use Rattle.slice_yard.specs.Lane.{thief_place}
use Rattle.tests_of_slices.proofs.yards.steal_at.Goals as goal

pub returns : goal.returns
returns c = map-set_same thief_place c.args.thieves.now.items c.args.place c.steal.new.self c.index_mut.result.now (c.steal.ensures.same ∙ ap thief_place c.index_mut.ensures.value)
