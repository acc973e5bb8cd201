use Rattle.std.proofs.Common.{◌∙◌, ap, List, map}
use Rattle.std.proofs.Math.Seq.{map-set_same}
use Rattle.std.specs.declared.vec.Vec.{Vec}
use Rattle.std.specs.declared.alloc.Global.{Global}
use Rattle.slice_yard.specs.declared.lane.Thief.{Thief}
use Rattle.slice_yard.specs.Lane.{ThiefPlace, thief_place}
use Rattle.tests_of_slices.proofs.yards.steal_of.Goals as goal

pub returns : goal.returns
returns c =
    let places : Vec Thief Global → List ThiefPlace = λ v. map thief_place v.items in
    map-set_same places c.args.thieves.now.items c.args.worker c.steal_at.new.thieves c.index_mut.result.now (c.steal_at.ensures ∙ ap places c.index_mut.ensures.value)
