use Rattle.std.proofs.Common.{◌≡◌, ◌++◌, List, map, All}
use Rattle.std.specs.Vec.Iter.{into_iter_items}
use Rattle.std.specs.declared.vec.Vec.{Vec}
use Rattle.std.specs.declared.alloc.Global.{Global}
use Rattle.slice_yard.specs.declared.lane.Thief.{Thief}
use Rattle.audit_slices.specs.declared.members.Member.{Member}
use Rattle.slice_yard.specs.Lane.{lane_place, thief_place}
use Rattle.audit_slices.specs.Members.{member_places, IsNew}
use Rattle.audit_slices.proofs.run.staff.Given as goal

abbrev pub invariant-loop-lane : goal.invariant-loop-lane
invariant-loop-lane g l = record {
  lanes : map (λ (m : Member g.row.X.Denot). (member_places m).0) l.members.items ≡ map lane_place l.yielded;
  thieves : (taken : List (Vec Thief Global)) × (l.fn.thieves.items ≡ taken ++ into_iter_items l.others) × (map (λ (m : Member g.row.X.Denot). (member_places m).1) l.members.items ≡ map (λ (v : Vec Thief Global). map thief_place v.items) taken);
  new : All IsNew l.members.items;
  all : l.fn.lanes.items ≡ l.yielded ++ into_iter_items l.lane-iterator;
}
