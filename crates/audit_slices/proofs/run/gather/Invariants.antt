use Rattle.std.proofs.Common.{◌≡◌, ◌++◌, false, map, All}
use Rattle.std.specs.List.{flat_map}
use Rattle.std.specs.Vec.Iter.{into_iter_items}
use Rattle.audit_slices.proofs.run.gather.Given as goal

abbrev pub invariant-loop-member : goal.invariant-loop-member
invariant-loop-member g l = record {
  lanes : l.lanes.items ≡ map (λ m. m.lane) l.yielded;
  thieves : l.thieves.items ≡ map (λ m. m.thieves) l.yielded;
  done : l.done.items ≡ flat_map (λ m. m.done.items) l.yielded;
  kept : All (λ m. m.lost ≡ false) l.yielded;
  all : l.fn.members.items ≡ l.yielded ++ into_iter_items l.member-iterator;
}
