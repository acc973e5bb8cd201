use Rattle.std.proofs.Common.{◌≡◌, map}
use Rattle.slice_yard.specs.Lane.{lane_place, thief_place}
use Rattle.tests_of_slices.proofs.yards.are_given.Given as goal

abbrev pub invariant-loop-step : goal.invariant-loop-step
invariant-loop-step l = record {
  owners : map lane_place l.owners.items ≡ map lane_place l.fn.owners.items;
  others : map (λ v. map thief_place v.items) l.thieves.items ≡ map (λ v. map thief_place v.items) l.fn.thieves.items;
}
