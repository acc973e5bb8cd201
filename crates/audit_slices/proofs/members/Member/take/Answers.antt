use Rattle.std.proofs.Common.{map, ap}
use Rattle.slice_yard.specs.Lane.{thief_place}
use Rattle.audit_slices.specs.Members.{member_places, openings, thief_openings, IsIn}
use Rattle.audit_slices.proofs.ThiefLemmas.{inside_other, inside_same, on_some}
use Rattle.audit_slices.proofs.members.Member.take.Goals as goal

pub returns-in-None-clause-inside : goal.returns-in-None-clause-inside
returns-in-None-clause-inside g c =
    on_some (IsIn (thief_openings (map thief_place c.as_mut_slice.result.now))) (IsIn (openings (member_places c.args.self.now))) c.steal_from.result
    (λ x h. inside_other (member_places c.args.self.now) x (inside_same _ (member_places c.args.self.now).1 x (ap (map thief_place) c.as_mut_slice.ensures.value) h))
    c.steal_from.ensures.inside
