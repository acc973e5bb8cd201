use Rattle.std.proofs.Common.{◌<◌, length, All, subst, rules, arith}
use Rattle.std.proofs.lemmas.Grind.{common_steps}
use Rattle.std.proofs.lemmas.List.Elements.{All-head, All-tail}
use Rattle.audit_slices.specs.declared.members.Member.{Member}
use Rattle.audit_slices.specs.Members.{MayWork}
use Rattle.audit_slices.proofs.pool.run_watched.Given.{Over}
use Rattle.audit_slices.proofs.pool.run_watched.Goals.{In-Some}
use Rattle.audit_slices.proofs.pool.run_watched.Goals as goal

-- the first worker and the others
module _ (g : Over) (c : In-Some g) where
  abbrev May : Member g.row.X.Denot → Type 0
  May = MayWork (g.C.Check.entries c.args.check.now) (g.C.Check.gives c.args.check.now)

  first : May c.in-Some.first.now
  first = All-head May c.in-Some.first.now c.in-Some.others.now (subst (All May) c.in-Some.ensures.cases.0 c.requires.may)

  others : All May c.in-Some.others.now
  others = All-tail May c.in-Some.first.now c.in-Some.others.now (subst (All May) c.in-Some.ensures.cases.0 c.requires.may)

pub work_watched-requires-clause-may : goal.work_watched-requires-clause-may
work_watched-requires-clause-may g c = first g (goal.at.work_watched-requires-clause-may g c).In-Some

pub join_mut-requires-after_bounds : goal.join_mut-requires-after_bounds
join_mut-requires-after_bounds g c κs within =
    let at = (goal.at.join_mut-requires-after_bounds g c).In-Some in
    let own = first g at in
    let rest = others g at in
    let some : 0 < length c.in-Some.others.now = first_of (search rules, grind (arith, common_steps)) in
    search (rules, own, rest, some)
