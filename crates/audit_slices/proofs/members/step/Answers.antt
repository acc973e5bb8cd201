use Rattle.std.proofs.Common.{refl}
use Rattle.audit_slices.proofs.MemberLemmas.{below, short}
use Rattle.audit_slices.proofs.members.step.Goals as goal

pub settle-requires-clause-slice : goal.settle-requires-clause-slice
settle-requires-clause-slice g c = below _ _ _ c.in-Some.slice refl c.requires.may.covered c.in-Some.ensures.inside

pub settle-requires-clause-before : goal.settle-requires-clause-before
settle-requires-clause-before g c = short (g.C.Check.gives c.args.check.now) c.args.member.now _ c.in-Some.slice c.requires.may.before c.in-Some.ensures.done c.in-Some.ensures.sums
