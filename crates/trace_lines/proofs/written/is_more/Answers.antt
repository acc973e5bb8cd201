use Rattle.std.proofs.Common.{rules}
use Rattle.trace_lines.proofs.MoreMembers.{one_more}
use Rattle.trace_lines.proofs.written.is_more.Goals as goal

pub loop-next-preserved : goal.loop-next-preserved
loop-next-preserved c =
    (search rules, λ more. c.loop-next.invariant.1 (one_more c.loop-next.rest.now c.in-Some.next.now c.in-Some.ensures more))
