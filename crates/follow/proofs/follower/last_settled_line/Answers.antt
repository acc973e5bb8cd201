use Rattle.std.proofs.Common.{◌-◌, ◌≤◌, arith, rules}
use Rattle.trace_lines.specs.EntryViews.{entry_value}
use Rattle.follow.proofs.FollowerLemmas.{through_before}
use Rattle.follow.proofs.follower.last_settled_line.Goals as goal

pub returns-in_default-clause-through : goal.returns-in_default-clause-through
returns-in_default-clause-through c =
    let some = c.in_default in
    let below : c.min.result ≤ c.entry.result.line - 1 = search rules in
    through_before c.args.trace.now c.len.ensures.rising c.args.settled (entry_value c.entry.result) c.requires.settled
    c.entry.ensures.value c.min.result (omega (arith, some, below))
