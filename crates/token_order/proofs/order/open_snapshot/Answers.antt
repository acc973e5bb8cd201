use Rattle.std.proofs.Common.{length, arith, ap}
use Rattle.std.proofs.lemmas.List.{length-map}
use Rattle.version_chains.specs.Commits.{Commit}
use Rattle.token_order.specs.Found.{open_snapshot}
use Rattle.token_order.proofs.Compared.{told_of, last_of_all, closed, still_open}
use Rattle.token_order.proofs.order.open_snapshot.Goals as goal

pub returns-then-next-times : goal.returns-then-next-times
returns-then-next-times c = λ e at.
    told_of (open_snapshot c.args.trace.now) c.standing-entry.ensures.value at
    (last_of_all c.standing-entry.ensures.among (omega (arith, c.if-next-times.true)))

pub returns-then-entry-times : goal.returns-then-entry-times
returns-then-entry-times c = λ e at.
    told_of (open_snapshot c.args.trace.now) c.standing-entry.ensures.value at
    (closed c.standing-entry.ensures.among c.if-entry-times.true)

pub returns : goal.returns
returns c = λ e at.
    let within = c.standing-entry.ensures.among.within in
    let count = length-map c.args.trace.now.commits (λ (k : Commit). k.at) in
    let same = ap length c.standing-entry.ensures.among.are in
    told_of (open_snapshot c.args.trace.now) c.standing-entry.ensures.value at
    (still_open c.standing-entry.ensures.among c.commit_line.result
    (omega (arith, within, count, same, c.if-next-times.false)) c.if-entry-times.false c.commit_line.ensures.line)
