use Rattle.std.proofs.Common.{◌<◌, arith}
use Rattle.std.proofs.lemmas.Option.{slice_get_within}
use Rattle.runs.proofs.StandingLemmas.{open_unsettled}
use Rattle.runs.proofs.known.stays_known.Goals as goal

pub returns : goal.returns
returns c stays i e at unset =
    let log = c.args.log.now in
    let within = slice_get_within log.entries i e at in
    let ended = c.loop-i-test.false in
    let all = c.len-i-end.ensures.count in
    c.loop-i.invariant i e (omega (arith, within, ended, all)) at (open_unsettled log e unset)
