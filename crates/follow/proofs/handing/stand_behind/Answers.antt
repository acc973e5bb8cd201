use Rattle.std.proofs.Common.{◌≡◌, ◌∙◌, arith, subst}
use Rattle.trace_lines.specs.Values.{TraceValue}
use Rattle.windows.specs.Growth.{GoesOn}
use Rattle.follow_laws.specs.Begun.{IsOfBytes}
use Rattle.follow.specs.SoFar.{IsFollowed}
use Rattle.follow.proofs.GrownLemmas.{followed_longer}
use Rattle.follow.proofs.handing.stand_behind.Goals as goal

pub returns-clause-followed : goal.returns-clause-followed
returns-clause-followed c u goes there better =
    let t = c.trace-trace.result.now in
    let same : t ≡ c.args.log.log = c.trace-trace.ensures ∙ c.pause-paused.ensures ∙ c.into_parts-lines.ensures.log in
    let placed = c.stand_in_order.ensures in
    let rising = c.entries_rise.ensures in
    let good : IsOfBytes t = record {
      rising = record { commits = placed.commits; entries = rising };
      formed = record { lines = rising; versions = c.versions_issued_once.ensures; strata = c.valid_strata.ensures };
    } in
    let f = c.in_ok-follower.follower in
    let lines = c.into_parts-lines.ensures.lines in
    let first = c.in_ok-follower.ensures.from.0 in
    let one = c.in-Some.ensures in
    subst (λ (x : TraceValue). GoesOn c.args.log.lines x u → IsFollowed u f) same
    (λ here. followed_longer t u here placed there good better f (omega (arith, lines, first, one))
    c.in_ok-follower.ensures.followed c.in_ok-follower.ensures.all) goes
