use Rattle.std.proofs.Common.{arith}
use Rattle.std.specs.Prelude.{is_none}
use Rattle.std.proofs.lemmas.Result.{on_ok_weaker}
use Rattle.monitor.proofs.StandingLemmas.{left_unreached, silent_at_end}
use Rattle.monitor.proofs.TellingLemmas.{from_rising, told_each}
use Rattle.monitor.proofs.monitor.Monitor.end.Goals as goal

pub tell_each-requires-clause-due : goal.tell_each-requires-clause-due
tell_each-requires-clause-due g c =
    left_unreached c.args.trace.now c.stand_in_order.ensures c.entries_rise.ensures c.args.self.now c.requires.stands c.requires.all.commits
    c.requires.all.entries c.in_ok-left.left.keys c.in_ok-left.ensures

pub returns-clause-told : goal.returns-clause-told
returns-clause-told g c =
    let left = c.in_ok-left.left.keys in
    on_ok_weaker c.tell_each.result (λ each.
    told_each g.J.Judge.allows c.args.trace.now is_none left c.args.told.now.items c.tell_each.new.told.items
    (from_rising 0 left (omega arith) c.in_ok-left.ensures.rising) each
    (silent_at_end c.args.trace.now c.stand_in_order.ensures c.entries_rise.ensures c.args.self.now c.requires.stands c.requires.all.commits
    c.requires.all.entries left c.in_ok-left.ensures))
    c.tell_each.ensures.told
