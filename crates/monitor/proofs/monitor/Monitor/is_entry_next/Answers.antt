use Rattle.std.proofs.Common.{arith}
use Rattle.std.proofs.lemmas.Bool.{leb-false}
use Rattle.std.proofs.lemmas.Option.{slice_get_within}
use Rattle.trace_lines.specs.EntryViews.{entry_value}
use Rattle.monitor.proofs.StandingLemmas.{before_rises}
use Rattle.monitor.proofs.monitor.Monitor.is_entry_next.Goals as goal

pub returns-then-self-len-clause-commit : goal.returns-then-self-len-clause-commit
returns-then-self-len-clause-commit c = λ test inside. record {
  there = inside;
  behind = λ i e at le.
      let up = before_rises c.args.trace.now c.stand_in_order.ensures c.entries_rise.ensures c.args.self.now.entries i (entry_value c.entry.result) e
      c.entry.ensures.value at le in
      let more = leb-false _ _ test in
      omega (arith, up, more);
}

pub returns-else-self-len-clause-commit : goal.returns-else-self-len-clause-commit
returns-else-self-len-clause-commit c = λ test inside. record {
  there = inside;
  behind = λ i e at le.
      let within = slice_get_within c.args.trace.now.entries i e at in
      let none = c.if-self-len.false in
      let count = c.len.ensures.count in
      absurd (omega (arith, within, none, count, le));
}
