use Rattle.std.proofs.Common.{rules}
use Rattle.trace_lines.specs.EntryViews.{entry_value}
use Rattle.evidence_check.proofs.Shown.{one_more_line}
use Rattle.evidence_check.proofs.placed.lines_of.Goals as goal

pub loop-i-preserved : goal.loop-i-preserved
loop-i-preserved c = one_more_line c.args.trace.now.entries c.loop-i.i (entry_value c.entry.result) c.loop-i.lines.items c.push.new.self.items (search rules) c.entry.ensures.value c.loop-i.invariant c.in_ok-push.ensures.items
