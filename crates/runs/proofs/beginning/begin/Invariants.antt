use Rattle.std.proofs.Common.{◌≡◌, ◌+◌, ◌≤◌, drop, map}
use Rattle.carry.specs.Values.{carry_value, item_value}
use Rattle.trace_lines.specs.Values.{next_line}
use Rattle.runs.specs.Begins.{log_from, log_of}
use Rattle.runs.proofs.beginning.begin.Given as goal

-- the items that are left go on with the log so far
abbrev pub invariant-loop-item : goal.invariant-loop-item
invariant-loop-item l = (l.k ≡ l.item-index) × (next_line l.log ≤ l.last + 1)
    × (l.last ≤ l.carry.lines)
    × (log_of (carry_value l.carry)
    ≡ log_from l.carry.lines l.item-index l.last l.log (map item_value (drop l.item-index l.item-items)))
