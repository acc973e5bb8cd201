use Rattle.std.proofs.Common.{◌≡◌, ℕ, ◌-◌, ◌<◌, ◌≤◌, Some, length}
use Rattle.std.specs.Prelude.{slice_get}
use Rattle.trace_lines.specs.Values.{EntryValue}
use Rattle.follow.proofs.asking.entries_before.Given as goal

-- those before `low` stand in front of the line, and those from `high` on do not
abbrev pub invariant-loop-low : goal.invariant-loop-low
invariant-loop-low l = record {
  order : l.low ≤ l.high;
  within : l.high ≤ length l.trace.entries;
  before : (i : ℕ) (e : EntryValue) → slice_get l.trace.entries i ≡ Some e → i < l.low → e.line < l.line;
  behind : (i : ℕ) (e : EntryValue) → slice_get l.trace.entries i ≡ Some e → l.high ≤ i → l.line ≤ e.line;
}

abbrev pub decreases-loop-low : goal.decreases-loop-low
decreases-loop-low l = l.high - l.low
