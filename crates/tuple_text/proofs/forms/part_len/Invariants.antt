use Rattle.std.proofs.Common.{◌≡◌, ◌≤◌, ◌+◌, ◌-◌, length}
use Rattle.std.specs.List.{prefix_len}
use Rattle.tuple_text.specs.Classes.{may_stand}
use Rattle.tuple_text.proofs.forms.part_len.Given as goal

abbrev pub decreases-loop-four : goal.decreases-loop-four
decreases-loop-four l = length l.rest

abbrev pub invariant-loop-four : goal.invariant-loop-four
invariant-loop-four l = record {
  within : length l.rest ≤ length l.bytes;
  left : length l.bytes - length l.rest + prefix_len (may_stand l.part) l.rest ≡ prefix_len (may_stand l.part) l.bytes;
}
