use Rattle.std.proofs.Common.{◌≡◌, ◌+◌, drop}
use Rattle.std.specs.List.{prefix_len}
use Rattle.tuple_text.specs.Classes.{may_stand}
use Rattle.tuple_text.proofs.forms.len_in_few.Given as goal

abbrev pub invariant-loop-i : goal.invariant-loop-i
invariant-loop-i l = l.i + prefix_len (may_stand l.part) (drop l.i l.bytes) ≡ prefix_len (may_stand l.part) l.bytes
