use Rattle.std.proofs.Common.{◌≡◌, ◌+◌, ◌≤◌, ◌++◌, length}
use Rattle.std.specs.List.{flat_map}
use Rattle.std.specs.Prelude.{string_bytes}
use Rattle.audit.specs.History.{touch_text}
use Rattle.audit.proofs.touches.push_touches.Given as goal

-- each line has a byte at least, so the count is no more than the text has
abbrev pub invariant-loop-touch : goal.invariant-loop-touch
invariant-loop-touch l =
    (string_bytes l.text ++ flat_map touch_text l.touch-iterator ≡ string_bytes l.fn.text ++ flat_map touch_text
    l.fn.touches)
    × (l.count + length l.touch-iterator ≡ length l.fn.touches)
    × (l.count ≤ length (string_bytes l.text))
