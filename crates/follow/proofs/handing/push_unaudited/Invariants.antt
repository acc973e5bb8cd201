use Rattle.std.proofs.Common.{◌≡◌, ◌++◌, drop}
use Rattle.std.specs.Prelude.{string_bytes}
use Rattle.std.specs.List.{flat_map}
use Rattle.follow.specs.Handing.{unaudited_line}
use Rattle.follow.proofs.handing.push_unaudited.Given as goal

-- the lines of the entries so far, and those of the rest
abbrev pub invariant-loop-i : goal.invariant-loop-i
invariant-loop-i l =
    string_bytes l.text ++ flat_map (unaudited_line l.known l.trace.entries) (drop l.i l.trace.entries)
    ≡ string_bytes l.fn.text ++ flat_map (unaudited_line l.known l.trace.entries) (drop l.begun l.trace.entries)
