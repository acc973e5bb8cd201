use Rattle.std.proofs.Common.{◌≡◌, ◌≤◌, drop, length, map}
use Rattle.std.specs.Prelude.{filter}
use Rattle.carry_laws.specs.Carried.{placeless}
use Rattle.runs.specs.Alike.{goes_on}
use Rattle.runs.proofs.alike.are_entries_alike.Given as goal

-- where the rest is alike, all is
abbrev pub invariant-loop-i : goal.invariant-loop-i
invariant-loop-i l =
    (l.j ≤ length l.other.entries)
    × (map placeless (filter (goes_on l.from l.log) (drop l.i l.log.entries)) ≡ map placeless (drop l.j l.other.entries)
    → map placeless (filter (goes_on l.from l.log) l.log.entries) ≡ map placeless l.other.entries)
