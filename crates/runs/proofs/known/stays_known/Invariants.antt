use Rattle.std.proofs.Common.{◌≡◌, ◌<◌, ℕ, true, Some}
use Rattle.std.specs.Prelude.{slice_get}
use Rattle.trace_lines.specs.Values.{EntryValue}
use Rattle.carry_laws.specs.Asked.{knows_named}
use Rattle.runs.specs.Alike.{is_open}
use Rattle.runs.proofs.known.stays_known.Given as goal

abbrev pub invariant-loop-i : goal.invariant-loop-i
invariant-loop-i l =
    (k : ℕ) (e : EntryValue) → k < l.i → slice_get l.log.entries k ≡ Some e → is_open l.log e ≡ true
    → knows_named l.further l.log.entries e ≡ knows_named l.from l.log.entries e
