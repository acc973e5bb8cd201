use Rattle.std.proofs.Common.{◌≡◌, take}
use Rattle.std.specs.Prelude.{string_bytes}
use Rattle.audit.proofs.MadeRecords.{IsMadeSoFar}
use Rattle.audit.proofs.made.records_of.Given as goal

-- the maker is the trace's, and what was made for the entries so far
abbrev pub invariant-loop-i : goal.invariant-loop-i
invariant-loop-i l = record {
  maker : l.maker ≡ l.trace;
  made : IsMadeSoFar l.trace (take l.i l.trace.entries) (string_bytes l.text) l.given_up.items;
}
