use Rattle.std.proofs.Common.{◌≡◌}
use Rattle.std.specs.List.{AllZip, range_with_len}
use Rattle.audit.specs.MadeAudit.{IsFoundMade}
use Rattle.audit.proofs.made_audit.MakingCheckCheck.check_run.Given as goal

-- the maker is the trace's, and what is found on the entries so far
abbrev pub invariant-loop-k : goal.invariant-loop-k
invariant-loop-k g l = record {
  maker : l.maker ≡ l.self.trace.now;
  found : AllZip (IsFoundMade l.self.trace.now) (range_with_len l.from l.k) l.reports.items;
}
