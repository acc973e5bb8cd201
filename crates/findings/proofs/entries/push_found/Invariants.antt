use Rattle.std.proofs.Common.{◌≡◌, ◌+◌, ◌≤◌, ◌++◌, length, drop}
use Rattle.std.specs.Prelude.{vec_len, vec_capacity}
use Rattle.findings.specs.Findings.{on_line}
use Rattle.findings.proofs.entries.push_found.Given as goal

abbrev pub invariant-loop-what : goal.invariant-loop-what
invariant-loop-what l = record {
  whole : l.findings.items ++ on_line l.line (drop l.what-index l.found) ≡ l.fn.findings.items ++ on_line l.line l.found;
  room : vec_len l.findings + length (drop l.what-index l.found) ≤ vec_capacity l.findings;
}
