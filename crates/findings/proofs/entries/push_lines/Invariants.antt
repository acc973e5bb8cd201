use Rattle.std.proofs.Common.{◌≡◌, ◌++◌, drop, string_bytes}
use Rattle.std.specs.List.{flat_map}
use Rattle.findings.specs.Report.{line_text}
use Rattle.findings.proofs.entries.push_lines.Given as goal

abbrev pub invariant-loop-finding : goal.invariant-loop-finding
invariant-loop-finding l = string_bytes l.text ++ flat_map line_text (drop l.finding-index l.findings) ≡ string_bytes l.fn.text ++ flat_map line_text l.findings
