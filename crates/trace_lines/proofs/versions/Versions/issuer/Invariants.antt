use Rattle.trace_lines.specs.Issued.{Issue, issued_by, version_value}
use Rattle.trace_lines.specs.Recorded.{shown}
use Rattle.trace_lines.specs.Versions.{version_eq}
use Rattle.marks.proofs.LeftLemmas.{AreLeft}
use Rattle.trace_lines.proofs.versions.Versions.issuer.Given as goal

abbrev pub invariant-loop-index : goal.invariant-loop-index
invariant-loop-index l = AreLeft (λ (x : Issue). version_eq (version_value l.version) x.version) (issued_by (shown l.recorded)) l.index-iterator
