use Rattle.std.proofs.Common.{◌≡◌, drop}
use Rattle.std.specs.Prelude.{slice_get}
use Rattle.findings.specs.Findings.{on_line}
use Rattle.audit.proofs.early.first_of.Given as goal

abbrev pub invariant-loop-what : goal.invariant-loop-what
invariant-loop-what l =
    slice_get (on_line l.found.line (drop l.what-index l.what-items)) 0 ≡ slice_get
    (on_line l.found.line l.found.what) 0
