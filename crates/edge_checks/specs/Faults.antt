-- What a call answers that looks for a broken edge.
use Rattle.std.specs.Prelude.{◌≡◌, Result, Ok, Err}
use Rattle.strata.specs.declared.edge.Edge.{Edge}
use Rattle.edge_checks.specs.declared.fault.EdgeFault.{EdgeFault}
use Rattle.edge_checks.specs.declared.fault.EdgeFault.TheVariants.{Broken, OutOfMemory}

-- the first broken edge, or that there is none, or out of memory
abbrev pub Answers : Result (Unit {0}) EdgeFault → Result (Unit {0}) Edge → Type 0
Answers (Ok u) checked = checked ≡ Ok u
Answers (Err (Broken e)) checked = checked ≡ Err e
Answers (Err OutOfMemory) checked = Unit {0}
