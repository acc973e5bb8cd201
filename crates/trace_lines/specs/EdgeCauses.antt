-- What the edges of tuples refuse a line for.
use Rattle.edge_checks.specs.declared.fault.EdgeFault.{EdgeFault}
use Rattle.edge_checks.specs.declared.fault.EdgeFault.TheVariants as faults
use Rattle.trace_lines.specs.declared.cause.Cause.{Cause}
use Rattle.trace_lines.specs.declared.cause.Cause.TheVariants as causes

abbrev pub edge_cause : EdgeFault → Cause
edge_cause (faults.Broken e) = causes.Strata e
edge_cause faults.OutOfMemory = causes.OutOfMemory
