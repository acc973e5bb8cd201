-- Which kinds of fault a call may answer.
use Rattle.std.specs.Prelude.{◌≢◌, Bool, true, false, List, IsTrue, ⊤}
use Rattle.std.specs.List.{list_any}
use Rattle.trace_lines.specs.declared.cause.Cause.TheVariants as causes
use Rattle.evidence_check.specs.declared.cause.EvidenceCause.TheVariants as evidence_causes
use Rattle.audit.specs.declared.plain.AuditFault.{AuditFault}
use Rattle.audit.specs.declared.plain.AuditFault.TheVariants as faults

pub data Kind : Type 0 where
  trace : Kind
  evidence : Kind
  write : Kind
  memory : Kind
  limits : Kind
  joined : Kind
  input : Kind

abbrev pub kind_of : AuditFault → Kind
kind_of (faults.Trace f) = trace
kind_of (faults.Evidence f) = evidence
kind_of (faults.Write n) = write
kind_of faults.OutOfMemory = memory
kind_of faults.Limits = limits
kind_of faults.Joined = joined
kind_of faults.Input = input

abbrev pub is_same : Kind → Kind → Bool
is_same trace trace = true
is_same evidence evidence = true
is_same write write = true
is_same memory memory = true
is_same limits limits = true
is_same joined joined = true
is_same input input = true
is_same _ _ = false

abbrev pub is_among : List Kind → Kind → Bool
is_among kinds kind = list_any (is_same kind) kinds

-- that memory ran out is told as such, and never as a fault of the trace or of the evidence
abbrev pub IsToldAsSuch : AuditFault → Type 0
IsToldAsSuch (faults.Trace f) = f.cause ≢ causes.OutOfMemory
IsToldAsSuch (faults.Evidence f) = f.cause ≢ evidence_causes.OutOfMemory
IsToldAsSuch _ = ⊤

-- the fault is of one of these kinds, and where memory ran out it is of the kind `memory`
abbrev pub IsOneOf : List Kind → AuditFault → Type 0
IsOneOf kinds fault = IsTrue (is_among kinds (kind_of fault)) × IsToldAsSuch fault
