-- What is told of a fault that reading ended with: that fault, and where memory ran out that alone.
use Rattle.std.specs.Prelude.{◌≡◌, ◌≢◌, [], ◌∷◌}
use Rattle.trace_lines.specs.declared.cause.Cause.TheVariants as causes
use Rattle.trace_lines.specs.declared.cause.TraceFault.{TraceFault}
use Rattle.evidence_check.specs.declared.cause.EvidenceCause.TheVariants as evidence_causes
use Rattle.evidence_check.specs.declared.cause.EvidenceFault.{EvidenceFault}
use Rattle.audit.specs.Audit.{BlamesNoDevice}
use Rattle.audit.specs.Kinds.{IsOneOf}
use Rattle.audit.specs.Kinds as kind
use Rattle.audit.specs.declared.plain.AuditFault.{AuditFault}
use Rattle.audit.specs.declared.plain.AuditFault.TheVariants as faults

pub record TellsTraceFault (fault : TraceFault) (told : AuditFault) : Type 0 where
  pub same : (f : TraceFault) → told ≡ faults.Trace f → f ≡ fault
  pub device : BlamesNoDevice told → fault.cause ≢ causes.Read
  pub kinds : IsOneOf (kind.trace ∷ kind.memory ∷ []) told

pub record TellsEvidenceFault (fault : EvidenceFault) (told : AuditFault) : Type 0 where
  pub same : (f : EvidenceFault) → told ≡ faults.Evidence f → f ≡ fault
  pub device : BlamesNoDevice told → fault.cause ≢ evidence_causes.Read
  pub kinds : IsOneOf (kind.evidence ∷ kind.memory ∷ []) told
