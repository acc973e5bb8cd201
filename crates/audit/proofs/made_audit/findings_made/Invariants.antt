use Rattle.audit.specs.MadeAudit.{IsFoundMade}
use Rattle.audit.specs.Shared.{has_finding}
use Rattle.audit.proofs.made_audit.findings_made.Given as goal

-- what may be given to an entry is what is found on it by steps that are made for it in this trace
abbrev pub ghosts-found_made : goal.ghosts-found_made
ghosts-found_made g a = record { gives = IsFoundMade a.trace.now; alerts = has_finding }
