use Rattle.std.proofs.Common.{◌≡◌}
use Rattle.audit.specs.Shared.{found_judged, has_finding}
use Rattle.audit.proofs.shared.findings_by.Given as goal

-- what may be given to an entry is what is found on it in this trace, judged so
abbrev pub ghosts-found_unseen : goal.ghosts-found_unseen
ghosts-found_unseen g a =
    record { gives = λ entry found. found ≡ found_judged a.trace.now a.judgements.now entry; alerts = has_finding }
