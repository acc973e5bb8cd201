use Rattle.std.proofs.Common.{◌≡◌}
use Rattle.audit.specs.Early.{state_of}
use Rattle.audit.specs.Shared.{found_judged, has_finding}
use Rattle.audit.proofs.early.findings_early.Given as goal

-- what may be given to an entry is what is found on it in this trace, judged so
abbrev pub ghosts-found_early-N-Names : goal.ghosts-found_early-N-Names
ghosts-found_early-N-Names g a =
    record { gives = λ entry found. found ≡ found_judged a.trace.now a.judgements.now entry; alerts = has_finding }

-- how the writer stood when the call began
abbrev pub ghosts-found_early-N-Begun : goal.ghosts-found_early-N-Begun
ghosts-found_early-N-Begun g a =
    record { begun = state_of g.E.Sink.taken g.E.Sink.failures g.E.Sink.idle g.E.Sink.since a.early.now }
