use Rattle.std.proofs.Common.{ap, option_map, refl}
use Rattle.command_line.proofs.request.ask_for_audit.Goals as goal

pub returns-in-Some-Some-Some-clause-given : goal.returns-in-Some-Some-Some-clause-given
returns-in-Some-Some-Some-clause-given c =
    let all = c.in-Some-Some-Some in
    (all.trace.now, all.workers, all.slice, ap (option_map (λ s. s.now)) all.is-0, all.is-1, all.is-2, refl)
