use Rattle.std.proofs.Common.{refl}
use Rattle.trace_lines.proofs.written.said_before.Goals as goal

pub returns-clause-text : goal.returns-clause-text
returns-clause-text c =
    rw (c.in_ok-behind.ensures, c.in_ok-goal.ensures.0, c.in_ok-behind-2.ensures, c.in_ok-snapshot.ensures.text, c.in_ok-behind-3.ensures, c.in_ok-reply.ensures, c.in_ok-zookie.ensures.text, c.in_ok-version.ensures.text) refl
