use Rattle.std.proofs.Common.{refl}
use Rattle.trace_lines.proofs.WrittenLines.{is_check}
use Rattle.trace_lines.proofs.written.check_written.Goals as goal

pub returns : goal.returns
returns c =
    is_check c.args.text.now c.in_ok-said.rest.now c.in_ok-kind.kind c.in_ok-said.said
    (rw (c.in_ok-behind.ensures, c.in_ok-kind.ensures, c.in_ok-said.ensures.text) refl) c.in_ok-said.ensures.plain
    (c.if-not-is_more.ensures refl) (c.if-not-has_version.ensures refl)
