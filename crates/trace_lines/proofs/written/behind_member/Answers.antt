use Rattle.std.proofs.Common.{sym, ◌∙◌}
use Rattle.trace_lines.proofs.MoreMembers.{member_text}
use Rattle.trace_lines.proofs.written.behind_member.Goals as goal

pub returns : goal.returns
returns c =
    let key = c.in_ok-key.key.now in
    let text = c.in_ok-rest.field-0-0.now in (
      key,
      text,
      rw (c.in_ok-behind.ensures, c.in_ok-key.ensures.0, c.in_ok-behind-2.ensures, c.in_ok-rest.ensures.0)
          (member_text key text c.in_ok-rest.rest.now c.in_ok-key.ensures.1 c.in_ok-rest.ensures.1),
      sym c.is_free.ensures ∙ c.if-not-is_free.false,
    )
