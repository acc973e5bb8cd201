use Rattle.std.proofs.Common.{sym, ◌∙◌}
use Rattle.trace_lines.proofs.WrittenLines.{no_version, some_version}
use Rattle.trace_lines.proofs.written.has_version.Goals as goal

pub returns-in-None : goal.returns-in-None
returns-in-None c = λ fits. rw c.in-None.is (no_version c.args.kind c.args.said.now.reply (sym c.fits_reply.ensures ∙ fits))

pub returns-then-is_label : goal.returns-then-is_label
returns-then-is_label c =
    λ fits. rw c.in-Some.is (some_version c.args.kind c.args.said.now.reply c.in-Some.version.now
    (sym c.is_label.ensures ∙ c.if-is_label.true) (sym c.fits_reply-then-is_label.ensures ∙ fits))
