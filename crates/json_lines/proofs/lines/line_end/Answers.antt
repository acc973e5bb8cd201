use Rattle.std.proofs.Common.{◌∙◌}
use Rattle.json_lines.proofs.Cuts.{line_end_is}
use Rattle.json_lines.proofs.lines.line_end.Goals as goal

pub returns : goal.returns
returns c = c.unwrap_or.ensures ∙ line_end_is c.args.bytes.now c.memchr.result c.memchr.ensures
