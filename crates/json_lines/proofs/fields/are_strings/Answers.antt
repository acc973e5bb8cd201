use Rattle.std.proofs.Common.{◌∙◌}
use Rattle.json_lines.proofs.Strings.{each_is_string}
use Rattle.json_lines.proofs.fields.are_strings.Goals as goal

pub returns : goal.returns
returns c = c.is_each_string.ensures ∙ each_is_string c.args.items.now
