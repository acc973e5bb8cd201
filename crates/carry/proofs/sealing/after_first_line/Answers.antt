use Rattle.std.specs.Cmp.{unsigned_Decides}
use Rattle.std.proofs.lemmas.Slice.Eq.{strip_prefix_is}
use Rattle.carry.specs.Texts.{first_line}
use Rattle.carry.proofs.Opened.{bytes_stripped}
use Rattle.carry.proofs.sealing.after_first_line.Goals as goal

pub returns : goal.returns
returns c = bytes_stripped c.args.bytes.now c.strip_prefix.result (strip_prefix_is unsigned_Decides c.args.bytes.now first_line c.strip_prefix.result c.strip_prefix.ensures.cases)
