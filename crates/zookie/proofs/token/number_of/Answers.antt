use Rattle.std.proofs.Common.{◌≡◌, ap, sym, ◌∙◌}
use Rattle.zookie.proofs.Digits.{not_refused, number_written}
use Rattle.zookie.proofs.token.number_of.Goals as goal

pub unreachable-requires : goal.unreachable-requires
unreachable-requires c = not_refused c.args.digits.now c.requires.sixteen c.requires.digits (sym c.in-Err.is ∙ c.from_hex.ensures)

pub returns : goal.returns
returns c = rw c.from_be_bytes.ensures (number_written c.args.digits.now c.requires.sixteen c.requires.digits c.in-Ok.bytes (sym c.in-Ok.is ∙ c.from_hex.ensures))
