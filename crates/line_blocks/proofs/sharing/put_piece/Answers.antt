use Rattle.line_blocks.proofs.Slots.{slot_set}
use Rattle.line_blocks.proofs.sharing.put_piece.Goals as goal

pub returns-then-number-len : goal.returns-then-number-len
returns-then-number-len g c = λ told bs is are.
    slot_set told c.args.slots.now.items bs c.args.piece.number c.args.piece.slot are is
