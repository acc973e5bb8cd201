use Rattle.std.proofs.Common.{◌≡◌, All, None, length}
use Rattle.line_blocks.proofs.sharing.no_slots.Given as goal

abbrev pub invariant-loop-block : goal.invariant-loop-block
invariant-loop-block g l = All (λ s. s.told ≡ None) l.slots.items × (length l.slots.items ≡ l._block-index)
