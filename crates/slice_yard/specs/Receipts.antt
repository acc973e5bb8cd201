-- What a clause says of receipts.
use Rattle.std.specs.Prelude.{List, map}
use Rattle.slice_yard.specs.declared.rule.Hand.{Hand}
use Rattle.slice_yard.specs.declared.receipts.Receipts.{Receipts}
use Rattle.slice_yard.specs.Lane.{lane_hand}

-- of each lane: its owner's list, those of its thieves, and what was handed out of it since it was closed
abbrev pub receipt_hands : Receipts → List Hand
receipt_hands r = map lane_hand r.lanes.items
