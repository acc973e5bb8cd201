use Rattle.std.proofs.Common.{ℕ, ◌+◌, ◌≤◌, List, Result, map}
use Rattle.std.specs.Vec.Iter.{into_iter_items}
use Rattle.line_blocks.specs.Blocks.{lines_in}
use Rattle.line_blocks.specs.Parts.{put_parts}
use Rattle.line_blocks.specs.Values.{AreTold, block_told, bytes_in}
use Rattle.line_blocks.specs.declared.blocks.Block.{Block}
use Rattle.line_blocks.proofs.AllTold.{Left}
use Rattle.line_blocks.proofs.putting.put_each.Given as goal

abbrev pub invariant-loop-part : goal.invariant-loop-part
invariant-loop-part g l =
    ((told : List ℕ → Result g.row.J-Value.Denot g.row.J-Cause.Denot) (bs : List Block) → AreTold told l.fn.parts.items bs
    → Left told g.P.PutTold.put (put_parts g.P.PutTold.put l.fn.first l.fn.value (map (block_told told) bs))
    (l.fn.first + lines_in (bytes_in bs)) (into_iter_items l.part-iterator) l.number l.value)
    × (g.P.PutTold.next l.value ≤ l.number) × (l.fn.first ≤ l.number)
