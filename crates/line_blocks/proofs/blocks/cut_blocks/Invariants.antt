use Rattle.std.proofs.Common.{◌≡◌, ◌++◌, ◌-◌, length, true}
use Rattle.line_blocks.specs.Blocks.{has_whole_lines, joined}
use Rattle.line_blocks.specs.Values.{AreBlocks, bytes_in}
use Rattle.line_blocks.proofs.blocks.cut_blocks.Given as goal

abbrev pub invariant-loop-rest : goal.invariant-loop-rest
invariant-loop-rest l =
    (joined (bytes_in l.blocks.items) ++ l.rest ≡ l.fn.lines)
    × AreBlocks l.fn.room l.blocks.items
    × (l.left ≡ l.fn.room - length (joined (bytes_in l.blocks.items)))
    × (has_whole_lines l.rest ≡ true)

abbrev pub decreases-loop-rest : goal.decreases-loop-rest
decreases-loop-rest l = length l.rest
