use Rattle.std.proofs.Common.{◌≡◌, length}
use Rattle.line_blocks.specs.Blocks.{lines_of}
use Rattle.line_blocks.specs.Parts.{lines_told}
use Rattle.line_blocks.proofs.BlockLines.{onto}
use Rattle.line_blocks.proofs.telling.tell_block.Given as goal

abbrev pub invariant-loop-line : goal.invariant-loop-line
invariant-loop-line g l =
    (lines_told (g.J.TellLine.told l.fn.teller) l.fn.room (lines_of l.fn.block)
    ≡ onto l.values.items (lines_told (g.J.TellLine.told l.fn.teller) l.left (lines_of l.rest)))
    × g.J.TellLine.suits l.fn.teller l.scratch

abbrev pub decreases-loop-line : goal.decreases-loop-line
decreases-loop-line g l = length l.rest
