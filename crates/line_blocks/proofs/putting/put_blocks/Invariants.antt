use Rattle.std.proofs.Common.{◌+◌, ◌-◌, ◌≤◌, length, map}
use Rattle.line_blocks.specs.Blocks.{lines_in}
use Rattle.line_blocks.specs.Parts.{put_parts}
use Rattle.line_blocks.specs.Values.{block_told, bytes_in}
use Rattle.line_blocks.proofs.AllTold.{Ahead}
use Rattle.line_blocks.proofs.putting.put_blocks.Given as goal

abbrev pub invariant-loop-told : goal.invariant-loop-told
invariant-loop-told g l =
    Ahead (g.J.TellLine.told l.fn.teller) g.P.PutTold.put
    (put_parts g.P.PutTold.put l.fn.first l.fn.value (map (block_told (g.J.TellLine.told l.fn.teller)) l.fn.blocks))
    (l.fn.first + lines_in (bytes_in l.fn.blocks)) l.fn.blocks l.told l.pending.parts.items l.pending.number l.value
    × (g.P.PutTold.next l.value ≤ l.pending.number) × (l.fn.first ≤ l.pending.number)

abbrev pub decreases-loop-told : goal.decreases-loop-told
decreases-loop-told g l = length l.blocks - l.told
