use Rattle.std.proofs.Common.{refl, rules}
use Rattle.line_blocks.proofs.Cutting.{one_more}
use Rattle.line_blocks.proofs.blocks.cut_blocks.Goals as goal

pub loop-rest-preserved : goal.loop-rest-preserved
loop-rest-preserved c =
    let inv = c.loop-rest.invariant in
    rw c.in_ok-push.ensures.items
    (one_more c.args.room c.args.lines.now c.loop-rest.rest.now c.loop-rest.left c.saturating_sub-left.result
    c.loop-rest.blocks.items _ c.cut_at.result.1.now inv.0 inv.1 inv.2 inv.3
    c.cut_at.ensures.both c.cut_at.ensures.block refl (search rules))
