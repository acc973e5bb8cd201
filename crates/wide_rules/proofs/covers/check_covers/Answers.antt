use Rattle.std.proofs.Common.{get_or}
use Rattle.rewrites.specs.Parts.{part_expression, parts_shown}
use Rattle.wide_rules.proofs.CoverLemmas.{one_cover_more}
use Rattle.wide_rules.proofs.covers.check_covers.Goals as goal
use Rattle.wide_rules.proofs.covers.check_covers.Goals.{then-is_cover_at+in_ok-push, else-is_cover_at}

pub loop-number-preserved : goal.loop-number-preserved
loop-number-preserved c =
    let x = get_or c.args.unchecked.now c.loop-number.number-index 0 in
    elim c.if-is_cover_at.branch [
      | then-is_cover_at+in_ok-push w ↦
          rw (w.numbers-is, w.in_ok-push.ensures.items)
          (one_cover_more (parts_shown c.args.covers.now) (part_expression c.args.part.now) c.loop-number.numbers.items x c.loop-number.invariant
          (c.is_cover_at.ensures w.if-is_cover_at.true))
      | else-is_cover_at w ↦ rw w.numbers-is c.loop-number.invariant
    ]
