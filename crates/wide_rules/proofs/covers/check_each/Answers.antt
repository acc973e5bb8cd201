use Rattle.std.proofs.Common.{sym, subst, arith}
use Rattle.rewrites.specs.Parts.{part_at, parts_shown}
use Rattle.marks.proofs.PlacedLemmas.{length-more}
use Rattle.wide_rules.specs.Asked.{AreCovers}
use Rattle.wide_rules.proofs.CoverLemmas.{covers_by_part_more}
use Rattle.wide_rules.proofs.covers.check_each.Goals as goal

pub loop-k-preserved : goal.loop-k-preserved
loop-k-preserved c =
    let covers = parts_shown c.args.covers.now in
    let parts = parts_shown c.args.parts.now in
    let each = c.loop-k.each.items in
    let one = c.in_ok-numbers.numbers in
    let longer = length-more each one in
    rw c.in_ok-push.ensures.items
    (record {
      count = omega (arith, longer, c.loop-k.invariant.count);
      each = covers_by_part_more (record { parts = parts; covers = covers }) each one c.loop-k.invariant.each
          (subst (λ n. AreCovers covers (part_at parts n) one.items) (sym c.loop-k.invariant.count) c.in_ok-numbers.ensures);
    })
