use Rattle.std.proofs.Common.{◌≡◌, length, sym, ◌∙◌, rules, arith}
use Rattle.rewrites.specs.View.{expression_of}
use Rattle.strata.specs.Sights.{reads}
use Rattle.strata.proofs.Walks.{edges_next, edges_end, edges_past}
use Rattle.strata.proofs.walk.check_relation.Goals as goal

pub returns-in_default : goal.returns-in_default
returns-in_default c =
    sym (c.loop-k.invariant ∙ edges_end c.args.rules.now (reads c.args.sight) c.args.reader c.loop-k.k c.in_default.ensures)

pub returns-in_err-check_rewrite : goal.returns-in_err-check_rewrite
returns-in_err-check_rewrite c =
    rw (
      c.loop-k.invariant,
      edges_next c.args.rules.now (reads c.args.sight) c.args.reader c.loop-k.k (expression_of c.in-Some.rewrite.now) c.in-Some.ensures,
      ← c.in_err-check_rewrite.ensures,
    ) (search rules)

pub loop-k-preserved : goal.loop-k-preserved
loop-k-preserved c =
    c.loop-k.invariant
    ∙ edges_next c.args.rules.now (reads c.args.sight) c.args.reader c.loop-k.k (expression_of c.in-Some.rewrite.now) c.in-Some.ensures
    ∙ rw (← c.in_ok-check_rewrite.ensures) (search rules)

pub returns : goal.returns
returns c =
    let over : c.loop-k.k ≡ length c.args.rules.now = omega (arith, c.len-k-end.ensures) in
    sym (rw (c.loop-k.invariant, over) (edges_past c.args.rules.now (reads c.args.sight) c.args.reader))
