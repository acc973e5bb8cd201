use Rattle.std.proofs.Common.{◌≡◌, ◌∷◌, ◌+◌, ◌++◌, map, drop, add-one, refl, sym}
use Rattle.std.proofs.Math.Seq.{drop-cons}
use Rattle.rewrites.specs.View.{expression_of}
use Rattle.rewrites.proofs.PlainLemmas.{joined_on_itself, put_plain}
use Rattle.rewrites.proofs.plain.put_copies.Goals as goal

pub loop-child-preserved : goal.loop-child-preserved
loop-child-preserved c =
    let es = c.deref-child-items.result.now in
    let i = c.loop-child.child-index in
    let child = c.child-item.result in
    let old = map expression_of c.loop-child.kept.items in
    let new = map expression_of c.put.new.kept.items in
    let left : drop i es ≡ child ∷ drop (i + 1) es = rw (drop-cons es i child c.loop-child-test.true, add-one, ← c.child-item.is) refl in
    let same : expression_of child ≡ expression_of c.in_ok-copy.copy = sym c.in_ok-copy.ensures in
    joined_on_itself c.args.joint old new (map expression_of (drop (i + 1) es)) (map expression_of c.args.kept.now.items ++ map expression_of es) (expression_of child)
    (put_plain c.args.joint old new (expression_of child) (rw (← same) at c.in_ok-put.ensures)) (rw left at c.loop-child.invariant)
