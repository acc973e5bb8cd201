use Rattle.std.proofs.Common.{map}
use Rattle.std.proofs.lemmas.Result.{on_ok_weaker}
use Rattle.rewrites.specs.View.{expression_of}
use Rattle.rewrites.proofs.PlainLemmas.{put_plain, put_nested_plain}
use Rattle.rewrites.proofs.plain.put_child.Goals as goal

pub returns-in-Some : goal.returns-in-Some
returns-in-Some c =
    on_ok_weaker c.put_copies.result
    (put_nested_plain c.args.joint (map expression_of c.args.kept.now.items) (map expression_of c.put_copies.new.kept.items)
    (map expression_of c.in-Some.children.now.items) (expression_of c.args.child) c.in-Some.ensures)
    c.put_copies.ensures

pub returns-in-None : goal.returns-in-None
returns-in-None c =
    on_ok_weaker c.put.result
    (put_plain c.args.joint (map expression_of c.args.kept.now.items) (map expression_of c.put.new.kept.items) (expression_of c.args.child))
    c.put.ensures
