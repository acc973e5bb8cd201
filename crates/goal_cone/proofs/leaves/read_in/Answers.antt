use Rattle.std.proofs.Common.{refl, string_bytes, subst, sym}
use Rattle.std.proofs.lemmas.Result.{IfOk-weaker}
use Rattle.rewrites.specs.Expression.{tuple_to}
use Rattle.rewrites.specs.declared.parts.Part.{Part}
use Rattle.goal_cone.specs.Leaves.{Grows}
use Rattle.goal_cone.proofs.GroupLemmas.{put_grows}
use Rattle.goal_cone.proofs.leaves.read_in.Goals as goal

pub returns-in-Through-clause-read : goal.returns-in-Through-clause-read
returns-in-Through-clause-read c =
    let e = tuple_to (string_bytes c.args.tupleset.now) (string_bytes c.args.computed.now) in
    IfOk-weaker c.read_if.result _ _
    (λ r read is. subst (λ (p : Part). Grows p (Part.Through c.read_if.new.through) e) (sym c.in-Through.is)
    (put_grows c.in-Through.through c.read_if.new.through e refl (read is))) c.read_if.ensures.read
