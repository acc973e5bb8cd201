use Rattle.std.proofs.Common.{rules, ◌≡◌, [], map}
use Rattle.std.proofs.lemmas.Result.{IfOk-weaker}
use Rattle.tuple_text.specs.Refs.{set_value}
use Rattle.rewrites.specs.Parts.{computed_names}
use Rattle.goal_cone.proofs.TargetLemmas.{no_objects, wanted_objects}
use Rattle.goal_cone.proofs.through.objects.Goals as goal

pub returns-in_ok-wanted-in-None : goal.returns-in_ok-wanted-in-None
returns-in_ok-wanted-in-None c = λ declaring.
    IfOk-weaker c.leading_through.result _ _
    (λ v are. wanted_objects c.args.snapshot.now (set_value c.args.tupleset.set) (computed_names c.args.through.now) c.is_well_formed.ensures.namespaces
    c.in_ok-wanted-in-None.wanted (map set_value v.items) (c.in_ok-wanted-in-None.ensures declaring) are) c.leading_through.ensures

pub returns-then-are_apart : goal.returns-then-are_apart
returns-then-are_apart c = λ declaring.
    let s = c.args.snapshot.now in
    let none : c.new.result.items ≡ [] = search rules in
    rw none (no_objects s (set_value c.args.tupleset.set) (computed_names c.args.through.now) c.fits.ensures c.args.declaring declaring
    c.stored_in-stored.result c.stored_in-stored.ensures (c.are_apart.ensures c.if-are_apart.true))
