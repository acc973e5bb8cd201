use Rattle.std.proofs.Common.{rules, ◌≡◌, ◌∷◌, ◌++◌, [], refl}
use Rattle.rewrites.specs.Plain.{leaves}
use Rattle.rewrites.specs.View.{expression_of}
use Rattle.rewrites.specs.declared.parts.Part.{Part}
use Rattle.goal_cone.proofs.GroupLemmas.{put_last}
use Rattle.goal_cone.proofs.leaves.put.Goals as goal

pub returns-in_ok-push-in_default : goal.returns-in_ok-push-in_default
returns-in_ok-push-in_default c =
    let old = c.args.parts.now.items in
    let is : c.push.new.self.items ≡ old ++ Part.Leaf c.args.leaf ∷ [] = search rules in
    rw is (put_last old (Part.Leaf c.args.leaf) (leaves (expression_of c.args.leaf)) refl)
