use Rattle.std.proofs.Common.{◌≡◌, map}
use Rattle.std.proofs.lemmas.Result.{IfOk-weaker}
use Rattle.namespaces.specs.Lookup.{expression_in}
use Rattle.rewrites.specs.Parts.{parts_shown}
use Rattle.rewrites.specs.View.{expression_of}
use Rattle.goal_cone.proofs.OnceLemmas.{grouped}
use Rattle.goal_cone.proofs.leaves.leaves_at.Goals as goal

pub returns-clause-leaves : goal.returns-clause-leaves
returns-clause-leaves c =
    IfOk-weaker c.each_noted.result _ _ (λ v shown. rw shown
    (grouped (parts_shown c.in_ok-parts.parts.items) (map expression_of c.in_ok-leaves.leaves.items) (expression_in c.args.place c.args.rules.now)
    c.in_ok-parts.ensures c.in_ok-leaves.ensures)) c.each_noted.ensures.shown
