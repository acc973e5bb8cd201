use Rattle.std.proofs.Common.{◌≡◌, ◌∙◌, ap, List, subst, sym}
use Rattle.std.specs.Prelude.{IfSome}
use Rattle.tuple_text.specs.Order.{tuple_eq}
use Rattle.version_chains.specs.Commits.{Changes, Touch, changelog}
use Rattle.marks.specs.Placed.{last_place}
use Rattle.version_chains.specs.Touches.{touch_value}
use Rattle.version_chains.proofs.chains.Chains.touch.Goals as goal

pub returns-clause-older : goal.returns-clause-older
returns-clause-older c =
    let logged : c.self.inside.arena.touches ≡ changelog c.args.self.now.commits =
    sym c.self.invariant.logged ∙ ap (λ (v : Changes). changelog v.commits) c.self.view_is in
    subst (λ (xs : List Touch). IfSome c.touched.result (λ t. t.older ≡ last_place (λ x. tuple_eq x.tuple (touch_value t).tuple) xs c.args.index)) logged c.touched.ensures.older
