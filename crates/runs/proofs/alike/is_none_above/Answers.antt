use Rattle.std.proofs.Common.{◌∙◌, ap, sym}
use Rattle.std.specs.Prelude.{nat_lt}
use Rattle.std.proofs.lemmas.Bool.{le-ltb}
use Rattle.version_chains.specs.Commits.{Touch, changelog}
use Rattle.version_chains.specs.Touches.{touch_value}
use Rattle.runs.specs.Alike.{touches_above}
use Rattle.runs.proofs.WalkLemmas.{drop_past, passed_at}
use Rattle.runs.proofs.alike.is_none_above.Goals as goal

pub returns-in_default : goal.returns-in_default
returns-in_default c yes' =
    c.loop-i.invariant
    ∙ ap (touches_above c.args.base) (drop_past (changelog c.args.chains.now.commits) c.loop-i.i (sym c.in_default.ensures.value))

pub loop-i-preserved : goal.loop-i-preserved
loop-i-preserved c =
    c.loop-i.invariant
    ∙ passed_at (λ (x : Touch). nat_lt c.args.base x.at) (changelog c.args.chains.now.commits) c.loop-i.i
    (touch_value c.in-Some.touch) (sym c.in-Some.ensures.value) (le-ltb c.args.base c.in-Some.touch.at c.if-base-touch.false)
