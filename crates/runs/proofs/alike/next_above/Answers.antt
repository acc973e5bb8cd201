use Rattle.std.proofs.Common.{◌∙◌, sym}
use Rattle.std.specs.Prelude.{nat_lt}
use Rattle.std.proofs.lemmas.Bool.{le-ltb, lt-ltb}
use Rattle.version_chains.specs.Commits.{Touch, changelog}
use Rattle.version_chains.specs.Touches.{touch_value}
use Rattle.runs.proofs.WalkLemmas.{kept_at, passed_at}
use Rattle.runs.proofs.alike.next_above.Goals as goal

pub returns-then-base-touch : goal.returns-then-base-touch
returns-then-base-touch c =
    c.loop-i.invariant
    ∙ kept_at (λ (x : Touch). nat_lt c.args.base x.at) (changelog c.args.chains.now.commits) c.loop-i.i
    (touch_value c.in_ok-touch.touch) (sym c.in_ok-touch.ensures.value) (lt-ltb c.args.base c.in_ok-touch.touch.at c.if-base-touch.true)

pub loop-i-preserved : goal.loop-i-preserved
loop-i-preserved c =
    c.loop-i.invariant
    ∙ passed_at (λ (x : Touch). nat_lt c.args.base x.at) (changelog c.args.chains.now.commits) c.loop-i.i
    (touch_value c.in_ok-touch.touch) (sym c.in_ok-touch.ensures.value) (le-ltb c.args.base c.in_ok-touch.touch.at c.if-base-touch.false)
