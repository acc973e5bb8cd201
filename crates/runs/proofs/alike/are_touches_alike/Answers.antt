use Rattle.std.proofs.Common.{ℕ, ◌∷◌, List, ◌∙◌, ap, sym, drop}
use Rattle.std.specs.Prelude.{nat_lt}
use Rattle.std.proofs.lemmas.Bool.{le-ltb, lt-ltb}
use Rattle.version_chains.specs.Commits.{Touch, changelog}
use Rattle.version_chains.specs.Touches.{touch_value}
use Rattle.runs.specs.Alike.{touches_above}
use Rattle.runs.proofs.TouchLemmas.{touch_eq-same}
use Rattle.runs.proofs.WalkLemmas.{drop_past, kept_at, passed_at}
use Rattle.runs.proofs.alike.are_touches_alike.Goals as goal
use Rattle.runs.proofs.alike.are_touches_alike.Goals.{then-base-touch+in-Some-next_above+else-not-is_same_touch, else-base-touch}

pub returns-in_default : goal.returns-in_default
returns-in_default c none =
    c.loop-i.invariant
    (ap (touches_above c.args.base) (drop_past (changelog c.args.log.now.commits) c.loop-i.i (sym c.in_default.ensures.value))
    ∙ sym (c.is_none_above.ensures none))

pub loop-i-preserved : goal.loop-i-preserved
loop-i-preserved c rest =
    let behind : ℕ → List Touch = λ n. touches_above c.args.base (drop n (changelog c.args.other.now.commits)) in
    elim c.if-base-touch.branch [
      | then-base-touch+in-Some-next_above+else-not-is_same_touch w ↦
          let own = touch_value c.in-Some.touch in
          let same = touch_eq-same own _ (sym w.is_same_touch.ensures ∙ w.if-not-is_same_touch.false) in
          c.loop-i.invariant
          (kept_at (λ (x : Touch). nat_lt c.args.base x.at) (changelog c.args.log.now.commits) c.loop-i.i own
          (sym c.in-Some.ensures.value) (lt-ltb c.args.base c.in-Some.touch.at w.if-base-touch.true)
          ∙ ap (λ (xs : List Touch). own ∷ xs) rest
          ∙ ap (λ (x : Touch). x ∷ behind c.if-base-touch.j) same
          ∙ ap (λ (n : ℕ). touch_value w.in-Some-next_above.same ∷ behind n) w.j-is
          ∙ sym w.in-Some-next_above.ensures)
      | else-base-touch w ↦
          c.loop-i.invariant
          (passed_at (λ (x : Touch). nat_lt c.args.base x.at) (changelog c.args.log.now.commits) c.loop-i.i
          (touch_value c.in-Some.touch) (sym c.in-Some.ensures.value) (le-ltb c.args.base c.in-Some.touch.at w.if-base-touch.false)
          ∙ rest ∙ ap behind w.j-is)
    ]
