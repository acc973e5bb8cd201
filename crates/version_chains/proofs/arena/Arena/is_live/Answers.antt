use Rattle.std.proofs.Common.{◌≡◌, ℕ, ◌-◌, ◌<◌, ◌≤◌, suc, length, true, leb, arith, ◌∙◌, subst}
use Rattle.std.proofs.lemmas.Bool.{le-leb}
use Rattle.tuple_text.specs.Order.{tuple_eq}
use Rattle.version_chains.specs.Commits.{Touch}
use Rattle.version_chains.proofs.NewestLemmas.{live_end, live_found, live_on}
use Rattle.marks.proofs.WalkLemmas.{linked_within}
use Rattle.version_chains.proofs.arena.Arena.is_live.Goals as goal

pub loop-place-init : goal.loop-place-init
loop-place-init c = c.beginning-place.ensures

pub loop-place-smaller : goal.loop-place-smaller
loop-place-smaller c =
    let w = c.in-Some.ensures in
    let nearer = (c.further-place.ensures w.0 w.1 (subst (λ (n : ℕ). c.args.at < n) w.2 c.if-touch-at.false)).nearer in
    let some = c.loop-place-test.true in
    omega (arith, nearer, some)

pub loop-place-preserved : goal.loop-place-preserved
loop-place-preserved c t at =
    let w = c.in-Some.ensures in
    let some = c.loop-place-test.true in
    let next : c.loop-place.place ≡ suc (c.loop-place.place - 1) = omega (arith, some) in
    live_on t c.args.at c.args.self.now.touches c.loop-place.place (c.loop-place.place - 1) w.0 next (c.loop-place.invariant t at) w.1 c.further-place.result
    (c.further-place.ensures w.0 w.1 (subst (λ (n : ℕ). c.args.at < n) w.2 c.if-touch-at.false))

pub returns-then-touch-at : goal.returns-then-touch-at
returns-then-touch-at c t at =
    let w = c.in-Some.ensures in
    let some = c.loop-place-test.true in
    let next : c.loop-place.place ≡ suc (c.loop-place.place - 1) = omega (arith, some) in
    let before : leb w.0.at c.args.at ≡ true = le-leb w.0.at c.args.at (subst (λ (n : ℕ). n ≤ c.args.at) w.2 c.if-touch-at.true) in
    w.3 ∙ live_found t c.args.at c.args.self.now.touches c.loop-place.place (c.loop-place.place - 1) w.0 next (c.loop-place.invariant t at) w.1 before

pub returns-in_default : goal.returns-in_default
returns-in_default c t at =
    let walk = c.loop-place.invariant t at in
    let within = linked_within (λ (x : Touch). tuple_eq x.tuple t) c.args.self.now.touches c.loop-place.place walk.on in
    let some = c.loop-place-test.true in
    let past : length c.args.self.now.touches ≤ c.loop-place.place - 1 = c.in_default.ensures in
    absurd (omega (arith, within, some, past))

pub returns : goal.returns
returns c t at =
    let none = c.loop-place-test.false in
    live_end t c.args.at c.args.self.now.touches c.loop-place.place (let e : c.loop-place.place ≡ 0 = omega (arith, none) in e) (c.loop-place.invariant t at)
