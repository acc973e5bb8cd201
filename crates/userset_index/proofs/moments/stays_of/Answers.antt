use Rattle.std.proofs.Common.{◌≡◌, ◌+◌, ◌∙◌, List, None, Some, ap, subst, sym, arith, rules}
use Rattle.std.specs.Prelude.{slice_get, option_map, Contains}
use Rattle.version_chains.specs.Commits.{changelog}
use Rattle.version_chains.specs.Touches.{touch_value}
use Rattle.marks.proofs.PlacedLemmas.{read_item}
use Rattle.userset_index.specs.Moments.{HoldsStaysFirst}
use Rattle.userset_index.specs.declared.moments.Stay.{Stay}
use Rattle.userset_index.proofs.MomentLemmas.{stays_all, stays_next, stays_past}
use Rattle.userset_index.proofs.moments.stays_of.Goals.{in-Some+in-Some-stay_of+in_ok-push_stay, in-Some+in_default-stay_of, in_default}
use Rattle.userset_index.proofs.moments.stays_of.Goals as goal

pub loop-index-preserved : goal.loop-index-preserved
loop-index-preserved c =
    let ds = c.args.rules.now in
    let touches = changelog c.args.chains.now.commits in
    let n = c.loop-index.index in
    let stays = c.loop-index.stays.items in
    let within = c.loop-index-test.true in
    elim c.match-touch.branch [
      | in-Some+in-Some-stay_of+in_ok-push_stay w ↦
          let x = touch_value w.in-Some.touch in
          let here : slice_get touches n ≡ Some x = sym c.touch.ensures.value ∙ ap (option_map touch_value) w.in-Some.is in
          let end : slice_get c.args.ends.now n ≡ Some _ = read_item c.args.ends.now c.args.ends.now n _ (λ i. c.args.ends.now) within (search rules) in
          stays_next ds touches stays c.match-touch.stays.items n w.stay_of.result x _ c.loop-index.invariant here w.stay_of.ensures (c.requires.each n x _ here end)
          (λ s there. rw w.stays-is (w.in_ok-push_stay.ensures.old s there))
          (λ s is.
          let both : Some w.in-Some-stay_of.stay ≡ Some s = sym w.in-Some-stay_of.is ∙ is in
          let one : w.in-Some-stay_of.stay ≡ s = cc in
          rw w.stays-is (subst (λ (z : Stay). Contains w.push_stay.new.stays.items z) one w.in_ok-push_stay.ensures.new))
      | in-Some+in_default-stay_of w ↦
          let x = touch_value w.in-Some.touch in
          let here : slice_get touches n ≡ Some x = sym c.touch.ensures.value ∙ ap (option_map touch_value) w.in-Some.is in
          let end : slice_get c.args.ends.now n ≡ Some _ = read_item c.args.ends.now c.args.ends.now n _ (λ i. c.args.ends.now) within (search rules) in
          let same : c.match-touch.stays.items ≡ stays = search rules in
          let none : w.stay_of.result ≡ None = search rules in
          stays_next ds touches stays c.match-touch.stays.items n w.stay_of.result x _ c.loop-index.invariant here w.stay_of.ensures (c.requires.each n x _ here end)
          (λ s there. subst (λ (ss : List Stay). Contains ss s) (sym same) there)
          (λ s is. absurd (let bad : None ≡ Some s = sym none ∙ is in cc))
      | in_default w ↦
          let nothing : c.touch.result ≡ None = search rules in
          let none : slice_get touches n ≡ None = sym c.touch.ensures.value ∙ ap (option_map touch_value) nothing in
          let same : c.match-touch.stays.items ≡ stays = search rules in
          subst (λ (ss : List Stay). HoldsStaysFirst (n + 1) ds touches ss) (sym same) (stays_past ds touches stays n c.loop-index.invariant none)
    ]

pub returns : goal.returns
returns c =
    let all = c.requires.all in
    let past = c.loop-index-test.false in
    stays_all c.args.rules.now (changelog c.args.chains.now.commits) c.loop-index.stays.items c.loop-index.index c.loop-index.invariant (omega (arith, all, past))
