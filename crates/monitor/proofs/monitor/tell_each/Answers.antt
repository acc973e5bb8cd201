use Rattle.std.proofs.Common.{◌≡◌, ℕ, List, [], ◌∷◌, ◌++◌, refl, sym, ◌∙◌, ap, subst, append_assoc, append-nil}
use Rattle.std.proofs.lemmas.Bool.{true≢false}
use Rattle.monitor.specs.Standing.{AreToBeTold}
use Rattle.monitor.specs.Telling.{TellsOfEach, moment_of}
use Rattle.monitor.proofs.StandingLemmas.{one_to_be_told, place_to_be_told}
use Rattle.monitor.proofs.TellingLemmas.{tells_more}
use Rattle.monitor.proofs.WaitingLemmas.{none_left}
use Rattle.monitor.proofs.monitor.tell_each.Goals as goal

pub loop-i-init : goal.loop-i-init
loop-i-init g c = ([], refl, ([], tt, sym (append-nil c.args.told.now.items)), refl)

pub tell_at-requires-clause-judge : goal.tell_at-requires-clause-judge
tell_at-requires-clause-judge g c = c.loop-i.invariant.3 ∙ c.requires.judge

pub tell_at-requires-clause-entry : goal.tell_at-requires-clause-entry
tell_at-requires-clause-entry g c =
    let done = c.loop-i.invariant.0 in
    let i = c.in-Some.i in
    let rest = c.pop_first.new.self.keys in
    let is : c.args.due.keys ≡ done ++ i ∷ rest = c.loop-i.invariant.1 ∙ ap (λ (ks : List ℕ). done ++ ks) c.in-Some.ensures.removal in
    one_to_be_told c.args.trace.now c.args.commit done i rest (subst (AreToBeTold c.args.trace.now c.args.commit) is c.requires.due)

pub loop-i-preserved : goal.loop-i-preserved
loop-i-preserved g c =
    let t = c.args.trace.now in
    let done = c.loop-i.invariant.0 in
    let i = c.in-Some.i in
    let rest = c.pop_first.new.self.keys in
    let is : c.args.due.keys ≡ done ++ i ∷ rest = c.loop-i.invariant.1 ∙ ap (λ (ks : List ℕ). done ++ ks) c.in-Some.ensures.removal in
    let there = place_to_be_told t c.args.commit i (one_to_be_told t c.args.commit done i rest (subst (AreToBeTold t c.args.commit) is c.requires.due)) in (
      done ++ i ∷ [],
      is ∙ sym (append_assoc done (i ∷ []) rest),
      tells_more g.J.Judge.allows t (moment_of t c.args.commit) done i there.0 c.args.told.now.items c.loop-i.told.items c.tell_at.new.told.items
          c.loop-i.invariant.2 there.1 (c.in_ok-tell_at.ensures.told there.0 there.1),
      c.in_ok-tell_at.ensures.judge ∙ c.loop-i.invariant.3,
    )

pub returns-in_err-tell_at-clause-judge : goal.returns-in_err-tell_at-clause-judge
returns-in_err-tell_at-clause-judge g c = c.tell_at.ensures.judge ∙ c.loop-i.invariant.3

pub returns-clause-judge : goal.returns-clause-judge
returns-clause-judge g c = c.loop-i.invariant.3

pub returns-clause-told : goal.returns-clause-told
returns-clause-told g c =
    let t = c.args.trace.now in
    let done = c.loop-i.invariant.0 in
    let none = none_left c.loop-i.due.keys (λ some. true≢false (sym (c.in_default.ensures.variant.1 some))) in
    subst (λ (ds : List ℕ). TellsOfEach g.J.Judge.allows t (moment_of t c.args.commit) ds c.args.told.now.items c.loop-i.told.items)
    (sym (c.loop-i.invariant.1 ∙ ap (λ (ks : List ℕ). done ++ ks) none ∙ append-nil done)) c.loop-i.invariant.2
