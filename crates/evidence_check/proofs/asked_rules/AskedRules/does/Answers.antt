use Rattle.std.proofs.Common.{◌≡◌, ◌<◌, ◌++◌, ◌∷◌, [], Some, length, refl, sym, subst, ◌∙◌, inl, inr, arith}
use Rattle.std.proofs.lemmas.Option.{slice_get_read}
use Rattle.std.proofs.lemmas.Result.{IfOk-weaker}
use Rattle.std.specs.Prelude.{Contains, slice_set}
use Rattle.rewrites.specs.Alike.{AreAlike}
use Rattle.namespaces.specs.Lookup.{expression_in}
use Rattle.rewrites.specs.Parts.{rule_shown}
use Rattle.marks.proofs.PlacedLemmas.{slice_get-set}
use Rattle.trace_lines.specs.Timelines.{timeline_of}
use Rattle.judgement.specs.Facts.{marked_fact}
use Rattle.judgement.proofs.PassLemmas.{element_at, place_of_element}
use Rattle.evidence_check.specs.Rules.{IsPlaced}
use Rattle.evidence_check.specs.declared.asked_rules.PlacedRule.{PlacedRule}
use Rattle.evidence_check.proofs.JudgedLemmas.{does_alike, one_placed_more, same_place}
use Rattle.evidence_check.proofs.asked_rules.AskedRules.does.Goals as goal

pub returns-then-eq-clause-does : goal.returns-then-eq-clause-does
returns-then-eq-clause-does g c =
    let s = c.self.inside in
    let items = s.asked.items in
    let n = c.unwrap_or-number.result in
    let p = c.index.result.now in
    let q = c.index_mut.result.now in
    let within : n < length items = omega (arith, c.if-number-len.true, c.len-2.ensures) in
    let same : p ≡ q =
    (let h : Some p ≡ Some q = sym (slice_get_read items (length items) n p refl within c.index.ensures) ∙ slice_get_read items (length items) n q refl within c.index_mut.ensures.value in cc) in
    let place : q.place ≡ c.args.place = rw same at (same_place p.place c.args.place (sym c.eq.ensures ∙ c.if-eq.true)) in
    let there : Contains items q = (n, within, sym c.index_mut.ensures.value) in
    let placed = c.self.invariant q there in
    let alike : AreAlike (Some q.rule.expression) (expression_in c.args.place s.trace.now.declarations) = rw place at placed.says in
    let asked : AreAlike (Some (rule_shown c.args.parted.now)) (expression_in c.args.place s.trace.now.declarations) = rw (c.self.view_is) c.requires in
    let both = does_alike s.trace.now c.args.at c.args.known.now (marked_fact c.args.fact) c.args.is_given q.rule.expression (rule_shown c.args.parted.now)
    (expression_in c.args.place s.trace.now.declarations) alike asked in
    let does = rw placed.over at c.does.ensures.does in
    rw (← c.self.view_is) (IfOk-weaker c.does.result _ _ (λ r d. (λ t. both.0 (d.0 t), λ u. d.1 (both.1 u))) does)

pub invariant_of-self-in_err-insert : goal.invariant_of-self-in_err-insert
invariant_of-self-in_err-insert g c =
    let s = c.self.inside in
    let p : PlacedRule = record { place = c.args.place; rule = record { timeline = timeline_of s.trace.now; expression = rule_shown c.args.parted.now } } in
    let is : c.push.new.self.items ≡ s.asked.items ++ p ∷ [] = rw (c.in_ok-push.ensures.items, c.does-2.ensures.rule, c.in_ok-rule.ensures, c.timeline.ensures) refl in
    let asked : AreAlike (Some p.rule.expression) (expression_in p.place s.trace.now.declarations) = rw (c.self.view_is) c.requires in
    rw is (one_placed_more s.trace.now s.asked.items p c.self.invariant (record { over = refl; says = asked }))

pub invariant_of-self-2 : goal.invariant_of-self-2
invariant_of-self-2 g c =
    let s = c.self.inside in
    let p : PlacedRule = record { place = c.args.place; rule = record { timeline = timeline_of s.trace.now; expression = rule_shown c.args.parted.now } } in
    let is : c.push.new.self.items ≡ s.asked.items ++ p ∷ [] = rw (c.in_ok-push.ensures.items, c.does-2.ensures.rule, c.in_ok-rule.ensures, c.timeline.ensures) refl in
    let asked : AreAlike (Some p.rule.expression) (expression_in p.place s.trace.now.declarations) = rw (c.self.view_is) c.requires in
    rw is (one_placed_more s.trace.now s.asked.items p c.self.invariant (record { over = refl; says = asked }))

pub invariant_of-self : goal.invariant_of-self
invariant_of-self g c = λ p there.
    let s = c.self.inside in
    let items = s.asked.items in
    let n = c.unwrap_or-number.result in
    let q = c.index_mut.result.now in
    let of : Contains items q = (n, omega (arith, c.if-number-len.true, c.len-2.ensures), sym c.index_mut.ensures.value) in
    let x : PlacedRule = record { place = q.place; rule = c.does.new.self } in
    let placed : IsPlaced s.trace.now x = rw c.does.ensures.rule (c.self.invariant q of) in
    let w = place_of_element (slice_set items n x) p there in
    elim (slice_get-set items n w.0 p x w.2) [
      | inl here ↦ subst (IsPlaced s.trace.now) here.1 placed
      | inr other ↦ c.self.invariant p (element_at items w.0 p other.1)
    ]

pub invariant_of-self-in_err-push : goal.invariant_of-self-in_err-push
invariant_of-self-in_err-push g c = rw c.in_err-push.ensures.items c.self.invariant
