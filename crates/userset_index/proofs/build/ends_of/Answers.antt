use Rattle.std.proofs.Common.{◌≡◌, ℕ, ◌≤◌, ◌-◌, ◌++◌, ◌∷◌, [], ◌∙◌, suc, None, Some, length, inl, inr, ap, subst, sym, arith, rules}
use Rattle.std.specs.Prelude.{slice_get, slice_set, option_map}
use Rattle.std.proofs.lemmas.Option.{none-some, slice_get_cases, slice_get_within}
use Rattle.tuple_text.specs.Order.{tuple_eq}
use Rattle.version_chains.specs.Commits.{Touch, changelog}
use Rattle.marks.specs.Placed.{last_place}
use Rattle.version_chains.specs.Touches.{touch_value}
use Rattle.marks.proofs.PlacedLemmas.{last_place-within, length-more, length-set}
use Rattle.userset_index.specs.Building.{AreLastAmong, HaveEnds}
use Rattle.userset_index.proofs.BuildLemmas.{ends_more, ends_set}
use Rattle.userset_index.proofs.EndLemmas.{last_alone, last_more, last_set}
use Rattle.userset_index.proofs.build.ends_of.Goals.{After-push, then-touch-gt0, else-touch-gt0}
use Rattle.userset_index.proofs.build.ends_of.Goals as goal

-- no end is lost where one is set
kept_long : (c : After-push) → length c.if-touch-gt0.ends.items ≡ length c.loop-touch.ends.items
kept_long c = elim c.if-touch-gt0.branch [
  | then-touch-gt0 w ↦
      let ends = c.loop-touch.ends.items in
      let set : c.if-touch-gt0.ends.items ≡ slice_set ends
      (c.in-Some.touch.older - 1) w.saturating_sub.result = search rules in
      ap length set ∙ length-set ends (c.in-Some.touch.older - 1) w.saturating_sub.result
  | else-touch-gt0 w ↦ let same : c.if-touch-gt0.ends.items ≡ c.loop-touch.ends.items = search rules in ap length same
]

pub index_mut-requires : goal.index_mut-requires
index_mut-requires c =
    let touches = changelog c.args.chains.now.commits in
    let within = last_place-within (λ (x : Touch). tuple_eq x.tuple (touch_value c.in-Some.touch).tuple) touches c.len.result in
    let older = c.in-Some.ensures.older in
    let len = c.len.ensures in
    let some = c.if-touch-gt0.true in
    omega (arith, within, older, len, some)

pub loop-touch-preserved : goal.loop-touch-preserved
loop-touch-preserved c =
    let touches = changelog c.args.chains.now.commits in
    let ends = c.loop-touch.ends.items in
    let y = touch_value c.in-Some.touch in
    let len : c.len.result ≡ length ends = search rules in
    let now : slice_get touches (length ends) ≡ Some y = search rules in
    let pushed : c.push.new.self.items ≡ c.if-touch-gt0.ends.items ++ 18446744073709551615 ∷ [] = search rules in
    let older : c.in-Some.touch.older ≡ last_place (λ x. tuple_eq x.tuple y.tuple) touches (length ends) = c.in-Some.ensures.older ∙ ap (last_place (λ x. tuple_eq x.tuple y.tuple) touches) len in
    let each : HaveEnds touches c.if-touch-gt0.ends.items = elim c.if-touch-gt0.branch [
      | then-touch-gt0 w ↦
          let some = w.if-touch-gt0.true in
          let k : c.in-Some.touch.older ≡ suc (c.in-Some.touch.older - 1) = omega (arith, some) in
          let set : c.if-touch-gt0.ends.items ≡ slice_set ends (c.in-Some.touch.older - 1) w.saturating_sub.result = search rules in
          let end = w.saturating_sub.ensures in
          subst (HaveEnds touches) (sym set)
          (ends_set touches ends c.loop-touch.invariant.each y (c.in-Some.touch.older - 1) w.saturating_sub.result now (sym older ∙ k) (λ at late. omega (arith, late, end)))
      | else-touch-gt0 w ↦
          let same : c.if-touch-gt0.ends.items ≡ ends = search rules in
          subst (HaveEnds touches) (sym same) c.loop-touch.invariant.each
    ] in
    let long = kept_long (goal.at.loop-touch-preserved c).After-push in
    let last : AreLastAmong (suc (length ends)) touches c.if-touch-gt0.ends.items = elim c.if-touch-gt0.branch [
      | then-touch-gt0 w ↦
          let some = w.if-touch-gt0.true in
          let k : c.in-Some.touch.older ≡ suc (c.in-Some.touch.older - 1) = omega (arith, some) in
          let set : c.if-touch-gt0.ends.items ≡ slice_set ends (c.in-Some.touch.older - 1) w.saturating_sub.result = search rules in
          let end : w.saturating_sub.result ≡ y.at - 1 = search rules in
          subst (AreLastAmong (suc (length ends)) touches) (sym set)
          (last_set touches ends y now c.loop-touch.invariant.last (c.in-Some.touch.older - 1) w.saturating_sub.result c.touches_rise.ensures (sym older ∙ k) end)
      | else-touch-gt0 w ↦
          let same : c.if-touch-gt0.ends.items ≡ ends = search rules in
          let none = w.if-touch-gt0.false in
          let alone : c.in-Some.touch.older ≡ 0 = omega (arith, none) in
          subst (AreLastAmong (suc (length ends)) touches) (sym same) (last_alone touches ends y now c.loop-touch.invariant.last (sym older ∙ alone))
    ] in
    let less = slice_get_within touches (length ends) y now in
    let more = ap length pushed ∙ length-more c.if-touch-gt0.ends.items 18446744073709551615 in
    let count : suc (length ends) ≡ length c.push.new.self.items = omega (arith, more, long) in
    record {
      within = omega (arith, more, long, less);
      last = subst (λ (n : ℕ). AreLastAmong n touches c.push.new.self.items) count
          (subst (AreLastAmong (suc (length ends)) touches) (sym pushed)
          (last_more touches c.if-touch-gt0.ends.items (suc (length ends)) 18446744073709551615 (ap suc (sym long)) last));
      each = subst (HaveEnds touches) (sym pushed) (ends_more touches c.if-touch-gt0.ends.items each 18446744073709551615 (λ at late small. omega (arith, late, small)));
    }

pub loop-touch-smaller : goal.loop-touch-smaller
loop-touch-smaller c =
    let touches = changelog c.args.chains.now.commits in
    let ends = c.loop-touch.ends.items in
    let len : c.len.result ≡ length ends = search rules in
    let now : slice_get touches (length ends) ≡ Some (touch_value c.in-Some.touch) = search rules in
    let pushed : c.push.new.self.items ≡ c.if-touch-gt0.ends.items ++ 18446744073709551615 ∷ [] = search rules in
    let long = kept_long (goal.at.loop-touch-smaller c).After-push in
    let less = slice_get_within touches (length ends) (touch_value c.in-Some.touch) now in
    let more : length c.push.new.self.items ≡ suc (length ends) = ap length pushed ∙ length-more c.if-touch-gt0.ends.items 18446744073709551615 ∙ ap suc long in
    omega (arith, more, less)

pub returns : goal.returns
returns c =
    let touches = changelog c.args.chains.now.commits in
    let ends = c.loop-touch.ends.items in
    let within = c.loop-touch.invariant.within in
    let len : c.len.result ≡ length ends = search rules in
    let nothing : c.touch.result ≡ None = search rules in
    let none : slice_get touches (length ends) ≡ None = ap (slice_get touches) (sym len) ∙ sym c.touch.ensures.value ∙ ap (option_map touch_value) nothing in
    let past : length touches ≤ length ends = elim (slice_get_cases touches (length ends)).1 [
      | inl w ↦ absurd (none-some w.0 (sym none ∙ w.2))
      | inr p ↦ p.0
    ] in
    let all : length ends ≡ length touches = omega (arith, within, past) in
    record {
      all = all;
      each = c.loop-touch.invariant.each;
      last = subst (λ (n : ℕ). AreLastAmong n touches ends) all c.loop-touch.invariant.last;
    }
