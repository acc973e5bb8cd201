use Rattle.std.proofs.Common.{◌≡◌, ◌≤◌, ◌∙◌, ℕ, Some, length, refl, sym, inl, inr, ap, subst, arith}
use Rattle.std.specs.Prelude.{slice_get}
use Rattle.std.proofs.Math.Nat.{eq-or-lt_of_le}
use Rattle.std.proofs.lemmas.Option.{get_or_from_slice_get, slice_get_read}
use Rattle.userset_index.specs.Index.{IsCovered}
use Rattle.userset_index.specs.Moments.{IsHeld}
use Rattle.userset_index.proofs.moments.moments_of.Goals as goal

pub loop-stay-preserved : goal.loop-stay-preserved
loop-stay-preserved c =
    let i = c.loop-stay.stay-index in
    record {
      room = c.begin.ensures.room;
      held = λ k s less here.
          elim (eq-or-lt_of_le (let near : k ≤ i = omega (arith, less) in near)) [
            | inr before ↦ c.begin.ensures.held s (c.in_ok-close.ensures.held s (c.loop-stay.invariant.held k s before here))
            | inl e ↦
                let there : slice_get c.args.stays.now i ≡ Some s = ap (slice_get c.args.stays.now) (sym e) ∙ here in
                subst (IsHeld c.begin.new.self) (get_or_from_slice_get c.args.stays.now i s _ there) c.begin.ensures.new
          ];
    }

pub returns : goal.returns
returns c s t there since until small =
    let at = slice_get_read c.args.stays.now (length c.args.stays.now) there.0 s refl there.1 (sym there.2) in
    elim (c.loop-stay.invariant.held there.0 s (omega (arith, there.1, c.loop-stay-test.false)) at t small since until) [
      | inl covered ↦ c.in_ok-put.ensures.old s.mark s.number t covered
      | inr w ↦
          subst (λ (m : ℕ). IsCovered c.put.new.self.lives.items c.put.new.self.numbers.items m s.number t) (sym w.0)
          (c.in_ok-put.ensures.new s.number t w.1 (omega (arith, small)) w.2)
    ]
