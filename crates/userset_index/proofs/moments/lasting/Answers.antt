use Rattle.std.proofs.Common.{◌≤◌, ◌%◌, ◌∙◌, sym, inl, inr, ap, subst, arith}
use Rattle.std.specs.Prelude.{slice_get}
use Rattle.std.proofs.Math.Nat.{eq-or-lt_of_le}
use Rattle.std.proofs.lemmas.Option.{get_or_from_slice_get}
use Rattle.namespaces.specs.Numbers.{Has}
use Rattle.namespaces.proofs.NumberSets.{of_slot}
use Rattle.userset_index.proofs.moments.lasting.Goals.{then-untils-slot, else-untils-slot}
use Rattle.userset_index.proofs.moments.lasting.Goals as goal

pub loop-slot-preserved : goal.loop-slot-preserved
loop-slot-preserved c k v less here late =
    let slot = c.loop-slot.slot in
    elim c.if-untils-slot.branch [
      | then-untils-slot w ↦
          rw w.numbers-is
          (elim (eq-or-lt_of_le (let near : k ≤ slot = omega (arith, less) in near)) [
            | inr before ↦ w.with-numbers.ensures.kept k (c.loop-slot.invariant k v before here late)
            | inl e ↦ subst (Has w.with-numbers.result) (sym e) w.with-numbers.ensures.has
          ])
      | else-untils-slot w ↦
          rw w.numbers-is
          (elim (eq-or-lt_of_le (let near : k ≤ slot = omega (arith, less) in near)) [
            | inr before ↦ c.loop-slot.invariant k v before here late
            | inl e ↦
                let read = get_or_from_slice_get c.args.untils.now slot v 0 (ap (slice_get c.args.untils.now) (sym e) ∙ here) in
                absurd (let early = w.if-untils-slot.false in omega (arith, early, read, late))
          ])
    ]

pub returns : goal.returns
returns c n u least late =
    of_slot c.loop-slot.numbers n
    (c.loop-slot.invariant (n % 256) least.0 (omega (arith, c.loop-slot-test.false, c.loop-slot.auto.slot-end)) least.1 (omega (arith, late, least.2)))
