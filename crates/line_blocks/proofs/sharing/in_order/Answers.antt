use Rattle.std.proofs.Common.{◌≡◌, arith, length, subst, sym}
use Rattle.std.proofs.lemmas.List.{nil_from_length}
use Rattle.std.specs.Vec.Iter.{into_iter_items}
use Rattle.line_blocks.specs.Shares.{IsToldOf}
use Rattle.line_blocks.proofs.Slots.{Ordered, all_ordered, next}
use Rattle.line_blocks.proofs.sharing.in_order.Goals as goal

pub offset_bounds-blocks-len : goal.offset_bounds-blocks-len
offset_bounds-blocks-len g c =
    let first = next _ _ _ _ _ _ c.in-Some.ensures.steps.0 c.loop-slot.invariant.0 in
    omega (arith, first.within, c.len.ensures, c.loop-slot.all.ok.0)

pub bounds-blocks-len : goal.bounds-blocks-len
bounds-blocks-len g c =
    let first = next _ _ _ _ _ _ c.in-Some.ensures.steps.0 c.loop-slot.invariant.0 in
    omega (arith, first.within, c.len.ensures, c.loop-slot.all.ok.0)

pub told_in-told-requires-clause-slot : goal.told_in-told-requires-clause-slot
told_in-told-requires-clause-slot g c κs within =
    let first = next _ _ _ _ _ _ c.in-Some.ensures.steps.0 c.loop-slot.invariant.0 in
    let at : c.len.result ≡ length c.loop-slot.all.items = omega (arith, c.len.ensures, c.loop-slot.all.ok.0) in
    rw at (rw first.place first.slot)

pub loop-slot-preserved : goal.loop-slot-preserved
loop-slot-preserved g c =
    let first = next _ _ _ _ _ _ c.in-Some.ensures.steps.0 c.loop-slot.invariant.0 in
    let at : c.len.result ≡ length c.loop-slot.all.items = omega (arith, c.len.ensures, c.loop-slot.all.ok.0) in
    let is : IsToldOf (g.J.TellLine.told c.args.teller.now) first.block c.told_in-told.result =
    rw first.place at (rw at at c.told_in-told.ensures.told) in (
      subst (λ rs. Ordered (g.J.TellLine.told c.args.teller.now) c.args.blocks.now rs (into_iter_items c.next.new.self))
          (sym c.in_ok-push.ensures.items) (first.further c.told_in-told.result is),
      c.told_in-told.ensures.suits,
    )

pub returns : goal.returns
returns g c =
    let none = nil_from_length (into_iter_items c.loop-slot.slot-iterator) (omega (arith, c.in-None.ensures.steps.0)) in
    all_ordered (g.J.TellLine.told c.args.teller.now) c.args.blocks.now c.loop-slot.all.items
    (rw none at c.loop-slot.invariant.0)
