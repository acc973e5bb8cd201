use Rattle.std.proofs.Common.{◌≡◌, ◌∙◌, true, None, Some, refl, ap, subst, sym}
use Rattle.std.specs.Prelude.{slice_get}
use Rattle.marks.specs.Marks.{pair_mark, set_mark}
use Rattle.userset_index.specs.Index.{object_mark}
use Rattle.userset_index.specs.Lives.{is_alive}
use Rattle.userset_index.specs.declared.life.Life.{Life}
use Rattle.userset_index.proofs.growth.life_through.Goals as goal

pub returns-in_err-object-clause-finds : goal.returns-in_err-object-clause-finds
returns-in_err-object-clause-finds c i x here of at mark g live user small since by =
    let w = of at (object_mark x.tuple.set g) g live user small since refl in
    let gone : None ≡ Some w.0 = sym c.in_err-object.was ∙ w.1 in
    absurd cc

pub returns-clause-finds : goal.returns-clause-finds
returns-clause-finds c i x here of at mark g live user small since by =
    let w = of at (object_mark x.tuple.set g) g live user small since refl in
    let life = c.in_ok-object.field-0 in
    let both : Some life ≡ Some w.0 = sym c.in_ok-object.was ∙ w.1 in
    let same : w.0 ≡ life = cc in
    let touch : life.touch ≡ i = ap (λ (l : Life). l.touch) (sym same) ∙ w.3 in
    let made = c.numbered.ensures.numbered x g by.0 (ap (slice_get _) touch ∙ here) user by.1 in (
      record life { mark = pair_mark (set_mark x.tuple.set) by.0 },
      made,
      sym by.2,
      touch,
      subst (λ (l : Life). is_alive at l ≡ true) same w.4,
    )
