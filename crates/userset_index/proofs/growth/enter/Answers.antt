use Rattle.std.proofs.Common.{◌≡◌, ◌+◌, List, [], ◌∷◌, ◌++◌, length, Option, Some, subst, sym, rules}
use Rattle.std.specs.Prelude.{IfSome}
use Rattle.userset_index.specs.Growth.{ArePlaced}
use Rattle.userset_index.specs.declared.life.Life.{Life}
use Rattle.userset_index.proofs.GrowthLemmas.{placed_with, placed_without}
use Rattle.userset_index.proofs.growth.enter.Goals as goal

pub returns-in_default-clause-placed : goal.returns-in_default-clause-placed
returns-in_default-clause-placed c =
    subst (ArePlaced c.args.spans.now) (sym c.in_ok-push.ensures.items) (placed_without c.args.spans.now c.args.places.now.items c.requires.placed)

pub returns-clause-placed : goal.returns-clause-placed
returns-clause-placed c =
    let l = c.in-Some.life in
    let few = c.if-place-gt-MOST_PLACES.false in
    let number : c.saturating_add-place.result ≡ length c.args.spans.now + 1 = search rules in
    subst (ArePlaced c.push-2.new.self) (sym c.in_ok-push-3.ensures.items)
    (subst (λ (ls : List Life). ArePlaced ls (c.args.places.now.items ++ c.saturating_add-place.result ∷ [])) (sym c.in_ok-push-2.ensures.ok)
    (placed_with c.args.spans.now c.args.places.now.items l c.saturating_add-place.result c.requires.placed
    (some_of c.args.life l c.in-Some.is c.requires.of) number))
  where
    some_of : (o : Option Life) (l : Life) → o ≡ Some l → IfSome o (λ l. l.touch ≡ length c.args.places.now.items)
        → l.touch ≡ length c.args.places.now.items
    some_of o l is of = subst (λ (p : Option Life). IfSome p (λ l. l.touch ≡ length c.args.places.now.items)) is of
