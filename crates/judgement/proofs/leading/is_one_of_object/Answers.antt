use Rattle.std.proofs.Common.{◌≡◌, ◌∷◌, [], subst, sym, rules, arith}
use Rattle.std.specs.Prelude.{All}
use Rattle.std.proofs.lemmas.List.Elements.{All-cons}
use Rattle.tuple_text.specs.Refs.{set_value}
use Rattle.judgement.specs.Passes.{IsTouchApart}
use Rattle.judgement.proofs.leading.is_one_of_object.Goals as goal

pub loop-touch-init : goal.loop-touch-init
loop-touch-init c =
    subst (All (IsTouchApart c.args.snapshot.now (set_value c.args.set.set) (set_value c.args.other))) c.into_iter-touch-iterator.ensures.into_iter_gives

pub loop-touch-preserved : goal.loop-touch-preserved
loop-touch-preserved c rest =
    let apart = IsTouchApart c.args.snapshot.now (set_value c.args.set.set) (set_value c.args.other) in
    let steps : c.loop-touch.touch-iterator ≡ c.in-Some.touch ∷ c.next.new.self = search rules in
    c.loop-touch.invariant
    (subst (All apart) (sym steps) (All-cons apart c.in-Some.touch c.next.new.self (c.is_of_object.ensures.apart c.if-is_of_object.false) rest))

pub returns-clause-apart : goal.returns-clause-apart
returns-clause-apart c _ =
    let apart = IsTouchApart c.args.snapshot.now (set_value c.args.set.set) (set_value c.args.other) in
    let none : c.loop-touch.touch-iterator ≡ [] = search rules in
    c.loop-touch.invariant (subst (All apart) (sym none) (λ k d less. absurd (omega (arith, less))))
