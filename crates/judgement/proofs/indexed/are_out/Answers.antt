use Rattle.std.proofs.Common.{◌≡◌, ◌∷◌, [], subst, sym, rules, refl, arith}
use Rattle.std.specs.Prelude.{option_map, All}
use Rattle.std.proofs.lemmas.List.Elements.{All-cons}
use Rattle.judgement.specs.AskedFact.{IsOutFor}
use Rattle.judgement.proofs.indexed.are_out.Goals as goal

pub loop-touch-init : goal.loop-touch-init
loop-touch-init g c =
    let same : c.into_iter-touch-iterator.result ≡ c.args.touches = search rules in
    subst (All (IsOutFor c.args.fact.now (option_map (λ s. s.now) c.args.relation))) same

pub loop-touch-preserved : goal.loop-touch-preserved
loop-touch-preserved g c rest =
    let out = c.if-not-is_touch_out.ensures.out refl in
    let steps : c.loop-touch.touch-iterator ≡ c.in-Some.touch ∷ c.next.new.self = search rules in
    c.loop-touch.invariant
    (subst (All (IsOutFor c.args.fact.now (option_map (λ s. s.now) c.args.relation))) (sym steps)
    (All-cons (IsOutFor c.args.fact.now (option_map (λ s. s.now) c.args.relation))
    c.in-Some.touch c.next.new.self out rest))

pub returns-clause-out : goal.returns-clause-out
returns-clause-out g c _ =
    let none : c.loop-touch.touch-iterator ≡ [] = search rules in
    c.loop-touch.invariant
    (subst (All (IsOutFor c.args.fact.now (option_map (λ s. s.now) c.args.relation))) (sym none) (λ k d less. absurd (omega (arith, less))))
