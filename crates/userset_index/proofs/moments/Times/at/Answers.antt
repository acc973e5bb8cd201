use Rattle.std.proofs.Common.{◌≡◌, ◌∷◌, [], subst, sym, rules, arith}
use Rattle.std.specs.Prelude.{All}
use Rattle.std.proofs.lemmas.List.Elements.{All-cons}
use Rattle.userset_index.specs.Moments.{IsGiven}
use Rattle.userset_index.proofs.MomentLemmas.{covered_given}
use Rattle.userset_index.proofs.moments.Times.at.Goals as goal

pub loop-moment-preserved : goal.loop-moment-preserved
loop-moment-preserved c r more rest =
    let numbers = c.args.self.now.numbers.items in
    let steps : c.loop-moment.moment-iterator ≡ c.in-Some.moment ∷ c.next.new.self = search rules in
    c.loop-moment.invariant r (λ n has. more n (c.joined-all.ensures.kept n has))
    (subst (All (IsGiven numbers r)) (sym steps)
    (All-cons (IsGiven numbers r) c.in-Some.moment c.next.new.self (λ s n here has. more n (c.joined-all.ensures.given s n here has)) rest))

pub returns : goal.returns
returns c n covered =
    let numbers = c.args.self.now.numbers.items in
    let none : c.loop-moment.moment-iterator ≡ [] = search rules in
    covered_given c.args.self.now.moments numbers c.loop-moment.all c.args.mark n c.args.at
    (c.loop-moment.invariant c.loop-moment.all (λ k has. has) (subst (All (IsGiven numbers c.loop-moment.all)) (sym none) (λ k d less. absurd (omega (arith, less)))))
    covered
