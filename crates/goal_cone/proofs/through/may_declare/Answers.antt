use Rattle.std.proofs.Common.{◌≡◌, ◌∙◌, None, Some, false, true, sym}
use Rattle.wide_rules.proofs.DeclaringLemmas.{none_apart}
use Rattle.goal_cone.proofs.through.may_declare.Goals as goal

pub returns-in-Some : goal.returns-in-Some
returns-in-Some c absent names at are small =
    none_apart c.args.rules.now names are.0 c.args.namespace.now at small are.1
    (λ n place there.
    let both : Some n ≡ Some c.in-Some.number = sym place ∙ sym c.namespace_number.ensures ∙ c.in-Some.is in
    let is : n ≡ c.in-Some.number = cc in
    let has : c.has.result ≡ true = c.has.ensures.1 (rw is at (are.2 n there)) in
    let bad : true ≡ false = sym has ∙ absent in cc)

pub returns-in-None : goal.returns-in-None
returns-in-None c absent names at are small =
    none_apart c.args.rules.now names are.0 c.args.namespace.now at small are.1
    (λ n place there. let bad : None ≡ Some n = sym c.in-None.is ∙ c.namespace_number.ensures ∙ place in cc)
