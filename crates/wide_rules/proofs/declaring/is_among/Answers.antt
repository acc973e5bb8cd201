use Rattle.std.proofs.Common.{◌≡◌, None, Some, true, false, sym, ◌∙◌}
use Rattle.wide_rules.proofs.DeclaringLemmas.{none_apart, number_found}
use Rattle.wide_rules.proofs.declaring.is_among.Goals as goal

pub returns-in-Some : goal.returns-in-Some
returns-in-Some c absent names at are small =
    none_apart c.args.rules.now names c.args.numbers.now c.args.namespace.now at small are
    (λ n place there.
    let both : Some n ≡ Some c.in-Some.number = sym place ∙ sym c.namespace_number.ensures ∙ c.in-Some.is in
    let is : n ≡ c.in-Some.number = cc in
    let found : c.contains.result ≡ true = c.contains.ensures.value ∙ number_found c.args.numbers.now c.in-Some.number (rw is at there) in
    let bad : true ≡ false = sym found ∙ absent in cc)

pub returns-in-None : goal.returns-in-None
returns-in-None c absent names at are small =
    none_apart c.args.rules.now names c.args.numbers.now c.args.namespace.now at small are
    (λ n place there. let bad : None ≡ Some n = sym c.in-None.is ∙ c.namespace_number.ensures ∙ place in cc)
