use Rattle.std.proofs.Common.{subst, arith}
use Rattle.std.proofs.lemmas.Option.{get_or_from_slice_get}
use Rattle.namespaces.specs.Numbers.{Has}
use Rattle.judgement.proofs.PassLemmas.{next_element, place_of_element}
use Rattle.wide_rules.proofs.declaring.numbers_of.Goals as goal

pub loop-number-preserved : goal.loop-number-preserved
loop-number-preserved c =
    let numbers = c.args.numbers.now in
    let i = c.loop-number.number-index in
    next_element (Has c.with-all.result) numbers i
    (λ k n less at. c.with-all.ensures.kept n (c.loop-number.invariant k n less at))
    (λ n at. subst (Has c.with-all.result) (get_or_from_slice_get numbers i n _ at) c.with-all.ensures.has)

pub returns : goal.returns
returns c n there =
    let p = place_of_element c.args.numbers.now n there in
    c.loop-number.invariant p.0 n (omega (arith, p.1, c.loop-number-test.false)) p.2
