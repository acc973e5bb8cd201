use Rattle.std.proofs.Common.{◌++◌, take, drop, refl, ap, sym, ◌∙◌, arith}
use Rattle.std.specs.Fmt.{decimal}
use Rattle.std.proofs.lemmas.List.{length-take-le, get_or-take, take-append-drop}
use Rattle.tuple_text.proofs.Numbers.{few_written}
use Rattle.tuple_text.proofs.forms.number_before.Goals as goal

pub returns-clause-text : goal.returns-clause-text
returns-clause-text c =
    let number = c.digits_before-number in
    let len = number.result.1 in
    let bytes = c.as_bytes-bytes.result.now in
    let few = c.if-not-are_few.ensures refl in
    let within = number.ensures.within in
    let size = length-take-le len bytes within.0 in
    let is = few_written (take len bytes) number.ensures.digits (omega (arith, size, few)) (omega (arith, size, within))
    (λ zero. size ∙ few.2 (sym (get_or-take len bytes 0 0 few.0) ∙ zero)) ∙ ap decimal (sym number.ensures.value) in
    sym (take-append-drop len c.args.text.now)
    ∙ ap (λ t. take len t ++ drop len c.args.text.now) (sym c.as_bytes-bytes.ensures.value)
    ∙ ap (λ d. d ++ drop len c.args.text.now) is
    ∙ ap (λ r. decimal number.result.0 ++ r) (sym c.range_from.ensures.value)
