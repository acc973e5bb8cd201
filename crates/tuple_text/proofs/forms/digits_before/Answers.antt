use Rattle.std.proofs.Common.{◌≡◌, ◌<◌, ◌^◌, arith, sym, ◌∙◌, take, true, get_or}
use Rattle.std.proofs.lemmas.Bool.{and_from}
use Rattle.std.proofs.lemmas.List.Folds.{list_all_more}
use Rattle.std.specs.Char.{is_ascii_digit}
use Rattle.std.specs.List.{list_all}
use Rattle.tuple_text.proofs.Numbers.{first_digits_small, next_digit}
use Rattle.tuple_text.proofs.forms.digits_before.Goals.{After-is_ascii_digit}
use Rattle.tuple_text.proofs.forms.digits_before.Goals as goal

-- so few digits write a small number
small : (c : After-is_ascii_digit) → c.loop-place.number < 10 ^ 18
small c =
    let few = c.min-most.ensures in
    let lt = c.loop-place-test.true in
    let short = first_digits_small c.args.bytes.now c.loop-place.place
    (omega (arith, few, lt)) c.loop-place.invariant.digits in
    let is = c.loop-place.invariant.value in
    omega (arith, short, is)

pub overflow_mul-number : goal.overflow_mul-number
overflow_mul-number c = let low = small (goal.at.overflow_mul-number c).After-is_ascii_digit in omega (arith, low)

pub overflow_add-number : goal.overflow_add-number
overflow_add-number c =
    let low = small (goal.at.overflow_add-number c).After-is_ascii_digit in
    let most = c.min-most.ensures in
    let lt = c.loop-place-test.true in
    let next = next_digit c.args.bytes.now c.loop-place.place (omega (arith, lt, most)) (sym c.is_ascii_digit.ensures.value ∙ c.if-not-is_ascii_digit.false) in
    let digit = c.from.ensures in
    let high = next.1 in
    omega (arith, low, digit, high)

pub loop-place-preserved : goal.loop-place-preserved
loop-place-preserved c =
    let most = c.min-most.ensures in
    let lt = c.loop-place-test.true in
    let one : is_ascii_digit (get_or c.args.bytes.now c.loop-place.place 0) ≡ true = sym c.is_ascii_digit.ensures.value ∙ c.if-not-is_ascii_digit.false in
    let next = next_digit c.args.bytes.now c.loop-place.place (omega (arith, lt, most)) one in
    let is = c.loop-place.invariant.value in
    let digit = c.from.ensures in
    let value = next.0 in
    record {
      digits =
          list_all_more is_ascii_digit c.args.bytes.now c.loop-place.place 0 (omega (arith, lt, most))
          ∙ and_from (list_all is_ascii_digit (take c.loop-place.place c.args.bytes.now)) (is_ascii_digit (get_or c.args.bytes.now c.loop-place.place 0)) c.loop-place.invariant.digits one;
      value = omega (arith, is, digit, value);
    }
