use Rattle.std.proofs.Common.{◌∙◌, ap}
use Rattle.carry.specs.Opening.{carry_at}
use Rattle.carry.specs.Values.{carry_value}
use Rattle.carry.proofs.Opened.{carry_again}
use Rattle.follow.proofs.handing.handed_text.Goals as goal

pub returns-in_ok-write_carry-in-Some-carry : goal.returns-in_ok-write_carry-in-Some-carry
returns-in_ok-write_carry-in-Some-carry c =
    let of = rw c.in-Some-carry.is at c.in_ok-carry.ensures.carry in
    let names = rw c.in-Some-carry.is at c.in_ok-carry.ensures.names in
    record {
      carry = carry_value c.in-Some-carry.carry;
      read = ap carry_at c.in_ok-write_carry-in-Some-carry.ensures.text
          ∙ carry_again (carry_value c.in-Some-carry.carry) c.in_ok-write_carry-in-Some-carry.ensures.form;
      of = of;
      counted = names.0;
    }
