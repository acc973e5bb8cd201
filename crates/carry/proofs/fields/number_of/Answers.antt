use Rattle.std.proofs.Common.{rules}
use Rattle.carry.proofs.Numbers.{number_missing, number_other, number_there}
use Rattle.carry.proofs.fields.number_of.Goals as goal

pub returns-then-eq : goal.returns-then-eq
returns-then-eq c = number_there c.args.digits.now c.parse.result c.in-Ok.number c.in-Ok.is (search rules) c.parse.ensures.value.0

pub returns-else-eq : goal.returns-else-eq
returns-else-eq c = number_other c.args.digits.now c.parse.result c.in-Ok.number c.in-Ok.is (search rules) c.parse.ensures.value.0

pub returns-in-Err : goal.returns-in-Err
returns-in-Err c = number_missing c.args.digits.now c.parse.result c.in-Err.field-0 c.in-Err.is c.parse.ensures.value.0
