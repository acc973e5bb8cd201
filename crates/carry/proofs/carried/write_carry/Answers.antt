use Rattle.std.specs.Prelude.{IsUtf8}
use Rattle.std.proofs.Common.{subst}
use Rattle.carry.specs.Values.{carry_value}
use Rattle.carry.proofs.Opened.{is_carry}
use Rattle.carry.proofs.carried.write_carry.Goals as goal

pub returns-clause-form : goal.returns-clause-form
returns-clause-form c = is_carry (carry_value c.args.carry.now) c.in_ok-text.ensures.form (subst IsUtf8 c.in_ok-text.ensures.text c.in_ok-push_seal.ensures.utf8)
