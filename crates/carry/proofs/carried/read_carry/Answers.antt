use Rattle.carry.proofs.Opened.{is_found, is_read}
use Rattle.carry.proofs.carried.read_carry.Goals as goal

pub returns-clause-found : goal.returns-clause-found
returns-clause-found c = is_found c.args.bytes.now c.carry_at.result c.carry_at.ensures

pub returns-clause-only : goal.returns-clause-only
returns-clause-only c = is_read c.args.bytes.now c.carry_at.result c.carry_at.ensures
