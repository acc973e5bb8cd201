use Rattle.serde_json.specs.View.{view}
use Rattle.trace_lines.proofs.Declared.{after_add}
use Rattle.trace_lines.proofs.declaring.add.Goals as goal

pub check-requires : goal.check-requires
check-requires c = after_add c.args.rules.now c.add.new.self (view c.args.value.now) c.in-Ok.ensures.exact c.requires
