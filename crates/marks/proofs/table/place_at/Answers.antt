use Rattle.std.proofs.Common.{rules, sym}
use Rattle.std.specs.Prelude.{slice_get}
use Rattle.marks.proofs.TableLemmas.{free_has_none}
use Rattle.marks.proofs.table.place_at.Goals as goal

pub returns-then-eq : goal.returns-then-eq
returns-then-eq c = sym (free_has_none (slice_get c.args.slots.now c.args.at) c.requires (search rules))
