use Rattle.std.proofs.Common.{refl, arith}
use Rattle.tuple_text.specs.declared.forms.TheConstants.{CLASS}
use Rattle.tuple_text.specs.Forms.{is_id_byte, is_name_byte}
use Rattle.tuple_text.specs.Quoted.{is_plain_id_byte}
use Rattle.tuple_text.proofs.Tables.{agree_below, from_table}
use Rattle.tuple_text.proofs.forms.may_stand.Goals as goal
use Rattle.tuple_text.proofs.forms.may_stand.Goals.{in-Name, in-Id, in-PlainId}

pub returns : goal.returns
unfolding agree_below
returns c = elim c.match-part.branch [
  | in-Name w ↦ rw (w.flag-is, w.in-Name.is) (from_table CLASS 1 is_name_byte c.args.b (omega arith) refl)
  | in-Id w ↦ rw (w.flag-is, w.in-Id.is) (from_table CLASS 2 is_id_byte c.args.b (omega arith) refl)
  | in-PlainId w ↦ rw (w.flag-is, w.in-PlainId.is) (from_table CLASS 4 is_plain_id_byte c.args.b (omega arith) refl)
]
