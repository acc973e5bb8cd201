-- Which bytes may stand in a part of a text.
use Rattle.std.specs.Prelude.{ℕ, Bool}
use Rattle.tuple_text.specs.Forms.{is_id_byte, is_name_byte}
use Rattle.tuple_text.specs.Quoted.{is_plain_id_byte}
use Rattle.tuple_text.specs.declared.forms.Part.{Part}
use Rattle.tuple_text.specs.declared.forms.Part.TheVariants.{Name, Id, PlainId}

abbrev pub may_stand : Part → ℕ → Bool
may_stand Name b = is_name_byte b
may_stand Id b = is_id_byte b
may_stand PlainId b = is_plain_id_byte b
