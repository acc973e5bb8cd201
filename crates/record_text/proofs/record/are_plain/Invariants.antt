use Rattle.std.proofs.Common.{◌≡◌, drop}
use Rattle.std.specs.List.{list_all}
use Rattle.tuple_text.specs.Quoted.{is_plain_byte}
use Rattle.record_text.proofs.record.are_plain.Given as goal

-- what is left decides
abbrev pub invariant-loop-byte : goal.invariant-loop-byte
invariant-loop-byte l = list_all is_plain_byte (drop l.byte-index l.text) ≡ list_all is_plain_byte l.text
