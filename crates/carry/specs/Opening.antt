-- The carry that bytes are: first the line that names the format, then the seal, then the fields.
use Rattle.std.specs.Prelude.{ℕ, ◌+◌, ◌-◌, ◌++◌, ◌==◌, ◌&&◌, Bool, List, length, take, drop, slice_index, Result, Ok, Err, codes, nat_eq, nat_lt, bytes_eq, if◌then◌else◌}
use Rattle.std.specs.List.{starts_with}
use Rattle.std.specs.Str.{is_utf8}
use Rattle.std.specs.Str.Lossy.{utf8_valid_len}
use Rattle.refusals.specs.Refusals.{◌>>=◌}
use Rattle.carry.specs.declared.fault.CarryFault.{CarryFault}
use Rattle.carry.specs.declared.fault.CarryFault.TheVariants.{Foreign, Cut, Changed, Malformed}
use Rattle.carry.specs.Fields.{word_at, word_or}
use Rattle.carry.specs.Reading.{whole_body}
use Rattle.carry.specs.Refused.{placed}
use Rattle.carry.specs.Texts.{first_line, seal}
use Rattle.carry.specs.Values.{CarryValue}

-- a line that may be a seal, of 72 bytes
abbrev pub may_be_seal : List ℕ → Bool
may_be_seal line = starts_with nat_eq line (codes "sha256 ") && (slice_index line 71 == 10)

-- the body before its seal
unfoldable pub unsealed_at : List ℕ → List ℕ → Result (List ℕ) CarryFault
unsealed_at body line =
    if may_be_seal line then (if bytes_eq line (seal (first_line ++ body)) then Ok body else Err Changed) else Err Cut

unfoldable pub behind_first : List ℕ → Result (List ℕ) CarryFault
behind_first rest =
    if nat_lt (length rest) 72 then Err Cut
    else unsealed_at (take (length rest - 72) rest) (drop (length rest - 72) rest)

-- What stands between the first line and the seal. Bytes that end within the first line are cut, and bytes that begin
-- otherwise are foreign.
unfoldable pub opened : List ℕ → Result (List ℕ) CarryFault
opened bytes =
    word_or (word_at first_line bytes) behind_first
    (if starts_with nat_eq first_line bytes then Err Cut else Err Foreign)

-- the same, as a text
unfoldable pub text_in : List ℕ → Result (List ℕ) CarryFault
text_in bytes = opened bytes >>= λ body. if is_utf8 body then Ok body else Err (Malformed (18 + utf8_valid_len body))

unfoldable pub carry_at : List ℕ → Result CarryValue CarryFault
carry_at bytes = text_in bytes >>= λ text. placed (length text) (whole_body text)
