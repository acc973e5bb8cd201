-- The forms of the parts of a tuple. A text is the list of its bytes.
use Rattle.std.specs.Prelude.{◌≡◌, ℕ, ◌^◌, ◌==◌, ◌&&◌, ◌||◌, not, Bool, true, false, List, [], ◌∷◌, length, slice_index, nat_lt, nat_le, if◌then◌else◌, Option, Some, None, codes, bytes_eq}
use Rattle.std.specs.Char.{is_ascii_lowercase, is_ascii_digit}
use Rattle.std.specs.List.{list_all}
use Rattle.std.specs.Str.Parse.{digits_value}
use Rattle.tuple_text.specs.Sets.{SetValue}

-- a letter, a digit or an underscore
abbrev pub is_name_byte : ℕ → Bool
is_name_byte b = is_ascii_lowercase b || is_ascii_digit b || (b == 95)

-- a namespace or a relation: 1 to 64 bytes, a letter first
abbrev pub is_name : List ℕ → Bool
is_name [] = false
is_name (b ∷ bs) = is_ascii_lowercase b && nat_lt (length bs) 64 && list_all is_name_byte bs

-- neither a space nor a control, and neither `#` nor `@`
abbrev pub is_id_byte : ℕ → Bool
is_id_byte b = nat_le 33 b && not (b == 127) && not (b == 35) && not (b == 64)

-- an object id: 1 to 128 bytes
abbrev pub is_object_id : List ℕ → Bool
is_object_id bs = not (length bs == 0) && nat_le (length bs) 128 && list_all is_id_byte bs

-- the relation of a userset that stands as a user: a name, or three dots
abbrev pub is_user_relation : List ℕ → Bool
is_user_relation bs = is_name bs || bytes_eq bs (codes "...")

-- decimal digits, with no zero before another
abbrev pub is_plain : List ℕ → Bool
is_plain bs = list_all is_ascii_digit bs && not (length bs == 0) && (nat_lt (length bs) 2 || not (slice_index bs 0 == 48))

-- with neither a plus nor a zero before other digits
abbrev pub begins_plainly : List ℕ → Bool
begins_plainly bs = not (slice_index bs 0 == 43) && (nat_lt (length bs) 2 || not (slice_index bs 0 == 48))

-- the user id that a text writes
unfoldable pub plain_number : List ℕ → Option ℕ
plain_number bs = if is_plain bs && nat_lt (digits_value 10 bs) (2 ^ 64) then Some (digits_value 10 bs) else None

-- a userset as it may stand as a user
pub record IsUserset (s : SetValue) : Type 0 where
  pub namespace : is_name s.namespace ≡ true
  pub id : is_object_id s.id ≡ true
  pub relation : is_user_relation s.relation ≡ true
