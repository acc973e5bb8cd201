-- Reading a zookie: by its version, up to the least-numbered fault.
use Rattle.std.specs.Prelude.{◌≡◌, ℕ, ◌+◌, ◌==◌, ◌&&◌, ◌||◌, not, Bool, List, [], ◌∷◌, length, drop, Option, Some, None, Result, Ok, Err, codes, nat_eq, nat_le, position, if◌then◌else◌}
use Rattle.std.specs.List.{starts_with}
use Rattle.std.specs.Int.{w64, from_be_bytes}
use Rattle.std.specs.Result.{result_unwrap_or}
use Rattle.hex.specs.Hex.{decode_of}
use Rattle.zookie.specs.Tokens.{Token, sixteen_digits}
use Rattle.zookie.specs.declared.fault.ZookieFault.{ZookieFault}
use Rattle.zookie.specs.declared.fault.ZookieFault.TheVariants.{Length, Prefix, Digit, KindByte}
use Rattle.zookie.specs.declared.token.TokenKind.{TokenKind}
use Rattle.zookie.specs.declared.token.TokenKind.TheVariants.{AclWrite, ContentVersion, ReadSnapshot}

-- what a text spells: a kind, where it has one, and the digits
pub record Spelling : Type 0 where
  pub kind : Option TokenKind
  pub digits : List ℕ

abbrev pub spelled : Token → Spelling
spelled t = record { kind = t.kind; digits = sixteen_digits t.at }

abbrev pub is_digit : ℕ → Bool
is_digit b = (nat_le 48 b && nat_le b 57) || (nat_le 97 b && nat_le b 102)

-- the kind that a byte stands for
abbrev pub kind_of : ℕ → Option TokenKind
kind_of b = if b == 119 then Some AclWrite else (if b == 99 then Some ContentVersion else (if b == 114 then Some ReadSnapshot else None))

-- the first byte that is no digit, in a text whose digits begin at `from`
abbrev pub digit_fault : ℕ → Spelling → Option ℕ → Result Spelling ZookieFault
digit_fault from s None = Ok s
digit_fault from s (Some place) = Err (Digit (from + place))

abbrev pub with_digits : ℕ → Option TokenKind → List ℕ → Result Spelling ZookieFault
with_digits from kind digits = digit_fault from (record { kind = kind; digits = digits }) (position (λ b. not (is_digit b)) digits)

-- behind `z1-`: sixteen digits
abbrev pub first_version : List ℕ → Result Spelling ZookieFault
first_version rest = if length rest == 16 then with_digits 3 None rest else Err Length

-- a fault of a digit comes before one of the kind
abbrev pub with_kind : Option TokenKind → Result Spelling ZookieFault → Result Spelling ZookieFault
with_kind kind (Err e) = Err e
with_kind None (Ok s) = Err KindByte
with_kind (Some kind) (Ok s) = Ok (record s { kind = Some kind })

-- behind `z2-`: a kind and sixteen digits
abbrev pub second_version : List ℕ → Result Spelling ZookieFault
second_version [] = Err Length
second_version (b ∷ rest) = if length rest == 16 then with_kind (kind_of b) (with_digits 4 None rest) else Err Length

unfoldable pub read_token : List ℕ → Result Spelling ZookieFault
read_token text =
    if starts_with nat_eq text (codes "z2-") then second_version (drop 3 text)
    else (if starts_with nat_eq text (codes "z1-") then first_version (drop 3 text)
    else (if length text == 19 then Err Prefix else Err Length))

-- the number that hexadecimal digits write
abbrev pub digits_value : List ℕ → ℕ
digits_value digits = from_be_bytes w64 (result_unwrap_or (decode_of digits) [])

abbrev pub valued : Result Spelling ZookieFault → Result Token ZookieFault
valued (Ok s) = Ok (record { kind = s.kind; at = digits_value s.digits })
valued (Err e) = Err e

-- the token that a text spells
abbrev pub token_at : List ℕ → Result Token ZookieFault
token_at text = valued (read_token text)

-- what a function answered is what the text spells, or its fault
abbrev pub Spells : Result Token ZookieFault → Result Spelling ZookieFault → Type 0
Spells (Ok t) read = read ≡ Ok (spelled t)
Spells (Err e) read = read ≡ Err e
