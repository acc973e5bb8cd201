-- Texts that stand in JSON as they are, put together from their parts.
use Rattle.std.proofs.Common.{◌≡◌, ℕ, ◌+◌, ◌<◌, ◌^◌, true, List, ◌∷◌, ◌++◌, length, take, drop, get_or, Ok, ap, ◌∙◌, arith}
use Rattle.std.specs.Char.{is_ascii_digit}
use Rattle.std.specs.Fmt.{decimal}
use Rattle.std.specs.List.{list_all, prefix_len}
use Rattle.std.proofs.lemmas.Bool.Decides.{nat_tests}
use Rattle.std.proofs.lemmas.Fmt.{digits_decimal}
use Rattle.tuple_text.specs.declared.fault.TupleFault.{TupleFault}
use Rattle.tuple_text.specs.Forms.{is_id_byte, is_name, is_name_byte}
use Rattle.tuple_text.specs.Quoted.{IsSplit, is_plain_byte, is_plain_id_byte}
use Rattle.tuple_text.specs.Reading.{part_at}
use Rattle.tuple_text.proofs.Fronts.{front_passes}
use Rattle.tuple_text.proofs.Numbers.{own}
use Rattle.tuple_text.proofs.Pieces.{name_lacks, part_takes, split_at, weaker}

pub id_bytes_in : (bs : List ℕ) → list_all is_plain_id_byte bs ≡ true → list_all is_id_byte bs ≡ true
id_bytes_in bs e = weaker is_plain_id_byte is_id_byte (λ b h. grind (arith, nat_tests)) bs e

id_plain : (bs : List ℕ) → list_all is_plain_id_byte bs ≡ true → list_all is_plain_byte bs ≡ true
id_plain bs e = weaker is_plain_id_byte is_plain_byte (λ b h. grind (arith, nat_tests)) bs e

name_plain : (bs : List ℕ) → is_name bs ≡ true → list_all is_plain_byte bs ≡ true
name_plain bs e = weaker is_name_byte is_plain_byte (λ b h. grind (arith, nat_tests)) bs (name_lacks bs e)

-- a name before a byte
pub name_split : (d : ℕ) (f : TupleFault) (text : List ℕ) (x : List ℕ × List ℕ) → part_at is_name d f text ≡ Ok x
    → IsSplit d text x.0 x.1 × (is_name x.0 ≡ true)
name_split d f text x e =
    let t = part_takes is_name d f text x e in
    (record { parts = t.parts; plain = name_plain x.0 t.passes }, t.passes)

-- and an id before its `#`
pub id_split : (text bytes : List ℕ) (n : ℕ) → bytes ≡ text → n ≡ prefix_len is_plain_id_byte bytes → n < length bytes → get_or bytes n 0 ≡ 35
    → IsSplit 35 text (take n text) (drop (n + 1) text) × (list_all is_id_byte (take n bytes) ≡ true)
id_split text bytes n same size lt at =
    let all : list_all is_plain_id_byte (take n bytes) ≡ true = rw size (front_passes is_plain_id_byte bytes) in
    rw (← same) (record { parts = split_at bytes n lt ∙ ap (λ b. take n bytes ++ b ∷ drop (n + 1) bytes) at; plain = id_plain (take n bytes) all }, id_bytes_in (take n bytes) all)

-- a number and a quote
pub number_split : (n : ℕ) (text middle rest : List ℕ) → n < 2 ^ 64 → text ≡ decimal n ++ middle → middle ≡ 34 ∷ rest → IsSplit 34 text (decimal n) rest
number_split n text middle rest small one two = record {
  parts = one ∙ ap (λ t. decimal n ++ t) two;
  plain = weaker is_ascii_digit is_plain_byte (λ b h. grind (arith, nat_tests)) (decimal n) (digits_decimal own n small);
}
