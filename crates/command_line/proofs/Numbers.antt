-- The numbers that stand where none is written.
use Rattle.std.proofs.Common.{refl, sym, ap, ◌∙◌, ◌≡◌, ◌<◌, ◌^◌, ℕ, List, Option, Some, None, Result, Ok, Err, codes, rules, arith, Bool, true, false, if◌then◌else◌}
use Rattle.std.specs.Str.Parse.{IsNumeral, ParsesUnsigned, digits_value, without_leading_plus}
use Rattle.std.specs.Prelude.{IfSome}
use Rattle.clap.specs.Words.{ReadsOne, Row, Text, one_of}
use Rattle.command_line.specs.Asked.{GivesNumber, IsNumberIn, IsOptionIn}

pub read_as_unsigned : (E : Type 0) (G : List ℕ → Result ℕ E → Type 0) (k n : ℕ) (t : List ℕ) (r : Option ℕ) → ReadsOne G t r
    → ((x : Result ℕ E) → G t x → ParsesUnsigned k 10 t x) → IsNumeral 10 (without_leading_plus t) → digits_value 10 (without_leading_plus t) ≡ n → n < 2 ^ k → r ≡ Some n
read_as_unsigned E G k n t (Some v) h only numeral is small = ap (λ (x : ℕ). Some x) ((only (Ok v) h).1 ∙ is)
read_as_unsigned E G k n t None h only numeral is small = absurd (only (Err h.0) h.1 (numeral, rw is small))

pub one_is_numeral : IsNumeral 10 (codes "1")
one_is_numeral = (omega arith, (omega arith, search rules))

pub slice_is_numeral : IsNumeral 10 (codes "64")
slice_is_numeral = (omega arith, (omega arith, (omega arith, search rules)))

-- a number is that of the text from which it was read
pub number_given : (E : Type 0) (G : List ℕ → Result ℕ E → Type 0) (rows : List Row) (id : Text) (o : Option ℕ) → (one_of id rows ≡ None → o ≡ None)
    → ((t : Text) → one_of id rows ≡ Some t → ReadsOne G t o) → ((t : Text) (x : Result ℕ E) → G t x → ParsesUnsigned 64 10 t x) → IfSome o (IsNumberIn rows id)
number_given E G rows id None none some only = tt
number_given E G rows id (Some n) none some only = by_text (one_of id rows) refl
  where
    by_text : (o : Option Text) → one_of id rows ≡ o → IsNumberIn rows id n
    by_text None e = absurd (let bad : Some n ≡ None = none e in cc)
    by_text (Some t) e =
        let read = only t (Ok n) (some t e) in
        record { text = t; here = e; numeral = read.0.0; value = sym read.1 }

pub flag_given : (found : Option Text) (b : Bool) → (found ≡ Some (codes "true") → b ≡ true) → (found ≡ Some (codes "false") → b ≡ false)
    → ¬ (found ≡ Some (if b then codes "false" else codes "true"))
flag_given found true set unset e = absurd (let bad : true ≡ false = unset e in cc)
flag_given found false set unset e = absurd (let bad : false ≡ true = set e in cc)

-- where no number is read, none is given
pub option_in : (rows : List Row) (id : Text) (o : Option ℕ) → IfSome o (IsNumberIn rows id)
    → ((n : ℕ) → GivesNumber rows id n → o ≡ Some n) → IsOptionIn rows id o
option_in rows id None given whole = λ n gives. absurd (let bad : None ≡ Some n = whole n gives in cc)
option_in rows id (Some n) given whole = given
