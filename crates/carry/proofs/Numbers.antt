-- Numbers that were read from their digits, and words that were stripped.
use Rattle.std.proofs.Common.{◌≡◌, ℕ, ◌+◌, List, ◌++◌, length, drop, Option, Some, None, Result, Ok, Err, refl, sym, ap, subst, ◌∙◌, arith, inl, inr}
use Rattle.std.specs.Prelude.{nat_eq, option_map, MatchOption}
use Rattle.std.specs.Str.Pattern.{FindsTextPrefix}
use denote.Ref.{Bor}
use Rattle.std.specs.Fmt.{decimal}
use Rattle.std.specs.List.{starts_with}
use Rattle.std.specs.Str.Parse.{ParsesUnsigned}
use Rattle.std.proofs.lemmas.Bool.{cases_Bool}
use Rattle.std.proofs.lemmas.Fmt.{parse-decimal}
use Rattle.tuple_text.specs.Forms.{plain_number}
use Rattle.tuple_text.proofs.Numbers.{plain_takes, plain_again}
use Rattle.carry.specs.Fields.{word_at}
use Rattle.carry.proofs.FieldLaws.{begins, word_again}

none_from : (o : Option ℕ) → ((n : ℕ) → o ≡ Some n → ⊥) → None ≡ o
none_from None h = refl
none_from (Some n) h = absurd (h n refl)

-- the digits of a number are parsed as it
parsed : {E : Type 0} (digits : List ℕ) (r : Result ℕ E) (n : ℕ) → ParsesUnsigned 64 10 digits r → plain_number digits ≡ Some n → (r ≡ Ok n) × (digits ≡ decimal n)
parsed {E} digits r n h e =
    let taken = plain_takes digits n e in
    (parse-decimal {E = E} 64 n digits r taken.1 taken.1 taken.0 h, taken.0)

pub number_missing : {E : Type 0} (digits : List ℕ) (r : Result ℕ E) (f : E) → r ≡ Err f → ParsesUnsigned 64 10 digits r → None ≡ plain_number digits
number_missing {E} digits r f fails h = none_from (plain_number digits) (λ n e. apart n (sym fails ∙ (parsed {E = E} digits r n h e).0))
  where
    fault : E → Result ℕ E
    fault e = Err e

    apart : (n : ℕ) → fault f ≡ Ok n → ⊥
    apart n x = cc x

pub number_other : {E : Type 0} (digits : List ℕ) (r : Result ℕ E) (m : ℕ) → r ≡ Ok m → (decimal m ≡ digits → ⊥) → ParsesUnsigned 64 10 digits r → None ≡ plain_number digits
number_other {E} digits r m is other h = none_from (plain_number digits) (λ n e.
    let p = parsed {E = E} digits r n h e in
    other (ap decimal (same n (sym is ∙ p.0)) ∙ sym p.1))
  where
    value : ℕ → Result ℕ E
    value n = Ok n

    same : (n : ℕ) → value m ≡ value n → m ≡ n
    same n x = cc x

pub number_there : {E : Type 0} (digits : List ℕ) (r : Result ℕ E) (m : ℕ) → r ≡ Ok m → decimal m ≡ digits → ParsesUnsigned 64 10 digits r → Some m ≡ plain_number digits
number_there {E} digits r m is e h =
    let at : ParsesUnsigned {E = E} 64 10 digits (Ok m) = subst (λ (x : Result ℕ E). ParsesUnsigned {E = E} 64 10 digits x) is h in
    sym (ap plain_number (sym e) ∙ plain_again m (omega (arith, at.0.1, at.1)))

pub word_stripped : (word text rest : List ℕ) (k : ℕ) → text ≡ word ++ drop k text → rest ≡ drop k text → Some rest ≡ word_at word text
word_stripped word text rest k e same = sym (ap (word_at word) (e ∙ ap (λ (r : List ℕ). word ++ r) (sym same)) ∙ word_again word rest)

pub word_missing : (word text : List ℕ) → ((rest : List ℕ) → text ≡ word ++ rest → ⊥) → None ≡ word_at word text
word_missing word text lacks =
    elim (cases_Bool (starts_with nat_eq text word)) [
      | inl there ↦ absurd (lacks (drop (length word) text) (begins text word there))
      | inr other ↦ rw other refl
    ]

-- what `strip_prefix` answers
pub stripped : (word text : List ℕ) (r : Option (Bor (List ℕ)))
    → MatchOption r (FindsTextPrefix word text None) (λ x. (k : ℕ) × FindsTextPrefix word text (Some k) × (x.now ≡ drop k text) × (length x.now + k ≡ length text))
    → option_map (λ s. s.now) r ≡ word_at word text
stripped word text None h = word_missing word text h
stripped word text (Some x) h = word_stripped word text x.now h.0 h.1.1 h.2
