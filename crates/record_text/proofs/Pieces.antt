-- The pieces of a record's text that stand for themselves.
use Rattle.std.proofs.Common.{◌≡◌, ℕ, ◌+◌, ◌<◌, ◌^◌, Bool, true, List, [], ◌∷◌, ◌++◌, length, decimal, refl, ap, arith}
use Rattle.std.specs.Char.{is_ascii_digit}
use Rattle.std.specs.List.{list_all}
use Rattle.std.proofs.lemmas.Bool.Decides.{nat_tests}
use Rattle.std.proofs.lemmas.Fmt.{digits_decimal}
use Rattle.std.proofs.lemmas.Grind.{flat_map-append}
use Rattle.std.proofs.lemmas.List.Sums.{AllPass-from_list_all}
use Rattle.json.specs.Print.{escape, escape_byte}
use Rattle.json.proofs.Printed.Plain.{escape_on_plain}
use Rattle.serde_json.specs.Written.{compact_text}
use Rattle.tuple_text.specs.Forms.{is_name, is_name_byte}
use Rattle.tuple_text.specs.Grammar.{IsFact, fact_text, userset_text}
use Rattle.tuple_text.specs.Quoted.{is_plain_byte}
use Rattle.tuple_text.specs.Tuples.{FactValue}
use Rattle.tuple_text.proofs.Numbers.{own}
use Rattle.tuple_text.proofs.Pieces.{name_lacks}
use Rattle.evidence_check.specs.RecordData.{fact_data}
use Rattle.record_text.proofs.Lengths.{fact_length}

-- where each byte passes a test that only plain ones pass
stands : (p : ℕ → Bool) → ((b : ℕ) → p b ≡ true → is_plain_byte b ≡ true) → (xs : List ℕ) → list_all p xs ≡ true → escape xs ≡ xs
stands p plain xs all =
    escape_on_plain true xs (λ k from to. let one = plain _ (AllPass-from_list_all p xs all k 0 to) in grind (arith, nat_tests, one))

name_stands : (xs : List ℕ) → is_name xs ≡ true → escape xs ≡ xs
name_stands xs e = stands is_name_byte (λ b h. grind (arith, nat_tests)) xs (name_lacks xs e)

id_stands : (xs : List ℕ) → list_all is_plain_byte xs ≡ true → escape xs ≡ xs
id_stands xs e = stands is_plain_byte (λ b h. h) xs e

decimal_stands : (n : ℕ) → n < 2 ^ 64 → escape (decimal n) ≡ decimal n
decimal_stands n fits = stands is_ascii_digit (λ b h. grind (arith, nat_tests)) (decimal n) (digits_decimal own n fits)

pub plain_length : (xs : List ℕ) → list_all is_plain_byte xs ≡ true → length (escape xs) ≡ length xs
plain_length xs e = ap length (id_stands xs e)

-- the object id alone may have escapes
pub plain_fact_length : (f : FactValue) → IsFact f → length (compact_text (fact_data f))
    ≡ 5 + length f.set.namespace + length (escape f.set.id) + length f.set.relation + length (decimal f.user)
plain_fact_length f h =
    let namespace = ap length (name_stands f.set.namespace h.head.set.namespace) in
    let relation = ap length (name_stands f.set.relation h.head.relation) in
    let user = ap length (decimal_stands f.user h.user) in
    omega (arith, fact_length f, namespace, relation, user)

-- around a byte that stands for itself
around : (xs : List ℕ) (y : ℕ) (ys : List ℕ) → escape_byte y ≡ y ∷ [] → escape xs ≡ xs → escape ys ≡ ys → escape (xs ++ y ∷ ys) ≡ xs ++ y ∷ ys
around xs y ys one front rest = rw (flat_map-append escape_byte xs (y ∷ ys), one, front, rest) refl

pub fact_stands : (f : FactValue) → IsFact f → list_all is_plain_byte f.set.id ≡ true → escape (fact_text f) ≡ fact_text f
unfolding escape_byte
fact_stands f h id =
    let relation = name_stands f.set.relation h.head.relation in
    let namespace = name_stands f.set.namespace h.head.set.namespace in
    let set = around f.set.namespace 58 (f.set.id ++ 35 ∷ f.set.relation) refl namespace (around f.set.id 35 f.set.relation refl (id_stands f.set.id id) relation) in
    around (userset_text f.set) 64 (decimal f.user) refl set (decimal_stands f.user h.user)
