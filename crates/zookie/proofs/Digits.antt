-- Sixteen digits and the number that they write.
use Rattle.std.proofs.Common.{◌≡◌, ◌≢◌, ℕ, zero, suc, ◌+◌, ◌*◌, ◌/◌, ◌%◌, ◌<◌, ◌≤◌, ◌^◌, Bool, true, false, cond, not, ◌&&◌, ◌||◌, ltb, eqb, List, [], ◌∷◌, length, get_or, slice_index, Option, Some, None, unwrap_or, Result, Ok, Err, refl, sym, ap, ◌∙◌, arith, inl, inr}
use Rattle.std.specs.Prelude.{nat_le}
use Rattle.std.specs.List.{position, position_or_len, prefix_len, list_all}
use Rattle.std.specs.Int.{w64, byte_at, bytes_high_first, to_be_bytes, from_be_bytes}
use Rattle.std.proofs.lemmas.Bool.{ltb-true, lt-ltb, eqb-true, and_parts, and_from, cases_lt}
use Rattle.std.proofs.lemmas.List.Sums.{prefix_len-le-length}
use Rattle.std.proofs.lemmas.Nat.{be_bytes_8, from_be_bytes-to_be_bytes_8}
use Rattle.std.proofs.lemmas.Bool.Decides.{nat_tests}
use Rattle.hex.specs.declared.error.FromHexError.{FromHexError}
use Rattle.hex.proofs.HexLemmas.{length-encode_with, decode_of-encode_lower}
use Rattle.hex.specs.Hex.{IsBytes, decode_of, decode_pairs, decode_sized, digit_or_error, encode_with, encode_lower, hex_digit_value, lower_digits, pair_value, value_at, ◌>>=◌}
use Rattle.hex.proofs.Pairs.{cons_byte, decode_pairs-ok_pair}
use Rattle.zookie.specs.Tokens.{sixteen_digits}
use Rattle.std.specs.Result.{result_unwrap_or}
use Rattle.zookie.specs.Reading.{is_digit, digits_value}

-- ---- no place passes, so all fail

all_before : {X : Type 0} (p : X → Bool) (xs : List X) → prefix_len p xs ≡ length xs → list_all p xs ≡ true
all_before p [] e = refl
all_before p (x ∷ xs) e = step (all_before p xs) (p x) refl
  where
    step : (prefix_len p xs ≡ length xs → list_all p xs ≡ true) → (b : Bool) → p x ≡ b → list_all p (x ∷ xs) ≡ true
    step rest true passes = rw passes (rest (let full : 1 + prefix_len p xs ≡ suc (length xs) = rw passes at e in omega (arith, full)))
    step rest false fails = let none : 0 ≡ suc (length xs) = rw fails at e in absurd (omega (arith, none))

none_passes : {X : Type 0} (p : X → Bool) (xs : List X) → position p xs ≡ None → list_all (λ x. not (p x)) xs ≡ true
none_passes p xs e =
    elim (cases_lt (prefix_len (λ x. not (p x)) xs) (length xs)) [
      | inl lt ↦ absurd (some_is_none (rw (lt-ltb _ _ lt) at e))
      | inr ge ↦ all_before (λ x. not (p x)) xs (let le = prefix_len-le-length (λ x. not (p x)) xs in omega (arith, ge, le))
    ]
  where
    some_is_none : {n : ℕ} → Some n ≡ None → ⊥
    some_is_none h = cc h

-- ---- a digit and its value

-- the value of c, if it is a digit, is the place of c among the digits
abbrev reads : ℕ → Bool
reads c = not (is_digit c) || (ltb (unwrap_or (hex_digit_value c) 99) 16 && eqb (slice_index lower_digits (unwrap_or (hex_digit_value c) 99)) c)

abbrev all_read : ℕ → Bool
all_read zero = true
all_read (suc n) = reads n && all_read n

all_read-at : (n k : ℕ) → all_read n ≡ true → k < n → reads k ≡ true
all_read-at zero k h lt = absurd (omega arith)
all_read-at (suc n) k h lt =
    let parts = and_parts (reads n) (all_read n) h in
    elim (cases_lt k n) [
      | inl below ↦ all_read-at n k parts.1 below
      | inr top ↦ let e : k ≡ n = omega arith in rw e parts.0
    ]

digit_small : (c : ℕ) → is_digit c ≡ true → c < 103
digit_small c h = grind (arith)

record Reads (c : ℕ) : Type 0 where
  value : ℕ
  small : value < 16
  read : hex_digit_value c ≡ Some value
  place : slice_index lower_digits value ≡ c

reads_of : (c : ℕ) (o : Option ℕ) → hex_digit_value c ≡ o → (ltb (unwrap_or o 99) 16 && eqb (slice_index lower_digits (unwrap_or o 99)) c) ≡ true → Reads c
reads_of c (Some v) e h =
    let parts = and_parts (ltb v 16) (eqb (slice_index lower_digits v) c) h in
    record { value = v; small = ltb-true _ _ parts.0; read = e; place = eqb-true _ _ parts.1 }
reads_of c None e h = absurd cc

digit_reads : (c : ℕ) → is_digit c ≡ true → Reads c
digit_reads c h = reads_of c (hex_digit_value c) refl (read_where (is_digit c) h (all_read-at 103 c refl (digit_small c h)))
  where
    read_where : {t : Bool} (d : Bool) → d ≡ true → (not d || t) ≡ true → t ≡ true
    read_where true h r = r
    read_where false h r = absurd cc

-- ---- pairs of digits

record ReadsPairs (i : ℕ) (s : List ℕ) (n : ℕ) : Type 0 where
  bytes : List ℕ
  read : decode_pairs i s ≡ Ok bytes
  written : encode_lower bytes ≡ s
  count : length bytes ≡ n
  fit : IsBytes bytes

below_byte : (b : ℕ) (bs : List ℕ) → b < 256 → IsBytes bs → IsBytes (b ∷ bs)
below_byte b bs small rest zero = small
below_byte b bs small rest (suc i) = rest i

pairs_read : (n i : ℕ) (s : List ℕ) → length s ≡ 2 * n → list_all is_digit s ≡ true → ReadsPairs i s n
unfolding decode_pairs encode_with
pairs_read zero i [] e h = record { bytes = []; read = refl; written = refl; count = refl; fit = λ k. omega arith }
pairs_read zero i (a ∷ s) e h = absurd (omega arith)
pairs_read (suc n) i [] e h = absurd (omega arith)
pairs_read (suc n) i (a ∷ []) e h = absurd (omega arith)
pairs_read (suc n) i (a ∷ b ∷ s) e h =
    let parts = and_parts (is_digit a) (is_digit b && list_all is_digit s) h in
    let rest_parts = and_parts (is_digit b) (list_all is_digit s) parts.1 in
    let high = digit_reads a parts.0 in
    let low = digit_reads b rest_parts.0 in
    let rest = pairs_read n (i + 2) s (omega arith) rest_parts.1 in
    let v : ℕ = high.value * 16 + low.value in
    let hs = high.small in
    let ls = low.small in
    let ha : value_at a i ≡ Ok high.value = ap (digit_or_error a i) high.read in
    let hb : value_at b (i + 1) ≡ Ok low.value = ap (digit_or_error b (i + 1)) low.read in
    let pair : pair_value a b i ≡ Ok v = rw (ha, hb) refl in
    let top : v / 16 ≡ high.value = omega (arith, ls) in
    let bottom : v % 16 ≡ low.value = omega (arith, ls) in
    record {
      bytes = v ∷ rest.bytes;
      read = decode_pairs-ok_pair i a b v s pair ∙ ap (cons_byte v) rest.read;
      written = rw (top, bottom, high.place, low.place, rest.written) refl;
      count = ap suc rest.count;
      fit = below_byte v rest.bytes (omega (arith, hs, ls)) rest.fit;
    }

abbrev done : List ℕ → Result (List ℕ) FromHexError
done x = Ok x

abbrev failed : FromHexError → Result (List ℕ) FromHexError
failed e = Err e

ok_is : {x y : List ℕ} → done x ≡ done y → x ≡ y
ok_is h = cc h

-- ---- sixteen digits

twice_not : (s : List ℕ) → list_all (λ b. not (not (is_digit b))) s ≡ true → list_all is_digit s ≡ true
twice_not [] h = refl
twice_not (b ∷ s) h =
    let parts = and_parts (not (not (is_digit b))) (list_all (λ b. not (not (is_digit b))) s) h in
    and_from (is_digit b) (list_all is_digit s) (once (is_digit b) parts.0) (twice_not s parts.1)
  where
    once : (t : Bool) → not (not t) ≡ true → t ≡ true
    once true e = refl
    once false e = absurd cc

pub sixteen_read : (s : List ℕ) → length s ≡ 16 → position (λ b. not (is_digit b)) s ≡ None
    → (bytes : List ℕ) × (decode_sized s 8 ≡ Ok bytes) × (encode_lower bytes ≡ s) × (to_be_bytes w64 (from_be_bytes w64 bytes) ≡ bytes)
sixteen_read s len none =
    let pairs = pairs_read 8 0 s (omega (arith, len)) (twice_not s (none_passes (λ b. not (is_digit b)) s none)) in
    (pairs.bytes, decode_sized-sixteen s len ∙ pairs.read, pairs.written, be_bytes_8 pairs.bytes (from_be_bytes w64 pairs.bytes) pairs.count pairs.fit refl)
  where
    decode_sized-sixteen : (s : List ℕ) → length s ≡ 16 → decode_sized s 8 ≡ decode_pairs 0 s
    decode_sized-sixteen s len = rw len refl

pub not_refused : (s : List ℕ) → length s ≡ 16 → position (λ b. not (is_digit b)) s ≡ None → {e : FromHexError} → failed e ≡ decode_sized s 8 → ⊥
not_refused s len none {e} h = err_ok (h ∙ (sixteen_read s len none).1)
  where
    err_ok : {bytes : List ℕ} → failed e ≡ done bytes → ⊥
    err_ok x = cc x

pub number_written : (s : List ℕ) → length s ≡ 16 → position (λ b. not (is_digit b)) s ≡ None → (bytes : List ℕ) → done bytes ≡ decode_sized s 8 → sixteen_digits (from_be_bytes w64 bytes) ≡ s
number_written s len none bytes h =
    let r = sixteen_read s len none in
    let same : bytes ≡ r.0 = ok_is (h ∙ r.1) in
    ap (λ (x : List ℕ). sixteen_digits (from_be_bytes w64 x)) same ∙ ap encode_lower r.3 ∙ r.2

-- ---- the digits of a number

byte_small : (k n : ℕ) → byte_at k n < 256
byte_small zero n = omega arith
byte_small (suc k) n = omega arith

high_first : (k n : ℕ) → (length (bytes_high_first k n) ≡ k) × IsBytes (bytes_high_first k n)
high_first zero n = (refl, λ i. omega arith)
high_first (suc k) n =
    let rest = high_first k n in
    (ap suc rest.0, below_byte (byte_at k n) (bytes_high_first k n) (byte_small k n) rest.1)

abbrev all_places : ℕ → Bool
all_places zero = true
all_places (suc n) = is_digit (slice_index lower_digits n) && all_places n

places_are_digits : (n d : ℕ) → all_places n ≡ true → d < n → is_digit (slice_index lower_digits d) ≡ true
places_are_digits zero d h lt = absurd (omega arith)
places_are_digits (suc n) d h lt =
    let parts = and_parts (is_digit (slice_index lower_digits n)) (all_places n) h in
    elim (cases_lt d n) [
      | inl below ↦ places_are_digits n d parts.1 below
      | inr top ↦ let e : d ≡ n = omega arith in rw e parts.0
    ]

digits_pass : (bytes : List ℕ) → IsBytes bytes → list_all is_digit (encode_lower bytes) ≡ true
unfolding encode_with
digits_pass [] fit = refl
digits_pass (b ∷ bytes) fit =
    let small : b < 256 = fit 0 in
    let high : b / 16 < 16 = omega arith in
    let low : b % 16 < 16 = omega arith in
    and_from (is_digit (slice_index lower_digits (b / 16))) _ (places_are_digits 16 (b / 16) refl high)
    (and_from (is_digit (slice_index lower_digits (b % 16))) _ (places_are_digits 16 (b % 16) refl low)
    (digits_pass bytes (λ i. fit (suc i))))

no_fault : (s : List ℕ) → list_all is_digit s ≡ true → position_or_len (λ b. not (is_digit b)) s ≡ length s
no_fault [] h = refl
no_fault (b ∷ s) h =
    let parts = and_parts (is_digit b) (list_all is_digit s) h in
    rw (parts.0, no_fault s parts.1) (omega arith)

all_pass : (s : List ℕ) → list_all is_digit s ≡ true → position (λ b. not (is_digit b)) s ≡ None
all_pass s h = rw (no_fault s h, ltb-itself (length s)) refl
  where
    ltb-itself : (n : ℕ) → ltb n n ≡ false
    ltb-itself n = grind (arith, nat_tests)

-- the digits of a number are sixteen, and each is one
pub sixteen_pass : (n : ℕ) → (length (sixteen_digits n) ≡ 16) × (position (λ b. not (is_digit b)) (sixteen_digits n) ≡ None)
sixteen_pass n =
    let bytes = high_first 8 n in
    (length-encode_with lower_digits (to_be_bytes w64 n) ∙ ap (λ (k : ℕ). 2 * k) bytes.0, all_pass (sixteen_digits n) (digits_pass (to_be_bytes w64 n) bytes.1))

-- two numbers of 64 bits with the same digits are the same
pub sixteen_digits-same : (m n : ℕ) → m < 2 ^ 64 → n < 2 ^ 64 → sixteen_digits m ≡ sixteen_digits n → m ≡ n
sixteen_digits-same m n small_m small_n e =
    let read_m = decode_of-encode_lower (to_be_bytes w64 m) (high_first 8 m).1 in
    let read_n = decode_of-encode_lower (to_be_bytes w64 n) (high_first 8 n).1 in
    let bytes : to_be_bytes w64 m ≡ to_be_bytes w64 n = ok_is (sym read_m ∙ ap decode_of e ∙ read_n) in
    sym (from_be_bytes-to_be_bytes_8 m small_m) ∙ ap (from_be_bytes w64) bytes ∙ from_be_bytes-to_be_bytes_8 n small_n

-- a number of 64 bits is what its digits write
pub digits_value-sixteen : (n : ℕ) → n < 2 ^ 64 → digits_value (sixteen_digits n) ≡ n
digits_value-sixteen n small =
    ap (λ (r : Result (List ℕ) FromHexError). from_be_bytes w64 (result_unwrap_or r [])) (decode_of-encode_lower (to_be_bytes w64 n) (high_first 8 n).1)
    ∙ from_be_bytes-to_be_bytes_8 n small
