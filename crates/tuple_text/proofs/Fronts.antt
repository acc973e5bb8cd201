-- A part that is as long as the bytes of its class reach.
use Rattle.std.proofs.Common.{◌≡◌, ℕ, zero, suc, ◌+◌, ◌<◌, ◌≤◌, Bool, true, false, cond, ltb, leb, eqb, not, ◌&&◌, List, [], ◌∷◌, length, get_or, take, drop, Ok, Err, arith, refl, ap, ◌∙◌, inl, inr}
use Rattle.std.specs.Char.{is_ascii_lowercase}
use Rattle.std.specs.List.{list_all, prefix_len, position_or_len, before_first}
use Rattle.std.proofs.lemmas.Bool.{ltb-true, lt-ltb, eqb-true, eq-eqb, ne_eqb, and_parts, cases_Bool}
use Rattle.std.proofs.lemmas.Bool.Decides.{nat_tests}
use Rattle.std.proofs.lemmas.List.{get_or-take, length-take-le}
use Rattle.std.proofs.lemmas.List.Elements.{All-get_or}
use Rattle.std.proofs.lemmas.List.Sums.{prefix_len_is, prefix_len_passes, prefix_len-le-length, position_or_len_is, passes_at_first, AllPass-from_list_all}
use Rattle.tuple_text.specs.declared.fault.TupleFault.{TupleFault}
use Rattle.tuple_text.specs.Forms.{is_name_byte, is_name, is_id_byte, is_object_id}
use Rattle.tuple_text.specs.Reading.{part_at}
use Rattle.tuple_text.proofs.Pieces.{name_lacks}

pub front_passes : (p : ℕ → Bool) (bs : List ℕ) → list_all p (take (prefix_len p bs) bs) ≡ true
front_passes p [] = refl
front_passes p (b ∷ bs) =
    elim (cases_Bool (p b)) [
      | inl here ↦ let more : 1 + prefix_len p bs ≡ suc (prefix_len p bs) = omega arith in rw (here, more, here) (front_passes p bs)
      | inr other ↦ rw other refl
    ]

-- a delimiter that is not of the class
module _ (p : ℕ → Bool) (d : ℕ) (outside : p d ≡ false) (text : List ℕ) where
  first_is : prefix_len p text < length text → get_or text (prefix_len p text) 0 ≡ d → position_or_len (λ b. eqb b d) text ≡ prefix_len p text
  first_is lt e =
      position_or_len_is (λ b. eqb b d) text (prefix_len p text) 0 (prefix_len-le-length p text)
      (λ k h. ne_eqb _ _ (λ same. let passes = prefix_len_passes p text k 0 h in let here = ap p same in absurd cc))
      (λ h. eq-eqb _ _ e)

  front_is : position_or_len (λ b. eqb b d) text < length text → list_all p (before_first (λ b. eqb b d) text) ≡ true → prefix_len p text ≡ position_or_len (λ b. eqb b d) text
  front_is lt all =
      let m : ℕ = position_or_len (λ b. eqb b d) text in
      let at : get_or text m 0 ≡ d = eqb-true _ _ (passes_at_first (λ b. eqb b d) text 0 lt) in
      let size : length (take m text) ≡ m = length-take-le m text (omega arith) in
      let each = AllPass-from_list_all p (take m text) all in
      prefix_len_is p text m 0 (omega arith)
      (λ k h. let here : p (get_or (take m text) k 0) ≡ true = All-get_or (λ b. p b ≡ true) (take m text) k 0 (omega arith) each in rw (get_or-take m text k 0 h) at here)
      (λ h. ap p at ∙ outside)

  -- where the delimiter does not follow what is of the class
  pub part_refused : (test : List ℕ → Bool) (f : TupleFault) → ((bs : List ℕ) → test bs ≡ true → list_all p bs ≡ true) → (prefix_len p text < length text → get_or text (prefix_len p text) 0 ≡ d → ⊥) → part_at test d f text ≡ Err f
  part_refused test f within missing =
      let m : ℕ = position_or_len (λ b. eqb b d) text in
      elim (cases_Bool (ltb m (length text) && test (before_first (λ b. eqb b d) text))) [
        | inl found ↦
            let a = and_parts (ltb m (length text)) (test (before_first (λ b. eqb b d) text)) found in
            let lt = ltb-true _ _ a.0 in
            let same = front_is lt (within _ a.1) in
            let at : get_or text m 0 ≡ d = eqb-true _ _ (passes_at_first (λ b. eqb b d) text 0 lt) in
            absurd (missing (rw same lt) (rw same at))
        | inr none ↦ rw none refl
      ]

  pub part_taken : (test : List ℕ → Bool) (f : TupleFault) → prefix_len p text < length text → get_or text (prefix_len p text) 0 ≡ d → part_at test d f text ≡ cond (test (take (prefix_len p text) text)) (Ok (take (prefix_len p text) text, drop (prefix_len p text + 1) text)) (Err f)
  part_taken test f lt e = let at = first_is lt e in let in_text = lt-ltb _ _ lt in rw (at, in_text) refl

pub is_name_taken : (n : ℕ) (bs : List ℕ) → n ≤ length bs → list_all is_name_byte (take n bs) ≡ true → is_name (take n bs) ≡ (ltb 0 n && ltb n 65 && is_ascii_lowercase (get_or bs 0 0))
is_name_taken zero bs le all = refl
is_name_taken (suc n) [] le all = absurd (omega arith)
is_name_taken (suc n) (b ∷ bs) le all =
    let a = and_parts (is_name_byte b) (list_all is_name_byte (take n bs)) all in
    let size : length (take n bs) ≡ n = length-take-le n bs (omega arith) in
    rw (size, a.1) (grind (arith, nat_tests))

pub is_object_id_taken : (n : ℕ) (bs : List ℕ) → n ≤ length bs → list_all is_id_byte (take n bs) ≡ true → is_object_id (take n bs) ≡ (ltb 0 n && ltb n 129)
is_object_id_taken n bs le all =
    let size : length (take n bs) ≡ n = length-take-le n bs le in
    rw (size, all) (grind (arith, nat_tests))

id_bytes : (bs : List ℕ) → is_object_id bs ≡ true → list_all is_id_byte bs ≡ true
id_bytes bs e = (and_parts (not (eqb (length bs) 0) && leb (length bs) 128) (list_all is_id_byte bs) e).1

-- the bytes of a text, of which the first n are of the class
pub record Reaches (p : ℕ → Bool) (d : ℕ) (text bytes : List ℕ) (n : ℕ) : Type 0 where
  pub outside : p d ≡ false
  pub same : bytes ≡ text
  pub size : n ≡ prefix_len p bytes

abbrev IsEnd : ℕ → List ℕ → ℕ → Type 0
IsEnd d bytes n = (n < length bytes) × (get_or bytes n 0 ≡ d)

pub no_name : (d : ℕ) (f : TupleFault) (text bytes : List ℕ) (n : ℕ) → Reaches is_name_byte d text bytes n → (IsEnd d bytes n → ⊥) → part_at is_name d f text ≡ Err f
no_name d f text bytes n r missing = rw (← r.same) (part_refused is_name_byte d r.outside bytes is_name f name_lacks (λ lt at. missing (rw r.size lt, rw r.size at)))

pub no_id : (d : ℕ) (f : TupleFault) (text bytes : List ℕ) (n : ℕ) → Reaches is_id_byte d text bytes n → (IsEnd d bytes n → ⊥) → part_at is_object_id d f text ≡ Err f
no_id d f text bytes n r missing = rw (← r.same) (part_refused is_id_byte d r.outside bytes is_object_id f id_bytes (λ lt at. missing (rw r.size lt, rw r.size at)))

pub name_is : (d : ℕ) (f : TupleFault) (text bytes : List ℕ) (n : ℕ) → Reaches is_name_byte d text bytes n → IsEnd d bytes n →
    part_at is_name d f text ≡ cond (ltb 0 n && ltb n 65 && is_ascii_lowercase (get_or bytes 0 0)) (Ok (take n text, drop (n + 1) text)) (Err f)
name_is d f text bytes n r end =
    let form = is_name_taken n bytes (omega arith) (rw r.size (front_passes is_name_byte bytes)) in
    rw (← r.same, ← form, r.size) (part_taken is_name_byte d r.outside bytes is_name f (rw (← r.size) end.0) (rw (← r.size) end.1))

pub id_is : (d : ℕ) (f : TupleFault) (text bytes : List ℕ) (n : ℕ) → Reaches is_id_byte d text bytes n → IsEnd d bytes n →
    part_at is_object_id d f text ≡ cond (ltb 0 n && ltb n 129) (Ok (take n text, drop (n + 1) text)) (Err f)
id_is d f text bytes n r end =
    let form = is_object_id_taken n bytes (omega arith) (rw r.size (front_passes is_id_byte bytes)) in
    rw (← r.same, ← form, r.size) (part_taken is_id_byte d r.outside bytes is_object_id f (rw (← r.size) end.0) (rw (← r.size) end.1))
