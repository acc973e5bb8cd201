-- A part that ends at a delimiter.
use Rattle.std.proofs.Common.{◌≡◌, ℕ, ◌+◌, Bool, true, false, cond, ltb, leb, eqb, not, ◌&&◌, List, [], ◌∷◌, ◌++◌, length, get_or, take, drop, ◌<◌, Ok, Err, arith, refl, sym, ap, ◌∙◌}
use Rattle.std.specs.Char.{is_ascii_digit, is_ascii_lowercase}
use Rattle.std.specs.List.{list_all, position_or_len, before_first, after_first}
use Rattle.std.proofs.lemmas.Bool.{ltb-true, lt-ltb, eqb-true, eq-eqb, and_parts, and_from}
use Rattle.std.proofs.lemmas.Bool.Decides.{nat_tests}
use Rattle.std.proofs.lemmas.List.{drop_more, length-append, take_at, take-append-drop}
use Rattle.std.proofs.Math.Seq.{drop-append-add}
use Rattle.std.proofs.lemmas.List.Sums.{split_at_first, passes_at_first}
use Rattle.tuple_text.specs.declared.fault.TupleFault.{TupleFault}
use Rattle.tuple_text.specs.Forms.{is_name_byte, is_name, is_id_byte, is_object_id}
use Rattle.tuple_text.specs.Reading.{part_at}

-- the byte at a place stands between what is before it and what is behind
pub split_at : (t : List ℕ) (i : ℕ) → i < length t → t ≡ take i t ++ get_or t i 0 ∷ drop (i + 1) t
split_at t i lt = sym (take-append-drop i t) ∙ ap (λ l. take i t ++ l) (drop_more t i 0 lt)

-- a test that passed
pub guard_then : {A : Type 0} (b : Bool) (f : TupleFault) (x y : A) → cond b (Ok x) (Err f) ≡ Ok y → (b ≡ true) × (x ≡ y)
guard_then true f x y e = (refl, cc)
guard_then false f x y e = absurd cc

-- what was taken from the front
pub record Takes (test : List ℕ → Bool) (delimiter : ℕ) (text front rest : List ℕ) : Type 0 where
  pub parts : text ≡ front ++ (delimiter ∷ rest)
  pub passes : test front ≡ true

pub part_takes : (test : List ℕ → Bool) (d : ℕ) (f : TupleFault) (text : List ℕ) (x : List ℕ × List ℕ) → part_at test d f text ≡ Ok x → Takes test d text x.0 x.1
part_takes test d f text x e =
    let p : ℕ → Bool = λ b. eqb b d in
    let g = guard_then (ltb (position_or_len p text) (length text) && test (before_first p text)) f (before_first p text, after_first p text) x e in
    let a = and_parts (ltb (position_or_len p text) (length text)) (test (before_first p text)) g.0 in
    let lt = ltb-true _ _ a.0 in
    let at : get_or text (position_or_len p text) 0 ≡ d = eqb-true _ _ (passes_at_first p text 0 lt) in
    let split = split_at_first p text 0 lt in
    let whole : text ≡ before_first p text ++ (d ∷ after_first p text) = split ∙ ap (λ (b : ℕ). before_first p text ++ (b ∷ after_first p text)) at in
    let first : before_first p text ≡ x.0 = ap (λ (y : List ℕ × List ℕ). y.0) g.1 in
    let second : after_first p text ≡ x.1 = ap (λ (y : List ℕ × List ℕ). y.1) g.1 in
    record { parts = rw (← first, ← second) whole; passes = rw (← first) a.1 }

-- none of the bytes is the delimiter
abbrev pub lacks : ℕ → List ℕ → Bool
lacks d bs = list_all (λ b. not (eqb b d)) bs

first_at : (d : ℕ) (front rest : List ℕ) → lacks d front ≡ true → position_or_len (λ b. eqb b d) (front ++ (d ∷ rest)) ≡ length front
first_at d [] rest h = rw (eq-eqb d d refl) refl
first_at d (b ∷ front) rest h =
    let a = and_parts (not (eqb b d)) (lacks d front) h in
    rw (a.0) (ap (λ (n : ℕ). 1 + n) (first_at d front rest a.1) ∙ omega arith)

pub part_again : (test : List ℕ → Bool) (d : ℕ) (f : TupleFault) (front rest : List ℕ) → lacks d front ≡ true → test front ≡ true → part_at test d f (front ++ (d ∷ rest)) ≡ Ok (front, rest)
part_again test d f front rest h passes =
    let at = first_at d front rest h in
    let lt : ltb (length front) (length (front ++ (d ∷ rest))) ≡ true = lt-ltb _ _ (omega (arith, length-append front (d ∷ rest))) in
    rw (at, lt, take_at front (d ∷ rest) (length front) refl, passes, drop-append-add front (d ∷ rest) 1) refl

pub weaker : (p q : ℕ → Bool) → ((b : ℕ) → p b ≡ true → q b ≡ true) → (bs : List ℕ) → list_all p bs ≡ true → list_all q bs ≡ true
weaker p q h [] e = refl
weaker p q h (b ∷ bs) e =
    let a = and_parts (p b) (list_all p bs) e in
    and_from (q b) (list_all q bs) (h b a.0) (weaker p q h bs a.1)

name_byte_lacks : (b : ℕ) → is_name_byte b ≡ true → (not (eqb b 58) ≡ true) × (not (eqb b 64) ≡ true)
name_byte_lacks b e = (grind (arith, nat_tests), grind (arith, nat_tests))

id_byte_lacks : (b : ℕ) → is_id_byte b ≡ true → not (eqb b 35) ≡ true
id_byte_lacks b e = grind (arith, nat_tests)

pub name_lacks : (bs : List ℕ) → is_name bs ≡ true → list_all is_name_byte bs ≡ true
name_lacks [] e = refl
name_lacks (b ∷ bs) e =
    let a = and_parts (is_ascii_lowercase b && ltb (length bs) 64) (list_all is_name_byte bs) e in
    let low = and_parts (is_ascii_lowercase b) (ltb (length bs) 64) a.0 in
    and_from (is_name_byte b) (list_all is_name_byte bs) (rw (low.0) refl) a.1

pub name_lacks_colon : (bs : List ℕ) → is_name bs ≡ true → lacks 58 bs ≡ true
name_lacks_colon bs e = weaker is_name_byte (λ b. not (eqb b 58)) (λ b h. (name_byte_lacks b h).0) bs (name_lacks bs e)

pub name_lacks_at : (bs : List ℕ) → is_name bs ≡ true → lacks 64 bs ≡ true
name_lacks_at bs e = weaker is_name_byte (λ b. not (eqb b 64)) (λ b h. (name_byte_lacks b h).1) bs (name_lacks bs e)

pub id_lacks : (bs : List ℕ) → is_object_id bs ≡ true → lacks 35 bs ≡ true
id_lacks bs e =
    let a = and_parts (not (eqb (length bs) 0) && leb (length bs) 128) (list_all is_id_byte bs) e in
    weaker is_id_byte (λ b. not (eqb b 35)) id_byte_lacks bs a.1

lower_no_digit : (b : ℕ) → is_ascii_lowercase b ≡ true → is_ascii_digit b ≡ false
lower_no_digit b e = grind (arith, nat_tests)

-- a name is no number
pub name_no_digit : (bs rest : List ℕ) → is_name bs ≡ true → list_all is_ascii_digit (bs ++ rest) ≡ false
name_no_digit [] rest e = absurd cc
name_no_digit (b ∷ bs) rest e =
    let a = and_parts (is_ascii_lowercase b && ltb (length bs) 64) (list_all is_name_byte bs) e in
    let low = and_parts (is_ascii_lowercase b) (ltb (length bs) 64) a.0 in
    let no : is_ascii_digit b ≡ false = lower_no_digit b low.0 in
    rw no refl
