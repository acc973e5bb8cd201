-- What stands between the first line and the seal, and the laws of whole carries.
use Rattle.std.proofs.Common.{◌≡◌, ℕ, zero, suc, ◌+◌, ◌-◌, ◌*◌, Bool, true, false, cond, ltb, List, [], ◌∷◌, ◌++◌, length, get_or, take, drop, Option, Some, None, Result, Ok, Err, refl, sym, ap, subst, ◌∙◌, append_assoc, arith, inl, inr}
use Rattle.std.specs.Prelude.{bytes_eq, codes, nat_eq, option_map, IsUtf8, MatchOption, IfOk}
use Rattle.std.specs.List.{list_all, starts_with}
use Rattle.std.specs.Str.{IsAscii, is_utf8}
use Rattle.std.specs.Str.Lossy.{utf8_valid_len}
use Rattle.std.proofs.lemmas.Bool.{ltb-true, le-ltb, and_parts, cases_Bool}
use Rattle.std.proofs.lemmas.List.{length-append, take_at, drop_at, take-append-drop}
use Rattle.std.proofs.lemmas.Slice.Eq.{bytes_eq-Decides}
use Rattle.std.proofs.lemmas.Str.Ascii.{IsAscii-nil}
use Rattle.std.proofs.lemmas.Str.{IsUtf8-from_is_utf8, is_utf8-from_IsUtf8}
use Rattle.refusals.specs.Refusals.{◌>>=◌}
use Rattle.hex.specs.Hex.{encode_lower, encode_with, lower_digits}
use Rattle.sha2.specs.Sha256.{digest_bytes, final_hash, initial_hash_256, sha256}
use Rattle.carry.specs.declared.fault.CarryFault.{CarryFault}
use Rattle.carry.specs.declared.fault.CarryFault.TheVariants.{Foreign, Cut, Changed, Malformed}
use Rattle.carry.specs.declared.fault.FieldFault.{FieldFault}
use Rattle.carry.specs.Fields.{word_at, word_or}
use Rattle.carry.specs.Opening.{behind_first, carry_at, may_be_seal, opened, text_in, unsealed_at}
use Rattle.carry.specs.Reading.{CarryFields, body_at, whole_body}
use Rattle.carry.specs.Refused.{Gives, placed}
use Rattle.carry.specs.declared.value.Carry.{Carry}
use Rattle.simdutf8.proofs.StepsLemmas.{IsUtf8-after_ascii}
use Rattle.carry.specs.Texts.{IsCarry, IsInForm, body_text, carry_text, first_line, seal, unsealed}
use Rattle.carry.specs.Values.{CarryValue, carry_value}
use Rattle.carry.proofs.CarryLaws.{body_again, carry_fields, whole_again, whole_takes}
use Rattle.carry.proofs.FieldLaws.{at_takes}
use Rattle.carry.proofs.Numbers.{word_missing}
use denote.Ref.{Bor}

-- ---- a seal has 72 bytes

digest_length : (h : List ℕ) → length (digest_bytes h 8) ≡ 32
unfolding digest_bytes
digest_length h = refl

sha256_length : (m : List ℕ) → length (sha256 m) ≡ 32
unfolding sha256
sha256_length m = digest_length (final_hash initial_hash_256 m)

encode_length : (bytes : List ℕ) → length (encode_with lower_digits bytes) ≡ 2 * length bytes
unfolding encode_with
encode_length [] = refl
encode_length (b ∷ bytes) = omega (arith, encode_length bytes)

digits_length : (m : List ℕ) → length (encode_lower (sha256 m)) ≡ 64
digits_length m = omega (arith, encode_length (sha256 m), sha256_length m)

pub seal_length : (m : List ℕ) → length (seal m) ≡ 72
unfolding seal
seal_length m = let all = length-append (encode_lower (sha256 m)) (codes "\n") in omega (arith, all, digits_length m)

at_end : (t : List ℕ) (n : ℕ) → length t ≡ n → get_or (t ++ codes "\n") n 0 ≡ 10
at_end t n e = rw (← e) (last t)
  where
    last : (t : List ℕ) → get_or (t ++ codes "\n") (length t) 0 ≡ 10
    last [] = refl
    last (b ∷ t) = last t

seal_may : (m : List ℕ) → may_be_seal (seal m) ≡ true
unfolding seal
seal_may m = rw (at_end (encode_lower (sha256 m)) 64 (digits_length m)) refl

-- ---- steps

bind_ok : {A B : Type 0} (r : Result A CarryFault) (f : A → Result B CarryFault) (y : B) → (r >>= f) ≡ Ok y → (x : A) × (r ≡ Ok x) × (f x ≡ Ok y)
bind_ok (Ok x) f y e = (x, refl, e)
bind_ok (Err d) f y e = absurd cc

guard_ok : {A : Type 0} (b : Bool) (r : Result A CarryFault) (d : CarryFault) (y : A) → cond b r (Err d) ≡ Ok y → (b ≡ true) × (r ≡ Ok y)
guard_ok true r d y e = (refl, e)
guard_ok false r d y e = absurd cc

guard_err : {A : Type 0} (b : Bool) (r : Result A CarryFault) (d : CarryFault) (y : A) → cond b (Err d) r ≡ Ok y → (b ≡ false) × (r ≡ Ok y)
guard_err true r d y e = absurd cc
guard_err false r d y e = (refl, e)

abbrev done : {A : Type 0} → A → Result A CarryFault
done x = Ok x

ok_is : {A : Type 0} (x y : A) → done x ≡ done y → x ≡ y
ok_is x y e = cc

never : (b : Bool) (d f : CarryFault) (y : List ℕ) → cond b (Err d) (Err f) ≡ done y → ⊥
never true d f y e = cc e
never false d f y e = cc e

-- ---- opening

sealed_takes : (body line text : List ℕ) → unsealed_at body line ≡ Ok text → (body ≡ text) × (line ≡ seal (first_line ++ text))
unfolding unsealed_at
sealed_takes body line text e =
    let a = guard_ok (may_be_seal line) (cond (bytes_eq line (seal (first_line ++ body))) (Ok body) (Err Changed)) Cut text e in
    let b = guard_ok (bytes_eq line (seal (first_line ++ body))) (Ok body) Changed text a.1 in
    let same = ok_is body text b.1 in
    (same, (bytes_eq-Decides line (seal (first_line ++ body))).0 b.0 ∙ ap (λ (t : List ℕ). seal (first_line ++ t)) same)

behind_takes : (rest text : List ℕ) → behind_first rest ≡ Ok text → rest ≡ text ++ seal (first_line ++ text)
unfolding behind_first
behind_takes rest text e =
    let a = guard_err (ltb (length rest) 72) (unsealed_at (take (length rest - 72) rest) (drop (length rest - 72) rest)) Cut text e in
    let b = sealed_takes (take (length rest - 72) rest) (drop (length rest - 72) rest) text a.1 in
    sym (take-append-drop (length rest - 72) rest) ∙ ap (λ (t : List ℕ). t ++ drop (length rest - 72) rest) b.0 ∙ ap (λ (l : List ℕ). text ++ l) b.1

opened_takes : (bytes text : List ℕ) → opened bytes ≡ Ok text → bytes ≡ (first_line ++ text) ++ seal (first_line ++ text)
unfolding opened
opened_takes bytes text e = by_word (word_at first_line bytes) refl e
  where
    by_word : (o : Option (List ℕ)) → word_at first_line bytes ≡ o → word_or o behind_first (cond (starts_with nat_eq first_line bytes) (Err Cut) (Err Foreign)) ≡ Ok text
        → bytes ≡ (first_line ++ text) ++ seal (first_line ++ text)
    by_word (Some rest) h e =
        at_takes first_line bytes rest h ∙ ap (λ (r : List ℕ). first_line ++ r) (behind_takes rest text e) ∙ sym (append_assoc first_line text (seal (first_line ++ text)))
    by_word None h e = absurd (never (starts_with nat_eq first_line bytes) Cut Foreign text e)

sealed_again : (body : List ℕ) → unsealed_at body (seal (first_line ++ body)) ≡ Ok body
unfolding unsealed_at
sealed_again body =
    let same : bytes_eq (seal (first_line ++ body)) (seal (first_line ++ body)) ≡ true = (bytes_eq-Decides (seal (first_line ++ body)) (seal (first_line ++ body))).1 refl in
    rw (seal_may (first_line ++ body), same) refl

behind_again : (body : List ℕ) → behind_first (body ++ seal (first_line ++ body)) ≡ Ok body
unfolding behind_first
behind_again body =
    let s : List ℕ = seal (first_line ++ body) in
    let len : length (body ++ seal (first_line ++ body)) ≡ length body + 72 = omega (arith, length-append body (seal (first_line ++ body)), seal_length (first_line ++ body)) in
    let long : ltb (length (body ++ seal (first_line ++ body))) 72 ≡ false = le-ltb _ _ (omega (arith, len)) in
    let at : length (body ++ seal (first_line ++ body)) - 72 ≡ length body = omega (arith, len) in
    rw (long, at, take_at body (seal (first_line ++ body)) (length body) refl, drop_at body (seal (first_line ++ body)) (length body) refl) (sealed_again body)

opened_again : (body : List ℕ) → opened ((first_line ++ body) ++ seal (first_line ++ body)) ≡ Ok body
unfolding opened
opened_again body = ap opened (append_assoc first_line body (seal (first_line ++ body))) ∙ behind_again body

-- ---- whole carries

placed_ok : {A : Type 0} (len : ℕ) (r : Result A FieldFault) (a : A) → placed len r ≡ Ok a → r ≡ Ok a
placed_ok {A} len (Ok x) a e = ap value (ok_is x a e)
  where
    value : A → Result A FieldFault
    value y = Ok y
placed_ok len (Err f) a e = absurd cc

pub carry_takes : (bytes : List ℕ) (c : CarryValue) → carry_at bytes ≡ Ok c → IsCarry c × (bytes ≡ carry_text c)
unfolding carry_at text_in
carry_takes bytes c e =
    let a = bind_ok (text_in bytes) (λ text. placed (length text) (whole_body text)) c e in
    let b = bind_ok (opened bytes) (λ body. cond (is_utf8 body) (Ok body) (Err (Malformed (18 + utf8_valid_len body)))) a.0 a.1 in
    let g = guard_ok (is_utf8 b.0) (Ok b.0) (Malformed (18 + utf8_valid_len b.0)) a.0 b.2 in
    let same = ok_is b.0 a.0 g.1 in
    let t = whole_takes a.0 c (placed_ok (length a.0) (whole_body a.0) c a.2) in
    let is : b.0 ≡ body_text c = same ∙ t.0 in
    let utf8 : IsUtf8 (body_text c) = subst IsUtf8 is (IsUtf8-from_is_utf8 b.0 g.0) in
    (record { form = t.1; utf8 = utf8 }, opened_takes bytes b.0 b.1 ∙ ap (λ (x : List ℕ). (first_line ++ x) ++ seal (first_line ++ x)) is)

pub carry_again : (c : CarryValue) → IsCarry c → carry_at (carry_text c) ≡ Ok c
unfolding carry_at text_in
carry_again c h = rw (opened_again (body_text c), is_utf8-from_IsUtf8 (body_text c) h.utf8, whole_again c h.form) refl

-- ---- no front of a carry is one

drop_first : (x y : List ℕ) → first_line ++ x ≡ first_line ++ y → x ≡ y
drop_first x y e = ap (drop 18) e

nothing_left : (s rest : List ℕ) → s ≡ s ++ rest → rest ≡ []
nothing_left s [] e = refl
nothing_left s (b ∷ rest) e = absurd (let len = ap length e in let all = length-append s (b ∷ rest) in omega arith)

pub no_front : (c d : CarryValue) (rest : List ℕ) → IsCarry c → IsCarry d → carry_text c ≡ carry_text d ++ rest → (c ≡ d) × (rest ≡ [])
no_front c d rest hc hd e =
    let left : carry_text c ≡ first_line ++ (body_text c ++ seal (unsealed c)) = append_assoc first_line (body_text c) (seal (unsealed c)) in
    let right : carry_text d ++ rest ≡ first_line ++ (body_text d ++ (seal (unsealed d) ++ rest)) =
    append_assoc (unsealed d) (seal (unsealed d)) rest ∙ append_assoc first_line (body_text d) (seal (unsealed d) ++ rest) in
    let bodies : body_text c ++ seal (unsealed c) ≡ body_text d ++ (seal (unsealed d) ++ rest) = drop_first _ _ (sym left ∙ e ∙ right) in
    let read : done' (carry_fields c, seal (unsealed c)) ≡ done' (carry_fields d, seal (unsealed d) ++ rest) =
    sym (body_again c (seal (unsealed c)) hc.form) ∙ ap body_at bodies ∙ body_again d (seal (unsealed d) ++ rest) hd.form in
    let pairs = pair_is read in
    let same : c ≡ d = ap carry_of_fields (ap (λ (p : CarryFields × List ℕ). p.0) pairs) in
    let seals : seal (unsealed c) ≡ seal (unsealed d) ++ rest = ap (λ (p : CarryFields × List ℕ). p.1) pairs in
    (same, nothing_left (seal (unsealed d)) rest (sym (ap (λ (x : CarryValue). seal (unsealed x)) same) ∙ seals))
  where
    done' : CarryFields × List ℕ → Result (CarryFields × List ℕ) FieldFault
    done' p = Ok p

    pair_is : {p q : CarryFields × List ℕ} → done' p ≡ done' q → p ≡ q
    pair_is x = cc x

    carry_of_fields : CarryFields → CarryValue
    carry_of_fields p = record { lines = p.0; base = p.1.0.0; versions = p.1.0.1; before = p.1.1.0; items = p.1.1.1 }

-- ---- what functions answered

pub bytes_stripped : (bytes : List ℕ) (r : Option (Bor (List ℕ))) → MatchOption r ((rest : List ℕ) → bytes ≡ first_line ++ rest → ⊥) (λ x. bytes ≡ first_line ++ x.now)
    → option_map (λ s. s.now) r ≡ word_at first_line bytes
bytes_stripped bytes None h = word_missing first_line bytes h
bytes_stripped bytes (Some x) h = sym (ap (word_at first_line) h)

pub is_found : (bytes : List ℕ) (r : Result Carry CarryFault) → Gives carry_value r (carry_at bytes) → IfOk r (λ c. IsCarry (carry_value c) × (bytes ≡ carry_text (carry_value c)))
is_found bytes (Ok c) h = carry_takes bytes (carry_value c) h
is_found bytes (Err e) h = tt

pub is_read : (bytes : List ℕ) (r : Result Carry CarryFault) → Gives carry_value r (carry_at bytes) → (c : CarryValue) → IsCarry c → bytes ≡ carry_text c → Gives carry_value r (Ok c)
is_read bytes r h c fits e = subst (λ (x : Result CarryValue CarryFault). Gives carry_value r x) (ap carry_at e ∙ carry_again c fits) h

ascii_from : (bs : List ℕ) → list_all (λ b. ltb b 128) bs ≡ true → IsAscii bs
ascii_from [] e i = IsAscii-nil i
ascii_from (b ∷ bs) e zero = ltb-true _ _ (and_parts (ltb b 128) (list_all (λ b. ltb b 128) bs) e).0
ascii_from (b ∷ bs) e (suc i) = ascii_from bs (and_parts (ltb b 128) (list_all (λ b. ltb b 128) bs) e).1 i

pub is_carry : (c : CarryValue) → IsInForm c → IsUtf8 (unsealed c) → IsCarry c
is_carry c form utf8 = record { form = form; utf8 = (IsUtf8-after_ascii first_line (body_text c) (ascii_from first_line refl)).0 utf8 }

pub text_there : (bytes body text : List ℕ) → opened bytes ≡ Ok body → text ≡ body → IsUtf8 body → text_in bytes ≡ Ok text
unfolding text_in
text_there bytes body text o e utf8 = rw (o, is_utf8-from_IsUtf8 body utf8) (ap done (sym e))

pub text_missing : (bytes body : List ℕ) (n : ℕ) (fault : CarryFault) → opened bytes ≡ Ok body → ¬ (IsUtf8 body) → n ≡ utf8_valid_len body → fault ≡ Malformed (18 + n) → text_in bytes ≡ Err fault
unfolding text_in
text_missing bytes body n fault o none at e =
    let f : is_utf8 body ≡ false = elim (cases_Bool (is_utf8 body)) [ inl t ↦ absurd (none (IsUtf8-from_is_utf8 body t)) | inr f ↦ f ] in
    rw (o, f) (ap failed (sym (e ∙ ap (λ (k : ℕ). Malformed (18 + k)) at)))
  where
    failed : CarryFault → Result (List ℕ) CarryFault
    failed x = Err x
