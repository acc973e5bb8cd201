-- A text that is read is the token's text, and a token's text is read.
use Rattle.std.proofs.Common.{◌≡◌, ℕ, ◌<◌, ◌^◌, Bool, true, false, cond, eqb, List, [], ◌∷◌, ◌++◌, length, take, drop, Option, Some, None, Result, Ok, Err, refl, sym, ap, ◌∙◌, inl, inr, arith}
use Rattle.std.specs.Prelude.{codes, IfOk, nat_eq, not}
use Rattle.std.specs.List.{position, starts_with}
use Rattle.std.specs.Cmp.{unsigned_Decides}
use Rattle.std.proofs.lemmas.Bool.{cases_Bool, eqb-true}
use Rattle.std.proofs.lemmas.Slice.Eq.{starts_is}
use Rattle.zookie.specs.Tokens.{Token, kind_text, front, sixteen_digits, token_text}
use Rattle.zookie.specs.Reading.{Spelling, Spells, spelled, is_digit, kind_of, digit_fault, with_digits, first_version, with_kind, second_version, read_token, valued, token_at}
use Rattle.zookie.specs.declared.fault.ZookieFault.{ZookieFault}
use Rattle.zookie.specs.declared.fault.ZookieFault.TheVariants.{Length, Prefix}
use Rattle.zookie.specs.declared.token.TokenKind.{TokenKind}
use Rattle.zookie.specs.declared.token.TokenKind.TheVariants.{AclWrite, ContentVersion, ReadSnapshot}
use Rattle.zookie.proofs.Digits.{sixteen_pass, sixteen_digits-same, digits_value-sixteen}

-- the text of a spelling
abbrev written : Spelling → List ℕ
written s = front s.kind ++ s.digits

abbrev done : Spelling → Result Spelling ZookieFault
done s = Ok s

ok_is : (s t : Spelling) → done s ≡ done t → s ≡ t
ok_is s t e = cc

digits_kept : (from : ℕ) (s t : Spelling) (o : Option ℕ) → digit_fault from s o ≡ Ok t → s ≡ t
digits_kept from s t None e = ok_is s t e
digits_kept from s t (Some place) e = absurd cc

if_ok : (b : Bool) (r : Result Spelling ZookieFault) (f : ZookieFault) (t : Spelling) → cond b r (Err f) ≡ Ok t → r ≡ Ok t
if_ok true r f t e = e
if_ok false r f t e = absurd cc

first_takes : (rest : List ℕ) (t : Spelling) → first_version rest ≡ Ok t → written t ≡ codes "z1-" ++ rest
first_takes rest t e =
    let s : Spelling = record { kind = None; digits = rest } in
    sym (ap written (digits_kept 3 s t (position (λ b. not (is_digit b)) rest) (if_ok (eqb (length rest) 16) (with_digits 3 None rest) Length t e)))

kind_takes : (b : ℕ) (k : TokenKind) → kind_of b ≡ Some k → kind_text k ≡ b ∷ []
kind_takes b k e =
    elim (cases_Bool (eqb b 119)) [
      | inl w ↦ let same : b ≡ 119 = eqb-true _ _ w in spelled_so b k AclWrite (rw w at e) (ap (λ (x : ℕ). x ∷ []) (sym same))
      | inr not_w ↦ elim (cases_Bool (eqb b 99)) [
        | inl c ↦ let same : b ≡ 99 = eqb-true _ _ c in spelled_so b k ContentVersion (rw (not_w, c) at e) (ap (λ (x : ℕ). x ∷ []) (sym same))
        | inr not_c ↦ elim (cases_Bool (eqb b 114)) [
          | inl r ↦ let same : b ≡ 114 = eqb-true _ _ r in spelled_so b k ReadSnapshot (rw (not_w, not_c, r) at e) (ap (λ (x : ℕ). x ∷ []) (sym same))
          | inr not_r ↦ absurd (none_some (rw (not_w, not_c, not_r) at e))
        ]
      ]
    ]
  where
    none_some : None ≡ Some k → ⊥
    none_some h = cc h

    some_is : (x y : TokenKind) → Some x ≡ Some y → x ≡ y
    some_is x y h = cc

    spelled_so : (b : ℕ) (k x : TokenKind) → Some x ≡ Some k → kind_text x ≡ b ∷ [] → kind_text k ≡ b ∷ []
    spelled_so b k x h e = ap kind_text (sym (some_is x k h)) ∙ e

with_kind_takes : (b : ℕ) (o : Option TokenKind) (r : Result Spelling ZookieFault) (rest : List ℕ) (t : Spelling) → kind_of b ≡ o
    → ((s : Spelling) → r ≡ Ok s → s.digits ≡ rest) → with_kind o r ≡ Ok t → written t ≡ codes "z2-" ++ (b ∷ rest)
with_kind_takes b o (Err f) rest t is digits e = absurd (err_ok o e)
  where
    err_ok : (o : Option TokenKind) → with_kind o (Err f) ≡ Ok t → ⊥
    err_ok None e = cc e
    err_ok (Some k) e = cc e
with_kind_takes b None (Ok s) rest t is digits e = absurd cc
with_kind_takes b (Some k) (Ok s) rest t is digits e =
    sym (ap written (ok_is (record s { kind = Some k }) t e)) ∙ ap (λ (d : List ℕ). front (Some k) ++ d) (digits s refl)
    ∙ ap (λ (x : List ℕ). (codes "z2-" ++ x) ++ rest) (kind_takes b k is)

second_takes : (rest : List ℕ) (t : Spelling) → second_version rest ≡ Ok t → written t ≡ codes "z2-" ++ rest
second_takes [] t e = absurd cc
second_takes (b ∷ rest) t e =
    let s : Spelling = record { kind = None; digits = rest } in
    with_kind_takes b (kind_of b) (with_digits 4 None rest) rest t refl
    (λ u h. sym (ap (λ (x : Spelling). x.digits) (digits_kept 4 s u (position (λ b. not (is_digit b)) rest) h)))
    (if_ok (eqb (length rest) 16) (with_kind (kind_of b) (with_digits 4 None rest)) Length t e)

begins : (text p : List ℕ) → starts_with nat_eq text p ≡ true → text ≡ p ++ drop (length p) text
begins text p h = (starts_is unsigned_Decides text p (starts_with nat_eq text p) refl).0 h

neither : (b : Bool) (t : Spelling) → cond b (Err Prefix) (Err Length) ≡ Ok t → ⊥
neither true t e = cc e
neither false t e = cc e

pub read_takes : (text : List ℕ) (t : Spelling) → read_token text ≡ Ok t → text ≡ written t
unfolding read_token
read_takes text t e =
    elim (cases_Bool (starts_with nat_eq text (codes "z2-"))) [
      | inl second ↦ begins text (codes "z2-") second ∙ sym (second_takes (drop 3 text) t (rw second at e))
      | inr not_second ↦ elim (cases_Bool (starts_with nat_eq text (codes "z1-"))) [
        | inl first ↦ begins text (codes "z1-") first ∙ sym (first_takes (drop 3 text) t (rw (not_second, first) at e))
        | inr not_first ↦ absurd (neither (eqb (length text) 19) t (rw (not_second, not_first) at e))
      ]
    ]

-- the digits of a number
record AreDigits (digits : List ℕ) : Type 0 where
  sixteen : length digits ≡ 16
  pass : position (λ b. not (is_digit b)) digits ≡ None

first_again : (digits : List ℕ) → AreDigits digits → read_token (codes "z1-" ++ digits) ≡ done (record { kind = None; digits = digits })
unfolding read_token
first_again digits h = rw (h.pass, h.sixteen) refl

second_again : (k : TokenKind) (b : ℕ) (digits : List ℕ) → kind_of b ≡ Some k → AreDigits digits
    → read_token (codes "z2-" ++ (b ∷ digits)) ≡ done (record { kind = Some k; digits = digits })
unfolding read_token
second_again k b digits e h = rw (h.pass, h.sixteen, e) refl

pub read_again : (t : Token) → read_token (token_text t) ≡ Ok (spelled t)
read_again t = again t.kind (sixteen_digits t.at) (let h = sixteen_pass t.at in record { sixteen = h.0; pass = h.1 })
  where
    again : (kind : Option TokenKind) (digits : List ℕ) → AreDigits digits → read_token (front kind ++ digits) ≡ done (record { kind = kind; digits = digits })
    again None digits h = first_again digits h
    again (Some AclWrite) digits h = second_again AclWrite 119 digits refl h
    again (Some ContentVersion) digits h = second_again ContentVersion 99 digits refl h
    again (Some ReadSnapshot) digits h = second_again ReadSnapshot 114 digits refl h

token_is : (s t : Token) → s.at < 2 ^ 64 → t.at < 2 ^ 64 → spelled s ≡ spelled t → s ≡ t
token_is s t small_s small_t e =
    let kind = ap (λ (x : Spelling). x.kind) e in
    let at = sixteen_digits-same s.at t.at small_s small_t (ap (λ (x : Spelling). x.digits) e) in
    λ i. record { kind = kind i; at = at i }

-- the laws, of what a function answered
pub token_found : (text : List ℕ) (r : Result Token ZookieFault) → Spells r (read_token text) → IfOk r (λ z. text ≡ token_text z)
token_found text (Ok z) h = read_takes text (spelled z) h
token_found text (Err e) h = tt

pub token_only : (text : List ℕ) (r : Result Token ZookieFault) → Spells r (read_token text) → IfOk r (λ z. z.at < 2 ^ 64)
    → (t : Token) → t.at < 2 ^ 64 → text ≡ token_text t → r ≡ Ok t
token_only text (Ok z) h small t fits e =
    ap Ok (token_is z t small fits (ok_is (spelled z) (spelled t) (sym h ∙ ap read_token e ∙ read_again t)))
token_only text (Err f) h small t fits e = absurd (err_ok (sym h ∙ ap read_token e ∙ read_again t))
  where
    err_ok : Err f ≡ done (spelled t) → ⊥
    err_ok x = cc x

pub token_exact : (text : List ℕ) (r : Result Token ZookieFault) → Spells r (read_token text) → IfOk r (λ z. z.at < 2 ^ 64) → r ≡ token_at text
token_exact text (Ok z) h small =
    ap (λ (n : ℕ). as_token z.kind n) (sym (digits_value-sixteen z.at small)) ∙ sym (ap valued h)
  where
    as_token : Option TokenKind → ℕ → Result Token ZookieFault
    as_token kind n = Ok (record { kind = kind; at = n })
token_exact text (Err e) h small = sym (ap valued h)
