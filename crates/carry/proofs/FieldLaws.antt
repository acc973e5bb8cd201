-- What a field is read from is what is written for its value, and that is read again.
use Rattle.std.proofs.Common.{◌≡◌, ℕ, zero, suc, ◌+◌, ◌<◌, ◌^◌, Bool, true, false, true≢false, cond, ltb, eqb, not, ◌&&◌, List, [], ◌∷◌, ◌++◌, length, get_or, take, drop, Option, Some, None, Result, Ok, Err, refl, sym, ap, subst, ◌∙◌, append_assoc, arith, inl, inr}
use Rattle.std.specs.Prelude.{nat_eq, ⊤, ◌⊎◌}
use Rattle.std.specs.Char.{is_ascii_digit}
use Rattle.std.specs.Fmt.{decimal}
use Rattle.std.specs.List.{AllByRecursion, after_first, before_first, flat_map, list_all, position_or_len, starts_with}
use Rattle.std.proofs.lemmas.Bool.{ltb-true, lt-ltb, eqb-true, eq-eqb, ne_eqb, and_parts, not_from_false}
use Rattle.std.proofs.lemmas.Fmt.{digits_decimal}
use Rattle.std.proofs.lemmas.List.{length-append, length-take, take_at, drop_at}
use Rattle.std.proofs.lemmas.List.Concat.{flat_map-cons}
use Rattle.std.proofs.lemmas.List.Sums.{split_at_first, passes_at_first}
use Rattle.std.proofs.lemmas.Slice.Eq.{starts_is}
use Rattle.std.specs.Cmp.{unsigned_Decides}
use Rattle.std.proofs.Math.Seq.{drop-append-add}
use Rattle.refusals.specs.Refusals.{◌>>=◌, needed}
use Rattle.tuple_text.specs.Forms.{plain_number}
use Rattle.tuple_text.proofs.Numbers.{own, plain_takes, plain_again}
use Rattle.tuple_text.proofs.Pieces.{split_at, weaker}
use Rattle.carry.specs.declared.fault.FieldFault.{FieldFault}
use Rattle.carry.specs.declared.fault.FieldFault.TheVariants.{Left}
use Rattle.carry.specs.Fields.{IfThere, Reader, after_word, behind, both, counted_at, counted_text, flag_at, flag_text, given, number_line, number_text, number_to, of_text, optional_at, optional_text, repeated, text_at, text_line, word_at, word_or}

-- ---- steps

pub bind_ok : {A B : Type 0} (r : Result A FieldFault) (f : A → Result B FieldFault) (y : B) → (r >>= f) ≡ Ok y → (x : A) × (r ≡ Ok x) × (f x ≡ Ok y)
bind_ok (Ok x) f y e = (x, refl, e)
bind_ok (Err d) f y e = absurd cc

pub guard_ok : {A : Type 0} (b : Bool) (r : Result A FieldFault) (d : FieldFault) (y : A) → cond b r (Err d) ≡ Ok y → (b ≡ true) × (r ≡ Ok y)
guard_ok true r d y e = (refl, e)
guard_ok false r d y e = absurd cc

abbrev done : {A : Type 0} → A → Result A FieldFault
done x = Ok x

pub ok_is : {A : Type 0} (x y : A) → done x ≡ done y → x ≡ y
ok_is x y e = cc

-- ---- what a field keeps

pub record IsField {A : Type 0} (write : A → List ℕ) (read : Reader A) (Fits : A → Type 0) : Type 0 where
  pub takes : (text : List ℕ) (a : A) (rest : List ℕ) → read text ≡ Ok (a, rest) → (text ≡ write a ++ rest) × Fits a
  pub again : (a : A) (rest : List ℕ) → Fits a → read (write a ++ rest) ≡ Ok (a, rest)

-- ---- numbers

abbrev is_end : ℕ → ℕ → Bool
is_end end b = eqb b end

lacks_end : (end b : ℕ) → is_ascii_digit end ≡ false → is_ascii_digit b ≡ true → not (eqb b end) ≡ true
lacks_end end b differs h = not_from_false _ (ne_eqb b end (λ e. true≢false (sym h ∙ ap is_ascii_digit e ∙ differs)))

digits_lack : (end n : ℕ) → is_ascii_digit end ≡ false → n < 2 ^ 64 → list_all (λ b. not (eqb b end)) (decimal n) ≡ true
digits_lack end n differs small = weaker is_ascii_digit (λ b. not (eqb b end)) (λ b h. lacks_end end b differs h) (decimal n) (digits_decimal own n small)

first_at : (end : ℕ) (front rest : List ℕ) → list_all (λ b. not (eqb b end)) front ≡ true → position_or_len (is_end end) (front ++ (end ∷ rest)) ≡ length front
first_at end [] rest h = rw (eq-eqb end end refl) refl
first_at end (b ∷ front) rest h =
    let a = and_parts (not (eqb b end)) (list_all (λ b. not (eqb b end)) front) h in
    rw (a.0) (ap (λ (n : ℕ). 1 + n) (first_at end front rest a.1) ∙ omega arith)

abbrev some : {A : Type 0} → A → Option A
some x = Some x

given_ok : {A : Type 0} (o : Option A) (rest : List ℕ) (left : ℕ) (a : A) (r : List ℕ) → given o rest left ≡ Ok (a, r) → (o ≡ Some a) × (rest ≡ r)
given_ok {A} (Some x) rest left a r e =
    let same = ok_is (x, rest) (a, r) e in
    (ap (λ (p : A × List ℕ). some p.0) same, ap (λ (p : A × List ℕ). p.1) same)
given_ok {A} None rest left a r e = absurd cc

number_takes : (end : ℕ) (text : List ℕ) (n : ℕ) (rest : List ℕ) → number_to end text ≡ Ok (n, rest) → (text ≡ number_text end n ++ rest) × (n < 2 ^ 64)
unfolding number_to
number_takes end text n rest e =
    let p : ℕ → Bool = is_end end in
    let g = guard_ok (ltb (position_or_len p text) (length text)) (given (plain_number (before_first p text)) (after_first p text) (length text)) (Left (length text)) (n, rest) e in
    let lt = ltb-true _ _ g.0 in
    let o = given_ok (plain_number (before_first p text)) (after_first p text) (length text) n rest g.1 in
    let digits = plain_takes (before_first p text) n o.0 in
    let at : get_or text (position_or_len p text) 0 ≡ end = eqb-true _ _ (passes_at_first p text 0 lt) in
    let split = split_at_first p text 0 lt in
    let whole : text ≡ decimal n ++ (end ∷ rest) = split ∙ ap (λ (b : ℕ). before_first p text ++ (b ∷ after_first p text)) at ∙ ap (λ (r : List ℕ). before_first p text ++ (end ∷ r)) o.1 ∙ ap (λ (ds : List ℕ). ds ++ (end ∷ rest)) digits.0 in
    (whole ∙ sym (append_assoc (decimal n) (end ∷ []) rest), digits.1)

number_again : (end : ℕ) → is_ascii_digit end ≡ false → (n : ℕ) (rest : List ℕ) → n < 2 ^ 64 → number_to end (number_text end n ++ rest) ≡ Ok (n, rest)
unfolding number_to
number_again end differs n rest small =
    let at = first_at end (decimal n) rest (digits_lack end n differs small) in
    let lt : ltb (length (decimal n)) (length (decimal n ++ (end ∷ rest))) ≡ true = lt-ltb _ _ (omega (arith, length-append (decimal n) (end ∷ rest))) in
    ap (number_to end) (append_assoc (decimal n) (end ∷ []) rest)
    ∙ rw (at, lt, take_at (decimal n) (end ∷ rest) (length (decimal n)) refl, plain_again n small, drop-append-add (decimal n) (end ∷ rest) 1) refl

pub number_is : (end : ℕ) → is_ascii_digit end ≡ false → IsField (number_text end) (number_to end) (λ n. n < 2 ^ 64)
number_is end differs = record { takes = number_takes end; again = number_again end differs }

-- ---- texts

text_takes : (text t rest : List ℕ) → text_at text ≡ Ok (t, rest) → (text ≡ text_line t ++ rest) × (length t < 2 ^ 64)
unfolding text_at
text_takes text t rest e =
    let a = bind_ok (number_to 32 text) (λ n. cond (ltb n.0 (length n.1) && eqb (get_or n.1 n.0 0) 10) (Ok (take n.0 n.1, drop (n.0 + 1) n.1)) (Err (Left (length text)))) (t, rest) e in
    let n = a.0 in
    let g = guard_ok (ltb n.0 (length n.1) && eqb (get_or n.1 n.0 0) 10) (Ok (take n.0 n.1, drop (n.0 + 1) n.1)) (Left (length text)) (t, rest) a.2 in
    let tests = and_parts (ltb n.0 (length n.1)) (eqb (get_or n.1 n.0 0) 10) g.0 in
    let lt : n.0 < length n.1 = ltb-true _ _ tests.0 in
    let number = number_takes 32 text n.0 n.1 a.1 in
    let split : n.1 ≡ take n.0 n.1 ++ (10 ∷ drop (n.0 + 1) n.1) = split_at n.1 n.0 lt ∙ ap (λ (b : ℕ). take n.0 n.1 ++ (b ∷ drop (n.0 + 1) n.1)) (eqb-true _ _ tests.1) in
    let len : length (take n.0 n.1) ≡ n.0 = omega (arith, length-take n.0 n.1) in
    let whole : text ≡ text_line (take n.0 n.1) ++ drop (n.0 + 1) n.1 =
    number.0 ∙ ap (λ (k : ℕ). number_text 32 k ++ n.1) (sym len) ∙ ap (λ (w : List ℕ). number_text 32 (length (take n.0 n.1)) ++ w) split
    ∙ sym (append_assoc (number_text 32 (length (take n.0 n.1))) (take n.0 n.1 ++ (10 ∷ [])) (drop (n.0 + 1) n.1) ∙ ap (λ (w : List ℕ). number_text 32 (length (take n.0 n.1)) ++ w) (append_assoc (take n.0 n.1) (10 ∷ []) (drop (n.0 + 1) n.1))) in
    subst (λ (x : List ℕ × List ℕ). (text ≡ text_line x.0 ++ x.1) × (length x.0 < 2 ^ 64)) (ok_is (take n.0 n.1, drop (n.0 + 1) n.1) (t, rest) g.1) (whole, rw len number.1)

at_end : (t rest : List ℕ) → get_or (t ++ (10 ∷ rest)) (length t) 0 ≡ 10
at_end [] rest = refl
at_end (b ∷ t) rest = at_end t rest

text_again : (t rest : List ℕ) → length t < 2 ^ 64 → text_at (text_line t ++ rest) ≡ Ok (t, rest)
unfolding text_at
text_again t rest small =
    let regrouped : text_line t ++ rest ≡ number_text 32 (length t) ++ (t ++ (10 ∷ rest)) =
    append_assoc (number_text 32 (length t)) (t ++ (10 ∷ [])) rest ∙ ap (λ (w : List ℕ). number_text 32 (length t) ++ w) (append_assoc t (10 ∷ []) rest) in
    let lt : ltb (length t) (length (t ++ (10 ∷ rest))) ≡ true = lt-ltb _ _ (omega (arith, length-append t (10 ∷ rest))) in
    ap text_at regrouped
    ∙ rw (number_again 32 refl (length t) (t ++ (10 ∷ rest)) small, lt, at_end t rest, take_at t (10 ∷ rest) (length t) refl, drop-append-add t (10 ∷ rest) 1) refl

pub text_is : IsField text_line text_at (λ t. length t < 2 ^ 64)
text_is = record { takes = text_takes; again = text_again }

-- a text of which something is read
module _ {A : Type 0} (write : A → List ℕ) (parse : List ℕ → Option A) (Fits : A → Type 0)
    (parse_takes : (t : List ℕ) (a : A) → parse t ≡ Some a → (t ≡ write a) × Fits a)
    (parse_again : (a : A) → Fits a → parse (write a) ≡ Some a)
    (short : (a : A) → Fits a → length (write a) < 2 ^ 64) where
  of_text_takes : (text : List ℕ) (a : A) (rest : List ℕ) → of_text parse text ≡ Ok (a, rest) → (text ≡ text_line (write a) ++ rest) × Fits a
  of_text_takes text a rest e =
      let b = bind_ok (text_at text) (λ t. given (parse t.0) t.1 (length text)) (a, rest) e in
      let o = given_ok (parse b.0.0) b.0.1 (length text) a rest b.2 in
      let line = text_takes text b.0.0 b.0.1 b.1 in
      let parsed = parse_takes b.0.0 a o.0 in
      (line.0 ∙ ap (λ (r : List ℕ). text_line b.0.0 ++ r) o.1 ∙ ap (λ (t : List ℕ). text_line t ++ rest) parsed.0, parsed.1)

  of_text_again : (a : A) (rest : List ℕ) → Fits a → of_text parse (text_line (write a) ++ rest) ≡ Ok (a, rest)
  of_text_again a rest fits = rw (text_again (write a) rest (short a fits), parse_again a fits) refl

  pub of_text_is : IsField (λ a. text_line (write a)) (of_text parse) Fits
  of_text_is = record { takes = of_text_takes; again = of_text_again }

-- ---- words

pub begins : (text word : List ℕ) → starts_with nat_eq text word ≡ true → text ≡ word ++ drop (length word) text
begins text word h = (starts_is unsigned_Decides text word (starts_with nat_eq text word) refl).0 h

pub begins_so : (word rest : List ℕ) → starts_with nat_eq (word ++ rest) word ≡ true
begins_so word rest = (starts_is unsigned_Decides (word ++ rest) word (starts_with nat_eq (word ++ rest) word) refl).1 rest refl

-- a test that did not fail
there : {A : Type 0} (b : Bool) (x y : A) → cond b (some x) None ≡ Some y → (b ≡ true) × (x ≡ y)
there true x y e = (refl, cc)
there false x y e = absurd cc

needed_ok : {A : Type 0} (d : FieldFault) (o : Option A) (a : A) → needed d o ≡ Ok a → o ≡ Some a
needed_ok d (Some x) a e = cc
needed_ok d None a e = absurd cc

pub at_takes : (word text rest : List ℕ) → word_at word text ≡ Some rest → text ≡ word ++ rest
at_takes word text rest e =
    let g = there (starts_with nat_eq text word) (drop (length word) text) rest e in
    begins text word g.0 ∙ ap (λ (r : List ℕ). word ++ r) g.1

pub word_again : (word rest : List ℕ) → word_at word (word ++ rest) ≡ Some rest
word_again word rest = rw (begins_so word rest, drop_at word rest (length word) refl) refl

pub word_takes : (word text rest : List ℕ) → after_word word text ≡ Ok rest → text ≡ word ++ rest
word_takes word text rest e = at_takes word text rest (needed_ok (Left (length text)) (word_at word text) rest e)

module _ {A : Type 0} (word : List ℕ) (write : A → List ℕ) (read : Reader A) (Fits : A → Type 0) (field : IsField write read Fits) where
  behind_takes : (text : List ℕ) (a : A) (rest : List ℕ) → behind word read text ≡ Ok (a, rest) → (text ≡ (word ++ write a) ++ rest) × Fits a
  behind_takes text a rest e =
      let b = bind_ok (after_word word text) read (a, rest) e in
      let t = field.takes b.0 a rest b.2 in
      (word_takes word text b.0 b.1 ∙ ap (λ (r : List ℕ). word ++ r) t.0 ∙ sym (append_assoc word (write a) rest), t.1)

  behind_again : (a : A) (rest : List ℕ) → Fits a → behind word read ((word ++ write a) ++ rest) ≡ Ok (a, rest)
  behind_again a rest fits =
      ap (behind word read) (append_assoc word (write a) rest)
      ∙ rw (word_again word (write a ++ rest)) (field.again a rest fits)

  pub behind_is : IsField (λ a. word ++ write a) (behind word read) Fits
  behind_is = record { takes = behind_takes; again = behind_again }

-- ---- choices by a word

-- which of the two was read
pub word_or_ok : {B : Type 0} (o : Option (List ℕ)) (f : List ℕ → Result B FieldFault) (other : Result B FieldFault) (y : B) → word_or o f other ≡ Ok y
    → ((rest : List ℕ) × (o ≡ Some rest) × (f rest ≡ Ok y)) ⊎ ((o ≡ None) × (other ≡ Ok y))
word_or_ok (Some rest) f other y e = inl (rest, refl, e)
word_or_ok None f other y e = inr (refl, e)

-- two words of which neither begins as the other one
abbrev pub Differ : List ℕ → List ℕ → Type 0
Differ word other = (rest : List ℕ) → word_at word (other ++ rest) ≡ None

module _ (first second : List ℕ) (differ : Differ first second) where
  flag_takes : (text : List ℕ) (b : Bool) (rest : List ℕ) → flag_at first second text ≡ Ok (b, rest) → (text ≡ flag_text first second b ++ rest) × ⊤
  flag_takes text b rest e =
      elim (word_or_ok (word_at first text) (λ rest. Ok (true, rest)) (after_word second text >>= λ rest. Ok (false, rest)) (b, rest) e) [
        | inl h ↦ subst (λ (y : Bool × List ℕ). (text ≡ flag_text first second y.0 ++ y.1) × ⊤) (ok_is (true, h.0) (b, rest) h.2) (at_takes first text h.0 h.1, tt)
        | inr h ↦
            let a = bind_ok (after_word second text) (λ rest. Ok (false, rest)) (b, rest) h.1 in
            subst (λ (y : Bool × List ℕ). (text ≡ flag_text first second y.0 ++ y.1) × ⊤) (ok_is (false, a.0) (b, rest) a.2) (word_takes second text a.0 a.1, tt)
      ]

  flag_again : (b : Bool) (rest : List ℕ) → ⊤ → flag_at first second (flag_text first second b ++ rest) ≡ Ok (b, rest)
  flag_again true rest fits = rw (word_again first rest) refl
  flag_again false rest fits = rw (differ rest, word_again second rest) refl

  pub flag_is : IsField (flag_text first second) (flag_at first second) (λ b. ⊤)
  flag_is = record { takes = flag_takes; again = flag_again }

module _ {A : Type 0} (none word : List ℕ) (differ : Differ none word) (write : A → List ℕ) (read : Reader A) (Fits : A → Type 0) (field : IsField write read Fits) where
  optional_takes : (text : List ℕ) (o : Option A) (rest : List ℕ) → optional_at none word read text ≡ Ok (o, rest)
      → (text ≡ optional_text none word write o ++ rest) × IfThere Fits o
  optional_takes text o rest e =
      elim (word_or_ok (word_at none text) (λ rest. Ok (None, rest)) (behind word read text >>= λ a. Ok (Some a.0, a.1)) (o, rest) e) [
        | inl h ↦ subst (λ (y : Option A × List ℕ). (text ≡ optional_text none word write y.0 ++ y.1) × IfThere Fits y.0) (ok_is (None, h.0) (o, rest) h.2) (at_takes none text h.0 h.1, tt)
        | inr h ↦
            let a = bind_ok (behind word read text) (λ a. Ok (Some a.0, a.1)) (o, rest) h.1 in
            let made : Option A × List ℕ = (Some a.0.0, a.0.1) in
            subst (λ (y : Option A × List ℕ). (text ≡ optional_text none word write y.0 ++ y.1) × IfThere Fits y.0) (ok_is made (o, rest) a.2) ((behind_is word write read Fits field).takes text a.0.0 a.0.1 a.1)
      ]

  optional_again : (o : Option A) (rest : List ℕ) → IfThere Fits o → optional_at none word read (optional_text none word write o ++ rest) ≡ Ok (o, rest)
  optional_again None rest fits = rw (word_again none rest) refl
  optional_again (Some a) rest fits =
      let first : word_at none ((word ++ write a) ++ rest) ≡ None = ap (word_at none) (append_assoc word (write a) rest) ∙ differ (write a ++ rest) in
      rw (first, (behind_is word write read Fits field).again a rest fits) refl

  pub optional_is : IsField (optional_text none word write) (optional_at none word read) (IfThere Fits)
  optional_is = record { takes = optional_takes; again = optional_again }

-- ---- one field behind another

module _ {A B : Type 0} (write1 : A → List ℕ) (read1 : Reader A) (Fits1 : A → Type 0) (one : IsField write1 read1 Fits1)
    (write2 : B → List ℕ) (read2 : Reader B) (Fits2 : B → Type 0) (two : IsField write2 read2 Fits2) where
  both_takes : (text : List ℕ) (p : A × B) (rest : List ℕ) → both read1 read2 text ≡ Ok (p, rest) → (text ≡ (write1 p.0 ++ write2 p.1) ++ rest) × (Fits1 p.0 × Fits2 p.1)
  both_takes text p rest e =
      let a = bind_ok (read1 text) (λ a. read2 a.1 >>= λ b. Ok ((a.0, b.0), b.1)) (p, rest) e in
      let b = bind_ok (read2 a.0.1) (λ b. Ok ((a.0.0, b.0), b.1)) (p, rest) a.2 in
      let first = one.takes text a.0.0 a.0.1 a.1 in
      let second = two.takes a.0.1 b.0.0 b.0.1 b.1 in
      let whole : text ≡ (write1 a.0.0 ++ write2 b.0.0) ++ b.0.1 = first.0 ∙ ap (λ (t : List ℕ). write1 a.0.0 ++ t) second.0 ∙ sym (append_assoc (write1 a.0.0) (write2 b.0.0) b.0.1) in
      let made : (A × B) × List ℕ = ((a.0.0, b.0.0), b.0.1) in
      subst (λ (y : (A × B) × List ℕ). (text ≡ (write1 y.0.0 ++ write2 y.0.1) ++ y.1) × (Fits1 y.0.0 × Fits2 y.0.1)) (ok_is made (p, rest) b.2) (whole, (first.1, second.1))

  both_again : (p : A × B) (rest : List ℕ) → Fits1 p.0 × Fits2 p.1 → both read1 read2 ((write1 p.0 ++ write2 p.1) ++ rest) ≡ Ok (p, rest)
  both_again p rest fits =
      ap (both read1 read2) (append_assoc (write1 p.0) (write2 p.1) rest)
      ∙ rw (one.again p.0 (write2 p.1 ++ rest) fits.0, two.again p.1 rest fits.1) refl

  pub both_is : IsField (λ p. write1 p.0 ++ write2 p.1) (both read1 read2) (λ p. Fits1 p.0 × Fits2 p.1)
  both_is = record { takes = both_takes; again = both_again }

-- ---- lists

module _ {A : Type 0} (write : A → List ℕ) (read : Reader A) (Fits : A → Type 0) (field : IsField write read Fits) where
  repeated_takes : (n : ℕ) (text : List ℕ) (xs : List A) (rest : List ℕ) → repeated read n text ≡ Ok (xs, rest)
      → (text ≡ flat_map write xs ++ rest) × (length xs ≡ n) × AllByRecursion Fits xs
  repeated_takes zero text xs rest e =
      subst (λ (y : List A × List ℕ). (text ≡ flat_map write y.0 ++ y.1) × (length y.0 ≡ 0) × AllByRecursion Fits y.0) (ok_is ([], text) (xs, rest) e) (refl, refl, tt)
  repeated_takes (suc n) text xs rest e =
      let a = bind_ok (read text) (λ a. repeated read n a.1 >>= λ xs. Ok (a.0 ∷ xs.0, xs.1)) (xs, rest) e in
      let b = bind_ok (repeated read n a.0.1) (λ xs. Ok (a.0.0 ∷ xs.0, xs.1)) (xs, rest) a.2 in
      let first = field.takes text a.0.0 a.0.1 a.1 in
      let second = repeated_takes n a.0.1 b.0.0 b.0.1 b.1 in
      let whole : text ≡ flat_map write (a.0.0 ∷ b.0.0) ++ b.0.1 =
      first.0 ∙ ap (λ (t : List ℕ). write a.0.0 ++ t) second.0 ∙ sym (append_assoc (write a.0.0) (flat_map write b.0.0) b.0.1)
      ∙ ap (λ (t : List ℕ). t ++ b.0.1) (sym (flat_map-cons write a.0.0 b.0.0)) in
      let made : List A × List ℕ = (a.0.0 ∷ b.0.0, b.0.1) in
      subst (λ (y : List A × List ℕ). (text ≡ flat_map write y.0 ++ y.1) × (length y.0 ≡ suc n) × AllByRecursion Fits y.0) (ok_is made (xs, rest) b.2) (whole, ap suc second.1, (first.1, second.2))

  repeated_again : (xs : List A) (rest : List ℕ) → AllByRecursion Fits xs → repeated read (length xs) (flat_map write xs ++ rest) ≡ Ok (xs, rest)
  repeated_again [] rest fits = refl
  repeated_again (a ∷ xs) rest fits =
      let regrouped : flat_map write (a ∷ xs) ++ rest ≡ write a ++ (flat_map write xs ++ rest) =
      ap (λ (t : List ℕ). t ++ rest) (flat_map-cons write a xs) ∙ append_assoc (write a) (flat_map write xs) rest in
      ap (repeated read (suc (length xs))) regrouped ∙ rw (field.again a (flat_map write xs ++ rest) fits.0, repeated_again xs rest fits.1) refl

  counted_takes : (text : List ℕ) (xs : List A) (rest : List ℕ) → counted_at read text ≡ Ok (xs, rest)
      → (text ≡ counted_text write xs ++ rest) × ((length xs < 2 ^ 64) × AllByRecursion Fits xs)
  counted_takes text xs rest e =
      let a = bind_ok (number_to 10 text) (λ n. repeated read n.0 n.1) (xs, rest) e in
      let number = number_takes 10 text a.0.0 a.0.1 a.1 in
      let t = repeated_takes a.0.0 a.0.1 xs rest a.2 in
      (number.0 ∙ ap (λ (k : ℕ). number_line k ++ a.0.1) (sym t.1) ∙ ap (λ (w : List ℕ). number_line (length xs) ++ w) t.0 ∙ sym (append_assoc (number_line (length xs)) (flat_map write xs) rest), (rw t.1 number.1, t.2))

  counted_again : (xs : List A) (rest : List ℕ) → (length xs < 2 ^ 64) × AllByRecursion Fits xs → counted_at read (counted_text write xs ++ rest) ≡ Ok (xs, rest)
  counted_again xs rest fits =
      ap (counted_at read) (append_assoc (number_line (length xs)) (flat_map write xs) rest)
      ∙ rw (number_again 10 refl (length xs) (flat_map write xs ++ rest) fits.0) (repeated_again xs rest fits.1)

  pub counted_is : IsField (counted_text write) (counted_at read) (λ xs. (length xs < 2 ^ 64) × AllByRecursion Fits xs)
  counted_is = record { takes = counted_takes; again = counted_again }

-- ---- the same, with what the fields are found by antt

pub worded : {A : Type 0} {write : A → List ℕ} {read : Reader A} {Fits : A → Type 0} (word : List ℕ) → IsField write read Fits → IsField (λ a. word ++ write a) (behind word read) Fits
worded {A} {write} {read} {Fits} word field = behind_is word write read Fits field

pub pair : {A B : Type 0} {write1 : A → List ℕ} {read1 : Reader A} {Fits1 : A → Type 0} {write2 : B → List ℕ} {read2 : Reader B} {Fits2 : B → Type 0}
    → IsField write1 read1 Fits1 → IsField write2 read2 Fits2 → IsField (λ p. write1 p.0 ++ write2 p.1) (both read1 read2) (λ p. Fits1 p.0 × Fits2 p.1)
pair {A} {B} {write1} {read1} {Fits1} {write2} {read2} {Fits2} one two = both_is write1 read1 Fits1 one write2 read2 Fits2 two

pub listed : {A : Type 0} {write : A → List ℕ} {read : Reader A} {Fits : A → Type 0} → IsField write read Fits
    → IsField (counted_text write) (counted_at read) (λ xs. (length xs < 2 ^ 64) × AllByRecursion Fits xs)
listed {A} {write} {read} {Fits} field = counted_is write read Fits field

pub perhaps : {A : Type 0} {write : A → List ℕ} {read : Reader A} {Fits : A → Type 0} (none word : List ℕ) → Differ none word → IsField write read Fits
    → IsField (optional_text none word write) (optional_at none word read) (IfThere Fits)
perhaps {A} {write} {read} {Fits} none word differ field = optional_is none word differ write read Fits field
