-- What a carry is read from is its text, and its text is read as it.
use Rattle.std.proofs.Common.{◌≡◌, ℕ, ◌<◌, ◌≤◌, ◌^◌, Bool, true, false, cond, ltb, leb, eqb, not, ◌&&◌, List, [], ◌∷◌, ◌++◌, length, Option, Some, None, Result, Ok, Err, refl, sym, ap, subst, ◌∙◌, append_assoc, arith, inl, inr}
use Rattle.std.specs.Prelude.{bytes_eq, codes, ⊤}
use Rattle.std.specs.Fmt.{decimal}
use Rattle.std.specs.List.{AllByRecursion, list_all}
use Rattle.std.specs.Result.{result_ok}
use Rattle.std.proofs.lemmas.Bool.{ltb-true, lt-ltb, leb-true, eqb-true, and_parts}
use Rattle.std.proofs.lemmas.Fmt.{length-decimal-le}
use Rattle.std.proofs.lemmas.List.{append-nil, length-append, nil_from_length}
use Rattle.std.proofs.lemmas.Slice.Eq.{bytes_eq-Decides}
use Rattle.tuple_text.specs.Forms.{IsUserset, is_id_byte, is_name, is_name_byte, is_object_id, is_user_relation}
use Rattle.std.specs.Char.{is_ascii_lowercase}
use Rattle.tuple_text.specs.Grammar.{IsFact, IsTuple, IsUser, fact_text, tuple_text, user_text, userset_text}
use Rattle.tuple_text.specs.Reading.{fact_at, tuple_at}
use Rattle.tuple_text.specs.Sets.{SetValue}
use Rattle.tuple_text.specs.Tuples.{FactValue, TupleValue}
use Rattle.tuple_text.specs.declared.users.User.{User}
use Rattle.tuple_text.specs.declared.users.User.TheVariants.{Id, Set}
use Rattle.tuple_text.proofs.GrammarLaws.{fact_again, fact_takes, tuple_again, tuple_takes}
use Rattle.zookie.specs.Reading.{token_at}
use Rattle.zookie.specs.Tokens.{Token, front, sixteen_digits, token_text}
use Rattle.zookie.specs.declared.token.TokenKind.{TokenKind}
use Rattle.zookie.specs.declared.token.TokenKind.TheVariants.{AclWrite, ContentVersion, ReadSnapshot}
use Rattle.zookie.proofs.Digits.{sixteen_pass}
use Rattle.zookie.proofs.Spellings.{read_again, token_exact}
use Rattle.carry.specs.declared.fault.FieldFault.{FieldFault}
use Rattle.carry.specs.declared.fault.FieldFault.TheVariants.{Left}
use Rattle.carry.specs.declared.value.CheckKind.{CheckKind}
use Rattle.carry.specs.declared.value.CheckKind.TheVariants.{Check, Content}
use Rattle.carry.specs.Fields.{IfThere, Reader, both, number_line, number_to, seen, text_at, text_line, word_at, word_or, behind, after_word}
use Rattle.carry.specs.Values.{CarryValue, CheckValue, ItemValue, SaidValue, declares, commits, records}
use Rattle.carry.specs.Texts.{IsCheck, IsInForm, IsItem, IsSaid, body_text, check_text, commit_text, fact_line, item_text, known_text, tuple_line, zookie_line}
use Rattle.carry.specs.Reading.{CarryFields, CheckFields, CommitFields, body_at, carry_of, check_fields_at, check_of, checked_at, commit_fields_at, commit_of, committed_at, declared_at, fact_in, fact_line_at, item_at, item_of, known_at, spelled_so, tuple_in, tuple_line_at, whole_body, zookie_in, zookie_line_at}
use Rattle.carry.proofs.FieldLaws.{IsField, at_takes, bind_ok, flag_is, guard_ok, listed, number_is, of_text_is, ok_is, pair, perhaps, text_is, word_or_ok, word_takes, worded}

-- ---- tuples and facts are short

name_short : (bs : List ℕ) → is_name bs ≡ true → length bs ≤ 64
name_short [] e = omega arith
name_short (b ∷ bs) e =
    let a = and_parts (is_ascii_lowercase b && ltb (length bs) 64) (list_all is_name_byte bs) e in
    let low = and_parts (is_ascii_lowercase b) (ltb (length bs) 64) a.0 in
    let lt : length bs < 64 = ltb-true _ _ low.1 in
    omega arith

id_short : (bs : List ℕ) → is_object_id bs ≡ true → length bs ≤ 128
id_short bs e =
    let a = and_parts (not (eqb (length bs) 0) && leb (length bs) 128) (list_all is_id_byte bs) e in
    let b = and_parts (not (eqb (length bs) 0)) (leb (length bs) 128) a.0 in
    leb-true _ _ b.1

relation_short : (bs : List ℕ) → is_user_relation bs ≡ true → length bs ≤ 64
relation_short bs e = by_name (is_name bs) refl
  where
    by_name : (b : Bool) → is_name bs ≡ b → length bs ≤ 64
    by_name true h = name_short bs h
    by_name false h =
        let dots : bytes_eq bs (codes "...") ≡ true = rw h at e in
        let same : bs ≡ codes "..." = (bytes_eq-Decides bs (codes "...")).0 dots in
        let len : length bs ≡ 3 = ap length same in
        omega arith

set_short : (s : SetValue) → IsUserset s → length (userset_text s) ≤ 300
set_short s fits =
    let one = name_short s.namespace fits.namespace in
    let two = id_short s.id fits.id in
    let three = relation_short s.relation fits.relation in
    let first = length-append s.namespace (58 ∷ (s.id ++ (35 ∷ s.relation))) in
    let second = length-append s.id (35 ∷ s.relation) in
    omega arith

user_short : (u : User) → IsUser u → length (user_text u) ≤ 300
user_short (Id n) fits = let le = length-decimal-le 20 n (omega arith) (omega (arith, fits)) fits in omega (arith, le)
user_short (Set s) fits = set_short s fits

tuple_short : (t : TupleValue) → IsTuple t → length (tuple_text t) < 2 ^ 64
tuple_short t fits =
    let one = set_short t.set fits.head.set in
    let two = user_short t.user fits.user in
    let all = length-append (userset_text t.set) (64 ∷ user_text t.user) in
    omega arith

fact_short : (f : FactValue) → IsFact f → length (fact_text f) < 2 ^ 64
fact_short f fits =
    let one = set_short f.set fits.head.set in
    let two = user_short (Id f.user) fits.user in
    let all = length-append (userset_text f.set) (64 ∷ decimal f.user) in
    omega arith

zookie_short : (z : Token) → z.at < 2 ^ 64 → length (token_text z) < 2 ^ 64
zookie_short z fits =
    let digits = (sixteen_pass z.at).0 in
    let all = length-append (front z.kind) (sixteen_digits z.at) in
    let begun = front_short z.kind in
    omega arith
  where
    front_short : (k : Option TokenKind) → length (front k) ≤ 4
    front_short None = omega arith
    front_short (Some AclWrite) = omega arith
    front_short (Some ContentVersion) = omega arith
    front_short (Some ReadSnapshot) = omega arith

-- ---- texts of one line

ok_there : {A E : Type 0} (r : Result A E) (a : A) → result_ok r ≡ Some a → r ≡ Ok a
ok_there {A} {E} (Ok x) a e = ap value (some_is x a e)
  where
    value : A → Result A E
    value y = Ok y

    some : A → Option A
    some y = Some y

    some_is : (x y : A) → some x ≡ some y → x ≡ y
    some_is x y h = cc h
ok_there {A} {E} (Err f) a e = absurd (apart e)
  where
    some : A → Option A
    some y = Some y

    apart : None ≡ some a → ⊥
    apart h = cc h

tuple_in_takes : (text : List ℕ) (t : TupleValue) → tuple_in text ≡ Some t → (text ≡ tuple_text t) × IsTuple t
tuple_in_takes text t e = let h = tuple_takes text t (ok_there (tuple_at text) t e) in (h.1, h.0)

fact_in_takes : (text : List ℕ) (f : FactValue) → fact_in text ≡ Some f → (text ≡ fact_text f) × IsFact f
fact_in_takes text f e = let h = fact_takes text f (ok_there (fact_at text) f e) in (h.1, h.0)

abbrev token : Token → Option Token
token z = Some z

zookie_in_takes : (text : List ℕ) (z : Token) → zookie_in text ≡ Some z → (text ≡ token_text z) × (z.at < 2 ^ 64)
zookie_in_takes text z e = by_token (result_ok (token_at text)) e
  where
    by_test : (b : Bool) (y : Token) → (bytes_eq (token_text y) text && ltb y.at (2 ^ 64)) ≡ b → cond b (token y) None ≡ Some z → (text ≡ token_text z) × (z.at < 2 ^ 64)
    by_test true y h e =
        let a = and_parts (bytes_eq (token_text y) text) (ltb y.at (2 ^ 64)) h in
        let same : y ≡ z = cc e in
        subst (λ (x : Token). (text ≡ token_text x) × (x.at < 2 ^ 64)) same (sym ((bytes_eq-Decides (token_text y) text).0 a.0), ltb-true _ _ a.1)
    by_test false y h e = absurd (apart e)
      where
        apart : None ≡ token z → ⊥
        apart x = cc x

    by_token : (o : Option Token) → spelled_so text o ≡ Some z → (text ≡ token_text z) × (z.at < 2 ^ 64)
    by_token (Some y) e = by_test (bytes_eq (token_text y) text && ltb y.at (2 ^ 64)) y refl e
    by_token None e = absurd (apart e)
      where
        apart : None ≡ token z → ⊥
        apart x = cc x

zookie_in_again : (z : Token) → z.at < 2 ^ 64 → zookie_in (token_text z) ≡ Some z
zookie_in_again z fits =
    let read : Ok z ≡ token_at (token_text z) = token_exact (token_text z) (Ok z) (read_again z) fits in
    let same : bytes_eq (token_text z) (token_text z) ≡ true = (bytes_eq-Decides (token_text z) (token_text z)).1 refl in
    let lt : ltb z.at (2 ^ 64) ≡ true = lt-ltb _ _ fits in
    rw (← read, same, lt) refl

tuple_field : IsField tuple_line tuple_line_at IsTuple
unfolding tuple_line_at
tuple_field = of_text_is tuple_text tuple_in IsTuple tuple_in_takes (λ t fits. rw (tuple_again t fits) refl) tuple_short

fact_field : IsField fact_line fact_line_at IsFact
unfolding fact_line_at
fact_field = of_text_is fact_text fact_in IsFact fact_in_takes (λ f fits. rw (fact_again f fits) refl) fact_short

zookie_field : IsField zookie_line zookie_line_at (λ z. z.at < 2 ^ 64)
unfolding zookie_line_at
zookie_field = of_text_is token_text zookie_in (λ z. z.at < 2 ^ 64) zookie_in_takes zookie_in_again zookie_short

-- ---- entries, commits

abbrev CheckFits : CheckFields → Type 0
CheckFits p =
    ⊤ × (IsFact p.1.0 × ((p.1.1.0 < 2 ^ 64)
    × (IfThere (λ z. z.at < 2 ^ 64) p.1.1.1.0 × IfThere (λ t. length t < 2 ^ 64) p.1.1.1.1)))

check_field : (kind : CheckKind) → IsField (λ p. check_text (check_of kind p)) check_fields_at CheckFits
unfolding check_fields_at
check_field kind =
    pair (flag_is (codes "yes\n") (codes "no\n") (λ rest. refl))
    (pair (worded (codes "goal ") fact_field)
    (pair (worded (codes "snapshot ") (number_is 10 refl))
    (pair (perhaps (codes "no zookie\n") (codes "zookie ") (λ rest. refl) zookie_field)
    (perhaps (codes "no version\n") (codes "version ") (λ rest. refl) text_is))))

check_fits : (kind : CheckKind) (p : CheckFields) → CheckFits p → IsCheck (check_of kind p)
check_fits kind p h = record { goal = h.1.0; snapshot = h.1.1.0; zookie = h.1.1.1.0; version = h.1.1.1.1 }

abbrev fields_of : CheckValue → CheckFields
fields_of e = (e.reply, (e.goal, (e.snapshot, (e.zookie, e.version))))

fits_check : (e : CheckValue) → IsCheck e → CheckFits (fields_of e)
fits_check e h = (tt, (h.goal, (h.snapshot, (h.zookie, h.version))))

abbrev CommitFits : CommitFields → Type 0
CommitFits p = (p.0 < 2 ^ 64) × (((length p.1.0 < 2 ^ 64) × AllByRecursion IsTuple p.1.0) × ((length p.1.1 < 2 ^ 64) × AllByRecursion IsTuple p.1.1))

commit_field : IsField (λ p. commit_text (commit_of p)) commit_fields_at CommitFits
unfolding commit_fields_at
commit_field =
    pair (worded (codes "at ") (number_is 10 refl))
    (pair (worded (codes "adds ") (listed tuple_field)) (worded (codes "removes ") (listed tuple_field)))

-- ---- items

line_and : {A : Type 0} {write : A → List ℕ} {read : Reader A} {Fits : A → Type 0} → IsField write read Fits
    → IsField (λ p. number_line p.0 ++ write p.1) (both (number_to 10) read) (λ p. (p.0 < 2 ^ 64) × Fits p.1)
line_and field = pair (number_is 10 refl) field

-- an item of one kind, behind its word
module _ {A : Type 0} (word : List ℕ) (f : A → ItemValue) (write : A → List ℕ) (read : Reader A) (Fits : A → Type 0) (field : IsField write read Fits)
    (same : (a : A) → word ++ write a ≡ item_text (f a)) (fits : (a : A) → Fits a → IsItem (f a)) where
  kind_takes : (text behind : List ℕ) (i : ItemValue) (rest : List ℕ) → text ≡ word ++ behind → seen f read behind ≡ Ok (i, rest) → (text ≡ item_text i ++ rest) × IsItem i
  kind_takes text behind i rest split e =
      let a = bind_ok (read behind) (λ a. Ok (f a.0, a.1)) (i, rest) e in
      let t = field.takes behind a.0.0 a.0.1 a.1 in
      let whole : text ≡ item_text (f a.0.0) ++ a.0.1 =
      split ∙ ap (λ (w : List ℕ). word ++ w) t.0 ∙ sym (append_assoc word (write a.0.0) a.0.1) ∙ ap (λ (w : List ℕ). w ++ a.0.1) (same a.0.0) in
      let made : ItemValue × List ℕ = (f a.0.0, a.0.1) in
      subst (λ (y : ItemValue × List ℕ). (text ≡ item_text y.0 ++ y.1) × IsItem y.0) (ok_is made (i, rest) a.2) (whole, fits a.0.0 t.1)

  kind_again : (a : A) (rest : List ℕ) → Fits a → seen f read (write a ++ rest) ≡ Ok (f a, rest)
  kind_again a rest h = rw (field.again a rest h) refl

abbrev check_item : CheckKind → ℕ × CheckFields → ItemValue
check_item kind p = item_of p.0 (records (check_of kind p.1))

abbrev commit_item : ℕ × CommitFields → ItemValue
commit_item p = item_of p.0 (commits (commit_of p.1))

abbrev declared_item : ℕ × List ℕ → ItemValue
declared_item p = item_of p.0 (declares p.1)

item_takes : (text : List ℕ) (i : ItemValue) (rest : List ℕ) → item_at text ≡ Ok (i, rest) → (text ≡ item_text i ++ rest) × IsItem i
unfolding item_at declared_at committed_at checked_at
item_takes text i rest e =
    elim (word_or_ok (word_at (codes "declaration ") text) declared_at
    (word_or (word_at (codes "commit ") text) committed_at (word_or (word_at (codes "check ") text) (checked_at Check) (behind (codes "content ") (checked_at Content) text))) (i, rest) e) [
      | inl h ↦ kind_takes (codes "declaration ") declared_item (λ p. number_line p.0 ++ text_line p.1) (both (number_to 10) text_at) (λ p. (p.0 < 2 ^ 64) × (length p.1 < 2 ^ 64)) (line_and text_is) (λ a. refl) (λ a x. x)
          text h.0 i rest (at_takes (codes "declaration ") text h.0 h.1) h.2
      | inr h ↦ elim (word_or_ok (word_at (codes "commit ") text) committed_at (word_or (word_at (codes "check ") text) (checked_at Check) (behind (codes "content ") (checked_at Content) text)) (i, rest) h.1) [
        | inl k ↦ kind_takes (codes "commit ") commit_item (λ p. number_line p.0 ++ commit_text (commit_of p.1)) (both (number_to 10) commit_fields_at) (λ p. (p.0 < 2 ^ 64) × CommitFits p.1) (line_and commit_field) (λ a. refl) commit_fits
            text k.0 i rest (at_takes (codes "commit ") text k.0 k.1) k.2
        | inr k ↦ elim (word_or_ok (word_at (codes "check ") text) (checked_at Check) (behind (codes "content ") (checked_at Content) text) (i, rest) k.1) [
          | inl l ↦ of_kind Check (codes "check ") (λ a. refl) l.0 (at_takes (codes "check ") text l.0 l.1) l.2
          | inr l ↦
              let b = bind_ok (after_word (codes "content ") text) (checked_at Content) (i, rest) l.1 in
              of_kind Content (codes "content ") (λ a. refl) b.0 (word_takes (codes "content ") text b.0 b.1) b.2
        ]
      ]
    ]
  where
    commit_fits : (a : ℕ × CommitFields) → (a.0 < 2 ^ 64) × CommitFits a.1 → IsItem (commit_item a)
    commit_fits a x = (x.0, record { at = x.1.0; adds = x.1.1.0; removes = x.1.1.1 })

    of_kind : (kind : CheckKind) (word : List ℕ) → ((a : ℕ × CheckFields) → word ++ (number_line a.0 ++ check_text (check_of kind a.1)) ≡ item_text (check_item kind a)) → (behind : List ℕ) → text ≡ word ++ behind
        → seen (check_item kind) (both (number_to 10) check_fields_at) behind ≡ Ok (i, rest) → (text ≡ item_text i ++ rest) × IsItem i
    of_kind kind word same behind split e = kind_takes word (check_item kind) (λ p. number_line p.0 ++ check_text (check_of kind p.1)) (both (number_to 10) check_fields_at) (λ p. (p.0 < 2 ^ 64) × CheckFits p.1) (line_and (check_field kind)) same (λ a x. (x.0, check_fits kind a.1 x.1))
        text behind i rest split e

item_again : (i : ItemValue) (rest : List ℕ) → IsItem i → item_at (item_text i ++ rest) ≡ Ok (i, rest)
unfolding item_at declared_at committed_at checked_at
item_again i rest fits = again i.line i.said fits.0 fits.1
  where
    of_kind : (kind : CheckKind) (line : ℕ) (p : CheckFields) → line < 2 ^ 64 → CheckFits p → item_at (item_text (check_item kind (line, p)) ++ rest) ≡ Ok (check_item kind (line, p), rest)
    of_kind Check line p lt h = kind_again (codes "check ") (check_item Check) (λ p. number_line p.0 ++ check_text (check_of Check p.1)) (both (number_to 10) check_fields_at) (λ p. (p.0 < 2 ^ 64) × CheckFits p.1) (line_and (check_field Check)) (λ a. refl) (λ a x. (x.0, check_fits Check a.1 x.1))
        (line, p) rest (lt, h)
    of_kind Content line p lt h = kind_again (codes "content ") (check_item Content) (λ p. number_line p.0 ++ check_text (check_of Content p.1)) (both (number_to 10) check_fields_at) (λ p. (p.0 < 2 ^ 64) × CheckFits p.1) (line_and (check_field Content)) (λ a. refl) (λ a x. (x.0, check_fits Content a.1 x.1))
        (line, p) rest (lt, h)

    again : (line : ℕ) (said : SaidValue) → line < 2 ^ 64 → IsSaid said → item_at (item_text (item_of line said) ++ rest) ≡ Ok (item_of line said, rest)
    again line (declares t) lt h = kind_again (codes "declaration ") declared_item (λ p. number_line p.0 ++ text_line p.1) (both (number_to 10) text_at) (λ p. (p.0 < 2 ^ 64) × (length p.1 < 2 ^ 64)) (line_and text_is) (λ a. refl) (λ a x. x)
        (line, t) rest (lt, h)
    again line (commits c) lt h = kind_again (codes "commit ") commit_item (λ p. number_line p.0 ++ commit_text (commit_of p.1)) (both (number_to 10) commit_fields_at) (λ p. (p.0 < 2 ^ 64) × CommitFits p.1) (line_and commit_field) (λ a. refl) (λ a x. (x.0, record { at = x.1.0; adds = x.1.1.0; removes = x.1.1.1 }))
        (line, (c.at, (c.adds, c.removes))) rest (lt, (h.at, (h.adds, h.removes)))
    again line (records e) lt h = of_kind e.kind line (fields_of e) lt (fits_check e h)

item_field : IsField item_text item_at IsItem
item_field = record { takes = item_takes; again = item_again }

-- ---- the body

abbrev BodyFits : CarryFields → Type 0
BodyFits p = (p.0 < 2 ^ 64) × (((p.1.0.0 < 2 ^ 64) × (p.1.0.1 < 2 ^ 64)) × (IfThere (λ t. length t < 2 ^ 64) p.1.1.0 × ((length p.1.1.1 < 2 ^ 64) × AllByRecursion IsItem p.1.1.1)))

known_field : IsField (λ (p : ℕ × ℕ). known_text p.0 p.1) known_at (λ p. (p.0 < 2 ^ 64) × (p.1 < 2 ^ 64))
unfolding known_at
known_field = pair (worded (codes "base ") (number_is 10 refl)) (worded (codes "versions ") (number_is 10 refl))

body_field : IsField (λ p. body_text (carry_of p)) body_at BodyFits
unfolding body_at
body_field =
    pair (worded (codes "lines ") (number_is 10 refl))
    (pair known_field
    (pair (perhaps (codes "no carry before\n") (codes "before ") (λ rest. refl) text_is)
    (worded (codes "items ") (listed item_field))))

abbrev pub carry_fields : CarryValue → CarryFields
carry_fields c = (c.lines, ((c.base, c.versions), (c.before, c.items)))

fits_body : (c : CarryValue) → IsInForm c → BodyFits (carry_fields c)
fits_body c h = (h.lines, ((h.base, h.versions), (h.before, h.items)))

pub body_again : (c : CarryValue) (rest : List ℕ) → IsInForm c → body_at (body_text c ++ rest) ≡ Ok (carry_fields c, rest)
body_again c rest h = body_field.again (carry_fields c) rest (fits_body c h)

ended : {A : Type 0} (n : ℕ) (d : FieldFault) (x y : A) → cond (eqb n 0) (Ok x) (Err d) ≡ Ok y → (n ≡ 0) × (x ≡ y)
ended n d x y e = let g = guard_ok (eqb n 0) (Ok x) d y e in (eqb-true _ _ g.0, ok_is x y g.1)

pub whole_takes : (text : List ℕ) (c : CarryValue) → whole_body text ≡ Ok c → (text ≡ body_text c) × IsInForm c
unfolding whole_body
whole_takes text c e =
    let a = bind_ok (body_at text) (λ c. cond (eqb (length c.1) 0) (Ok (carry_of c.0)) (Err (Left (length c.1)))) c e in
    let t = body_field.takes text a.0.0 a.0.1 a.1 in
    let done = ended (length a.0.1) (Left (length a.0.1)) (carry_of a.0.0) c a.2 in
    let whole : text ≡ body_text (carry_of a.0.0) = t.0 ∙ ap (λ (r : List ℕ). body_text (carry_of a.0.0) ++ r) (nil_from_length a.0.1 done.0) ∙ append-nil (body_text (carry_of a.0.0)) in
    subst (λ (y : CarryValue). (text ≡ body_text y) × IsInForm y) done.1 (whole, record { lines = t.1.0; base = t.1.1.0.0; versions = t.1.1.0.1; before = t.1.1.1.0; items = t.1.1.1.1 })

pub whole_again : (c : CarryValue) → IsInForm c → whole_body (body_text c) ≡ Ok c
unfolding whole_body
whole_again c h =
    let read : body_at (body_text c) ≡ Ok (carry_fields c, []) = ap body_at (sym (append-nil (body_text c))) ∙ body_again c [] h in
    rw read refl
