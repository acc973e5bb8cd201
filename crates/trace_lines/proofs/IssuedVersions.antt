-- Which entry issued a version, and after one entry more.
use Rattle.std.proofs.Common.{◌≡◌, ℕ, ◌+◌, ◌<◌, Bool, true, false, cond, List, [], ◌∷◌, ◌++◌, length, map, suc, zero, take, drop, get_or, Option, Some, None, arith, refl, sym, ap, subst, ◌∙◌, inl, inr}
use Rattle.std.specs.Prelude.{slice_get, IfSome}
use Rattle.std.specs.List.{position_from}
use Rattle.std.specs.Option.{option_or}
use Rattle.std.proofs.lemmas.Bool.{cases_Bool}
use Rattle.std.proofs.lemmas.List.{length-take, take-append-drop, map-append, append-nil}
use Rattle.std.proofs.lemmas.Option.{same_Some, none-some, option_and_then_some, slice_get_within, slice_get-get_or, slice_get-map, get_or_from_slice_get}
use Rattle.std.proofs.Math.ListN.{get_or-append}
use Rattle.tuple_text.specs.Sets.{SetValue}
use Rattle.tuple_text.proofs.ValueLemmas.{set_eq-same, set_eq-itself}
use Rattle.marks.proofs.PlacedLemmas.{slice_get-cases}
use Rattle.trace_lines.specs.Issued.{Issue, issue_in_front, issued_from, issued_by, AreIssued}
use Rattle.trace_lines.specs.VersionMarks.{version_mark}
use Rattle.trace_lines.specs.Values.{EntryValue}
use Rattle.trace_lines.specs.Versions.{Version, version_eq, is_version, version_issued, version_named, entry_version, issues, issuer, content_among, content_of, AreIssuedOnce}
use Rattle.trace_lines.specs.declared.entry.EntryKind.{EntryKind}
use Rattle.trace_lines.specs.declared.entry.EntryKind.TheVariants.{Check, Content}
use Rattle.trace_lines.specs.declared.versions.Versions.{Versions}

abbrev label_set : Version → SetValue
label_set v = record { namespace = v.namespace; id = v.id; relation = v.label }

-- versions that compare alike are the same
pub version_eq-same : (x y : Version) → version_eq x y ≡ true → x ≡ y
version_eq-same x y h =
    let same : label_set x ≡ label_set y = set_eq-same (label_set x) (label_set y) h in
    λ i. record { namespace = (same i).namespace; id = (same i).id; label = (same i).relation }

version_eq-itself : (x : Version) → version_eq x x ≡ true
version_eq-itself x = set_eq-itself (label_set x)

-- the first place, where one item more comes last
position_from-push : {X : Type 0} (test : X → Bool) (n : ℕ) (xs : List X) (x : X)
    → position_from test n (xs ++ x ∷ []) ≡ option_or (position_from test n xs) (cond (test x) (Some (n + length xs)) None)
position_from-push test n [] x = elim (cases_Bool (test x)) [
  | inl t ↦ let e : n + 0 ≡ n = omega arith in rw (t, e) refl
  | inr f ↦ rw f refl
]
position_from-push test n (y ∷ ys) x = elim (cases_Bool (test y)) [
  | inl t ↦ rw t refl
  | inr f ↦ let e : n + 1 + length ys ≡ n + length (y ∷ ys) = omega arith in rw (f, position_from-push test (n + 1) ys x, e) refl
]

pub issuer-push : (es : List EntryValue) (e : EntryValue) (v : Version) → issuer (es ++ e ∷ []) v ≡ option_or (issuer es v) (cond (issues v e) (Some (length es)) None)
issuer-push es e v = position_from-push (issues v) 0 es e ∙ ap (λ (n : ℕ). option_or (issuer es v) (cond (issues v e) (Some n) None)) (from_nothing (length es))
  where
    from_nothing : (n : ℕ) → 0 + n ≡ n
    from_nothing n = omega arith

option_or-none : {X : Type 0} (o : Option X) → option_or o None ≡ o
option_or-none None = refl
option_or-none (Some x) = refl

-- ---- the versions that are kept

-- what issues a version names it
issues_this : (v : Version) (k : EntryKind) (o : Option Version) → is_version v (version_issued k o) ≡ true → o ≡ Some v
issues_this v Check o h = cc
issues_this v Content None h = cc
issues_this v Content (Some w) h = ap Some (sym (version_eq-same v w h))

-- an entry more
issued_from-push : (n : ℕ) (es : List EntryValue) (e : EntryValue) → issued_from n (es ++ e ∷ []) ≡ issued_from n es ++ issue_in_front (n + length es) (version_issued e.kind (entry_version e)) []
issued_from-push n [] e = ap (λ (k : ℕ). issue_in_front k (version_issued e.kind (entry_version e)) []) (let same : n ≡ n + 0 = omega arith in same)
issued_from-push n (x ∷ xs) e =
    by (version_issued x.kind (entry_version x))
    (issued_from-push (n + 1) xs e ∙ ap (λ (k : ℕ). issued_from (n + 1) xs ++ issue_in_front k (version_issued e.kind (entry_version e)) []) (let same : n + 1 + length xs ≡ n + length (x ∷ xs) = omega arith in same))
  where
    last : List Issue
    last = issue_in_front (n + length (x ∷ xs)) (version_issued e.kind (entry_version e)) []

    by : (o : Option Version) → issued_from (n + 1) (xs ++ e ∷ []) ≡ issued_from (n + 1) xs ++ last
        → issue_in_front n o (issued_from (n + 1) (xs ++ e ∷ [])) ≡ issue_in_front n o (issued_from (n + 1) xs) ++ last
    by None h = h
    by (Some v) h = ap (λ (is : List Issue). record { number = n; version = v } ∷ is) h

-- what no entry issues has no issuer
none_issued : (v : Version) (n : ℕ) (es : List EntryValue) → ((i : ℕ) (x : Issue) → slice_get (issued_from n es) i ≡ Some x → version_eq v x.version ≡ false) → position_from (issues v) n es ≡ None
none_issued v n [] none = refl
none_issued v n (e ∷ es) none = by (version_issued e.kind (entry_version e)) refl none (none_issued v (n + 1) es)
  where
    by : (o : Option Version) → version_issued e.kind (entry_version e) ≡ o
        → ((i : ℕ) (x : Issue) → slice_get (issue_in_front n o (issued_from (n + 1) es)) i ≡ Some x → version_eq v x.version ≡ false)
        → (((i : ℕ) (x : Issue) → slice_get (issued_from (n + 1) es) i ≡ Some x → version_eq v x.version ≡ false) → position_from (issues v) (n + 1) es ≡ None)
        → position_from (issues v) n (e ∷ es) ≡ None
    by None is h further = rw is (further h)
    by (Some w) is h further = rw (is, h 0 (record { number = n; version = w }) refl) (further (λ i. h (suc i)))

pub not_issued : (v : Version) (es : List EntryValue) → ((i : ℕ) (x : Issue) → slice_get (issued_by es) i ≡ Some x → version_eq v x.version ≡ false) → issuer es v ≡ None
not_issued v es none = none_issued v 0 es none

-- equal versions have equal marks
pub version_mark-same : (v : Version) (x : Issue) → version_eq v x.version ≡ true → version_mark v ≡ version_mark x.version
version_mark-same v x h = ap version_mark (version_eq-same v x.version h)

-- versions of which nothing changed
pub unchanged_issued : (es : List EntryValue) (old now : Versions) → AreIssued old es → now.entries.items ≡ old.entries.items → now.marks ≡ old.marks → AreIssued now es
unchanged_issued es old now are numbers marks = record { numbers = numbers ∙ are.numbers; marks = marks ∙ are.marks; once = are.once }

module _ (es : List EntryValue) (e : EntryValue) (old : Versions) (are : AreIssued old es) where
  -- who issued a version stays the one who did
  still_issued : (k : ℕ) (x : Issue) → slice_get (issued_by es) k ≡ Some x → issuer (es ++ e ∷ []) x.version ≡ Some x.number
  still_issued k x here = issuer-push es e x.version ∙ rw (are.once k x here) refl

  -- an entry that issues nothing
  pub issued_on : version_issued e.kind (entry_version e) ≡ None → AreIssued old (es ++ e ∷ [])
  issued_on none =
      let same : issued_by (es ++ e ∷ []) ≡ issued_by es = issued_from-push 0 es e ∙ rw none (append-nil (issued_by es)) in
      record {
        numbers = are.numbers ∙ ap (map (λ (x : Issue). x.number)) (sym same);
        marks = are.marks ∙ ap (map (λ (x : Issue). version_mark x.version)) (sym same);
        once = λ k x here. still_issued k x (sym (ap (λ (xs : List Issue). slice_get xs k) same) ∙ here);
      }

  -- one that issues a version for the first time
  pub issued_more : (now : Versions) (v : Version) → version_issued e.kind (entry_version e) ≡ Some v → issuer es v ≡ None
      → now.entries.items ≡ old.entries.items ++ length es ∷ [] → now.marks ≡ old.marks ++ version_mark v ∷ [] → AreIssued now (es ++ e ∷ [])
  issued_more now v some new numbers marks =
      let issue : Issue = record { number = length es; version = v } in
      let more : issued_by (es ++ e ∷ []) ≡ issued_by es ++ issue ∷ [] = issued_from-push 0 es e ∙ rw some (ap (λ (n : ℕ). issued_by es ++ record { number = n; version = v } ∷ []) (let same : 0 + length es ≡ length es = omega arith in same)) in
      let first : issuer (es ++ e ∷ []) v ≡ Some (length es) = issuer-push es e v ∙ rw (new, some, version_eq-itself v) refl in
      record {
        numbers = numbers ∙ rw (are.numbers, more) (sym (map-append (λ (x : Issue). x.number) (issued_by es) (issue ∷ [])));
        marks = marks ∙ rw (are.marks, more) (sym (map-append (λ (x : Issue). version_mark x.version) (issued_by es) (issue ∷ [])));
        once = λ k x here. elim (slice_get-cases (issued_by es) issue k x (sym (ap (λ (xs : List Issue). slice_get xs k) more) ∙ here)) [
          | inl there ↦ still_issued k x there
          | inr last ↦ subst (λ (y : Issue). issuer (es ++ e ∷ []) y.version ≡ Some y.number) last.1 first
        ];
      }

-- ---- who issues a version

pub issued_here : (v : Version) (o : Option Version) → is_version v o ≡ true → o ≡ Some v
issued_here v None h = cc
issued_here v (Some w) h = ap Some (sym (version_eq-same v w h))

issued_at : (n : ℕ) (es : List EntryValue) (j : ℕ) (e : EntryValue) (v : Version) → slice_get es j ≡ Some e → issues v e ≡ true
    → (k : ℕ) × (slice_get (issued_from n es) k ≡ Some (record { number = n + j; version = v }))
issued_at n [] j e v at h = cc
issued_at n (x ∷ xs) zero e v at h =
    let here : version_issued x.kind (entry_version x) ≡ Some v =
    issued_here v (version_issued x.kind (entry_version x)) (ap (issues v) (same_Some x e at) ∙ h) in
    let number : n ≡ n + 0 = omega arith in
    (0, rw here (ap (λ (m : ℕ). Some (record { number = m; version = v })) number))
issued_at n (x ∷ xs) (suc j) e v at h =
    let later = issued_at (n + 1) xs j e v at h in
    let number : n + 1 + j ≡ n + suc j = omega arith in
    by later.0 (later.1 ∙ ap (λ (m : ℕ). Some (record { number = m; version = v })) number) (version_issued x.kind (entry_version x))
  where
    by : (k : ℕ) → slice_get (issued_from (n + 1) xs) k ≡ Some (record { number = n + suc j; version = v }) → (o : Option Version)
        → (k : ℕ) × (slice_get (issue_in_front n o (issued_from (n + 1) xs)) k ≡ Some (record { number = n + suc j; version = v }))
    by k there None = (k, there)
    by k there (Some w) = (suc k, there)

pub issued_once : (old : Versions) (es : List EntryValue) → AreIssued old es → AreIssuedOnce es
issued_once old es are v i j d e at there first second =
    let a = issued_at 0 es i d v at first in
    let b = issued_at 0 es j e v there second in
    let same = same_Some (0 + i) (0 + j) (sym (are.once a.0 _ a.1) ∙ are.once b.0 _ b.1) in
    omega (arith, same)

-- ---- what a check means

-- an item that passes, and the place that it has
record Found {X : Type 0} (test : X → Bool) (xs : List X) (n j : ℕ) : Type 0 where
  place : ℕ
  place_is : j ≡ n + place
  item : X
  there : slice_get xs place ≡ Some item
  passes : test item ≡ true

position_from-found : {X : Type 0} (test : X → Bool) (n : ℕ) (xs : List X) (j : ℕ) → position_from test n xs ≡ Some j → Found test xs n j
position_from-found test n [] j h = absurd (none-some j h)
position_from-found test n (x ∷ xs) j h = elim (cases_Bool (test x)) [
  | inl t ↦
      let here : Some n ≡ Some j = sym (rw t refl) ∙ h in
      record { place = 0; place_is = let same = same_Some n j here in omega (arith, same); item = x; there = refl; passes = t }
  | inr f ↦
      let later = position_from-found test (n + 1) xs j (sym (rw f refl) ∙ h) in
      record { place = suc later.place; place_is = omega (arith, later.place_is); item = later.item; there = later.there; passes = later.passes }
]

-- what stands among the first items
pub slice_get-take : {X : Type 0} (i : ℕ) (xs : List X) (k : ℕ) (x : X) → slice_get (take i xs) k ≡ Some x → (k < i) × (slice_get xs k ≡ Some x)
slice_get-take i xs k x h =
    let within = slice_get_within (take i xs) k x h in
    let len = length-take i xs in
    let at : get_or (take i xs) k x ≡ x = get_or_from_slice_get (take i xs) k x x h in
    let same : get_or xs k x ≡ x = ap (λ (l : List _). get_or l k x) (sym (take-append-drop i xs)) ∙ get_or-append (take i xs) (drop i xs) x k within ∙ at in
    (omega (arith, within, len), slice_get-get_or xs k x (omega (arith, within, len)) ∙ ap Some same)

-- the entry that a check means stands before it, and issued the version
pub record Means (es : List EntryValue) (v : Version) (i j : ℕ) : Type 0 where
  pub earlier : j < i
  pub content : EntryValue
  pub there : slice_get es j ≡ Some content
  pub issued : issues v content ≡ true

issuer-means : (es : List EntryValue) (v : Version) (i j : ℕ) → issuer (take i es) v ≡ Some j → Means es v i j
issuer-means es v i j h =
    let found = position_from-found (issues v) 0 (take i es) j h in
    let at = slice_get-take i es found.place found.item found.there in
    let place : found.place ≡ j = omega (arith, found.place_is) in
    record {
      earlier = omega (arith, at.0, place);
      content = found.item;
      there = ap (λ (k : ℕ). slice_get es k) (sym place) ∙ at.1;
      issued = found.passes;
    }

-- the version that a check means, and the entry
pub content_of-means : (es : List EntryValue) (i j : ℕ) → content_of es i ≡ Some j → (v : Version) × Means es v i j
content_of-means es i j h =
    option_and_then_some (content_among (take i es)) (slice_get es i) j h
    (λ e _ among. option_and_then_some (issuer (take i es)) (version_named e.kind (entry_version e)) j among (λ v _ by. (v, issuer-means es v i j by)))

pub named_content-means : (es : List EntryValue) (i j : ℕ) (e : EntryValue) (v : Version) → slice_get es i ≡ Some e → version_named e.kind (entry_version e) ≡ Some v → content_of es i ≡ Some j → Means es v i j
named_content-means es i j e v at named h = issuer-means es v i j (sym (rw (at, named) refl) ∙ h)

pub content_of-earlier : (es : List EntryValue) (i : ℕ) (o : Option ℕ) → o ≡ content_of es i → IfSome o (λ j. j < i)
content_of-earlier es i None e = tt
content_of-earlier es i (Some j) e = (content_of-means es i j (sym e)).1.earlier

pub content_among-within : (es : List EntryValue) (e : EntryValue) (o : Option ℕ) → o ≡ content_among es e → IfSome o (λ n. n < length es)
content_among-within es e None h = tt
content_among-within es e (Some n) h =
    option_and_then_some (issuer es) (version_named e.kind (entry_version e)) n (sym h)
    (λ v _ by.
    let found = position_from-found (issues v) 0 es n by in
    let within = slice_get_within es found.place found.item found.there in
    omega (arith, within, found.place_is))

-- ---- what stands at a place

slice_get-within_some : {X : Type 0} (xs : List X) (i : ℕ) → i < length xs → slice_get xs i ≡ None → ⊥
slice_get-within_some [] i h e = omega (arith, h)
slice_get-within_some (x ∷ xs) zero h e = none-some x (sym e)
slice_get-within_some (x ∷ xs) (suc i) h e = slice_get-within_some xs i (omega (arith, h)) e

pub record IsPlace (versions : Versions) (es : List EntryValue) (m : ℕ) : Type 0 where
  pub issue : Issue
  pub here : slice_get (issued_by es) m ≡ Some issue
  pub number : slice_get versions.entries.items m ≡ Some issue.number
  pub entry : EntryValue
  pub there : slice_get es issue.number ≡ Some entry
  pub names : entry_version entry ≡ Some issue.version

pub at_place : (versions : Versions) (es : List EntryValue) (m : ℕ) → AreIssued versions es → m < length (issued_by es) → IsPlace versions es m
at_place versions es m are within = by (slice_get (issued_by es) m) refl
  where
    by : (o : Option Issue) → slice_get (issued_by es) m ≡ o → IsPlace versions es m
    by None none = absurd (slice_get-within_some (issued_by es) m within none)
    by (Some x) here =
        let found = position_from-found (issues x.version) 0 es x.number (are.once m x here) in
        let place : found.place ≡ x.number = omega (arith, found.place_is) in
        record {
          issue = x;
          here = here;
          number = ap (λ (ns : List ℕ). slice_get ns m) are.numbers ∙ slice_get-map (λ (y : Issue). y.number) (issued_by es) m ∙ rw here refl;
          entry = found.item;
          there = ap (λ (k : ℕ). slice_get es k) (sym place) ∙ found.there;
          names = issues_this x.version found.item.kind (entry_version found.item) found.passes;
        }
