-- A text that goes on, and the usersets that stand in it.
use Rattle.std.proofs.Common.{◌≡◌, ℕ, ◌+◌, ◌-◌, ◌≤◌, List, [], ◌++◌, length, take, drop, refl, sym, ◌∙◌, ap, subst, append_assoc, arith, length-append, inl, inr}
use Rattle.std.specs.Prelude.{slice_range}
use Rattle.std.specs.Str.{IsCharBoundary, IsUtf8}
use Rattle.std.proofs.Math.Seq.{take-append_seam, drop-append_seam}
use Rattle.std.proofs.Math.Nat.{eq-or-lt_of_le}
use Rattle.std.proofs.Math.ListN.{get_or-append}
use Rattle.std.proofs.lemmas.List.{append-nil, drop-append-le, take-append-le, length-drop}
use Rattle.std.proofs.lemmas.Str.{IsUtf8-append, IsUtf8-drop, IsUtf8-nil, IsCharBoundary-at_seam, IsCharBoundary-end, IsCharBoundary-from_take}
use Rattle.version_chains.specs.Texts.{GoesOn, IsSpan, id_at, relation_at, end_at, set_in}
use Rattle.version_chains.specs.declared.texts.Span.{Span}

pub goes_on-nowhere : (old new : List ℕ) → new ≡ old → GoesOn old new
goes_on-nowhere old new same = record { more = []; is = same ∙ sym (append-nil old); utf8 = IsUtf8-nil }

pub goes_on-by : (old new more : List ℕ) → new ≡ old ++ more → IsUtf8 more → GoesOn old new
goes_on-by old new more is utf8 = record { more = more; is = is; utf8 = utf8 }

-- what stands behind a text in a text is a text
pub utf8-behind : (old new more : List ℕ) → new ≡ old ++ more → IsUtf8 old → IsUtf8 new → IsUtf8 more
utf8-behind old new more is front whole =
    let size = ap length is ∙ length-append old more in
    let cut = IsCharBoundary-from_take new (length old) whole (omega (arith, size)) (subst IsUtf8 (sym (ap (take (length old)) is ∙ take-append_seam old more)) front) in
    subst IsUtf8 (ap (drop (length old)) is ∙ drop-append_seam old more) (IsUtf8-drop new (length old) whole cut)

pub goes_on-further : (a b c : List ℕ) → GoesOn a b → GoesOn b c → GoesOn a c
goes_on-further a b c first second = record {
  more = first.more ++ second.more;
  is = second.is ∙ ap (λ (bs : List ℕ). bs ++ second.more) first.is ∙ append_assoc a first.more second.more;
  utf8 = IsUtf8-append first.more second.more first.utf8 second.utf8;
}

-- where the old text may be cut, the longer one may be, and what stands before that is the same
boundary-kept : (old more : List ℕ) (i : ℕ) → IsUtf8 more → IsCharBoundary old i → IsCharBoundary (old ++ more) i
boundary-kept old more i utf8 is = elim (eq-or-lt_of_le is.0) [
  | inl at ↦ subst (IsCharBoundary (old ++ more)) (sym at) (IsCharBoundary-at_seam (old ++ more) old more refl utf8)
  | inr less ↦ (
    let size = length-append old more in omega (arith, less, size),
    λ _ high. subst (λ (b : ℕ). 192 ≤ b) (sym (get_or-append old more 0 i less)) (is.1 less (subst (λ (b : ℕ). 128 ≤ b) (get_or-append old more 0 i less) high)),
  )
]

range-kept : (old more : List ℕ) (a b : ℕ) → a ≤ b → b ≤ length old → slice_range (old ++ more) a b ≡ slice_range old a b
range-kept old more a b order within =
    let size = length-drop a old in
    ap (take (b - a)) (drop-append-le a old more (omega (arith, order, within)))
    ∙ take-append-le (b - a) (drop a old) more (omega (arith, size, order, within))

-- a userset that stands in the old text
module _ (old new : List ℕ) (on : GoesOn old new) (p : Span) (is : IsSpan old p) where
  there : (i : ℕ) → IsCharBoundary old i → IsCharBoundary new i
  there i b = subst (λ (bs : List ℕ). IsCharBoundary bs i) (sym on.is) (boundary-kept old on.more i on.utf8 b)

  pub span-kept : IsSpan new p
  span-kept = record { first = there p.at is.first; second = there (id_at p) is.second; third = there (relation_at p) is.third; last = there (end_at p) is.last }

  same : (a b : ℕ) → a ≤ b → b ≤ length old → slice_range new a b ≡ slice_range old a b
  same a b order within = ap (λ (bs : List ℕ). slice_range bs a b) on.is ∙ range-kept old on.more a b order within

  pub set-kept : set_in new p ≡ set_in old p
  set-kept = λ i. record {
    namespace = same p.at (id_at p) (omega arith) is.second.0 i;
    id = same (id_at p) (relation_at p) (omega arith) is.third.0 i;
    relation = same (relation_at p) (end_at p) (omega arith) is.last.0 i;
  }

-- a part that stands between two texts
range-between : (xs part ys : List ℕ) → slice_range (xs ++ (part ++ ys)) (length xs) (length xs + length part) ≡ part
range-between xs part ys =
    let size : length xs + length part - length xs ≡ length part = omega arith in
    rw (size, drop-append_seam xs (part ++ ys)) (take-append_seam part ys)

-- a userset that was put behind the old text
module _ (old n i r new : List ℕ) (is : new ≡ ((old ++ n) ++ i) ++ r) (un : IsUtf8 n) (ui : IsUtf8 i) (ur : IsUtf8 r) (p : Span) (at : p.at ≡ length old)
    (ns : p.namespace_len ≡ length n) (is_id : p.id_len ≡ length i) (rs : p.relation_len ≡ length r) where
  from_first : new ≡ old ++ (n ++ (i ++ r))
  from_first = is ∙ append_assoc (old ++ n) i r ∙ append_assoc old n (i ++ r)

  from_second : new ≡ (old ++ n) ++ (i ++ r)
  from_second = is ∙ append_assoc (old ++ n) i r

  second : id_at p ≡ length (old ++ n)
  second = let size = length-append old n in omega (arith, size, at, ns)

  third : relation_at p ≡ length ((old ++ n) ++ i)
  third = let size = length-append (old ++ n) i in omega (arith, size, second, is_id)

  last : end_at p ≡ length new
  last = let size = length-append ((old ++ n) ++ i) r in let all = ap length is in omega (arith, size, all, third, rs)

  pub span-pushed : IsSpan new p
  span-pushed = record {
    first = subst (IsCharBoundary new) (sym at) (IsCharBoundary-at_seam new old (n ++ (i ++ r)) from_first (IsUtf8-append n (i ++ r) un (IsUtf8-append i r ui ur)));
    second = subst (IsCharBoundary new) (sym second) (IsCharBoundary-at_seam new (old ++ n) (i ++ r) from_second (IsUtf8-append i r ui ur));
    third = subst (IsCharBoundary new) (sym third) (IsCharBoundary-at_seam new ((old ++ n) ++ i) r is ur);
    last = subst (IsCharBoundary new) (sym last) (IsCharBoundary-end new);
  }

  part : (xs piece ys : List ℕ) (a b : ℕ) → new ≡ xs ++ (piece ++ ys) → a ≡ length xs → b ≡ a + length piece → slice_range new a b ≡ piece
  part xs piece ys a b whole from to =
      let end : b ≡ length xs + length piece = omega (arith, from, to) in
      rw (whole, from, end) (range-between xs piece ys)

  pub set-pushed : set_in new p ≡ record { namespace = n; id = i; relation = r }
  set-pushed = λ j. record {
    namespace = part old n (i ++ r) p.at (id_at p) from_first at (ap (λ (k : ℕ). p.at + k) ns) j;
    id = part (old ++ n) i r (id_at p) (relation_at p) from_second second (ap (λ (k : ℕ). id_at p + k) is_id) j;
    relation = part ((old ++ n) ++ i) r [] (relation_at p) (end_at p) (is ∙ ap (λ (bs : List ℕ). ((old ++ n) ++ i) ++ bs) (sym (append-nil r))) third (ap (λ (k : ℕ). relation_at p + k) rs) j;
  }
