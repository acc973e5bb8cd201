-- Three texts, put one behind the other, are its parts again.
use Rattle.std.proofs.Common.{◌≡◌, ℕ, ◌+◌, List, ◌++◌, length, take, drop, refl, sym, ap, subst, ◌∙◌, append_assoc, arith, length-append}
use Rattle.std.specs.Str.{IsUtf8}
use Rattle.std.proofs.Math.Seq.{take-append_seam, drop-append_seam}
use Rattle.std.proofs.lemmas.Str.{IsCharBoundary-from_take, IsUtf8-drop}
use Rattle.tuple_text.specs.Sets.{SetValue}
use Rattle.tuple_text.specs.Joined.{split_set, IsSplit}

module _ (n i r text : List ℕ) (is : text ≡ (n ++ i) ++ r) where
  whole : text ≡ n ++ (i ++ r)
  whole = is ∙ append_assoc n i r

  front : take (length n) text ≡ n
  front = ap (take (length n)) whole ∙ take-append_seam n (i ++ r)

  behind : drop (length n) text ≡ i ++ r
  behind = ap (drop (length n)) whole ∙ drop-append_seam n (i ++ r)

  abbrev parts : SetValue
  parts = record { namespace = n; id = i; relation = r }

  pub joined_parts : split_set text (length n) (length i) ≡ parts
  joined_parts = rw (front, behind, take-append_seam i r, drop-append_seam i r) refl

  -- each text may be split from those behind it
  pub joined_split : IsUtf8 n → IsUtf8 (n ++ i) → IsUtf8 text → IsSplit text (length n) (length i)
  joined_split u v w =
      let size = length-append n i in
      let sum = length-append i r in
      let all : length text ≡ length (n ++ i) + length r = ap length is ∙ length-append (n ++ i) r in
      let first = IsCharBoundary-from_take text (length n) w (omega (arith, size, all)) (subst IsUtf8 (sym front) u) in
      let rest : IsUtf8 (i ++ r) = subst IsUtf8 behind (IsUtf8-drop text (length n) w first) in
      let alone = IsCharBoundary-from_take (n ++ i) (length n) v (omega (arith, size)) (subst IsUtf8 (sym (take-append_seam n i)) u) in
      let id : IsUtf8 i = subst IsUtf8 (drop-append_seam n i) (IsUtf8-drop (n ++ i) (length n) v alone) in
      (first, rw behind (IsCharBoundary-from_take (i ++ r) (length i) rest (omega (arith, sum)) (subst IsUtf8 (sym (take-append_seam i r)) id)))
