-- The bytes that a reader gave, and what it is known to have had left.
use Rattle.std.proofs.Common.{◌≡◌, ℕ, ◌+◌, ◌<◌, List, [], ◌++◌, length, take, Option, Some, None, Result, Ok, Err, arith, refl, sym, ap, subst, ◌∙◌, inl, inr, append_assoc, append-nil, length-append, ◌⊎◌}
use Rattle.std.specs.Prelude.{IfSome}
use Rattle.std.specs.Io.KnownBytes.{Consumes, ReadConsumes, Keeps, Appends, WriteAppends}
use Rattle.std.proofs.KnownBytes.{Consumes-nil, Consumes-trans, Consumes-kept, Consumes-all, Appends-trans}
use Rattle.std.proofs.lemmas.Bool.{cases_lt}
use Rattle.std.proofs.lemmas.Grind.{common_steps}
use Rattle.std.proofs.lemmas.List.{append_cancel_left, nil_from_length}
use Rattle.devices.specs.Given.{OfBytes, OfWhole, OfInput, AreNext, StandBehind}
use Rattle.devices.specs.Moves.{moved, stops_after}

-- a fact from another, of the same bytes
pub of_bytes-map : {R : Type 0} (given : R → List ℕ) (old new : R) (P Q : List ℕ → Type 0) → ((came : List ℕ) → P came → Q came) → OfBytes given old new P → OfBytes given old new Q
of_bytes-map given old new P Q f h = (h.0, h.1, f h.0 h.2)

pub of_input-map : {R : Type 0} (given : R → List ℕ) (ends : R → ℕ) (old new : R) (P Q : List ℕ → Type 0) → ((input : List ℕ) → P input → Q input)
    → OfInput given ends old new P → OfInput given ends old new Q
of_input-map given ends old new P Q f h = (h.0, h.1, λ rest ended. f (h.0 ++ rest) (h.2 rest ended))

pub of_whole-map : {R : Type 0} (given : R → List ℕ) (ends : R → ℕ) (old new : R) (P Q : List ℕ → Type 0) → ((input : List ℕ) → P input → Q input)
    → OfWhole given ends old new P → OfWhole given ends old new Q
of_whole-map given ends old new P Q f h = (h.0, of_bytes-map given old new P Q f h.1)

-- a whole input is the only one that a reader may have
pub of_input-whole : {R : Type 0} (given : R → List ℕ) (ends : R → ℕ) (old new : R) (P : List ℕ → Type 0) → OfWhole given ends old new P → OfInput given ends old new P
of_input-whole given ends old new P h =
    (h.1.0, h.1.1, λ rest ended. let none : rest ≡ [] = ended (omega (arith, h.0)) in rw none (subst P (sym (append-nil h.1.0)) h.1.2))

-- a reader that was at its end has given its whole input
pub of_ended : {R : Type 0} (given : R → List ℕ) (ends : R → ℕ) (old new : R) (P : List ℕ → Type 0) → ends new ≡ ends old + 1 → OfInput given ends old new P → OfWhole given ends old new P
of_ended given ends old new P is h = (is, (h.0, h.1, subst P (append-nil h.0) (h.2 [] (λ _. refl))))

at_end_none : (n count before after : ℕ) → after ≡ stops_after {E = ℕ} (Ok n) count before → before < after → n ≡ 0
at_end_none n count before after is lt = grind (arith, common_steps)

at_end_room : (n count before after : ℕ) → after ≡ stops_after {E = ℕ} (Ok n) count before → before < after → 0 < count
at_end_room n count before after is lt = grind (arith, common_steps)

-- what came at first, and then
both_came : (a b c : Option (List ℕ)) (one two : List ℕ) (ended_first ended_then : Type 0) → Consumes a b one → Consumes b c two
    → (ended_first → IfSome a (λ left. one ≡ left)) → (ended_then → IfSome b (λ left. two ≡ left)) → ended_first ⊎ ended_then → IfSome a (λ left. one ++ two ≡ left)
both_came None b c one two ef et p q f t e = tt
both_came (Some xs) None c one two ef et p q f t e = absurd p
both_came (Some xs) (Some ys) None one two ef et p q f t e = absurd q
both_came (Some xs) (Some ys) (Some zs) one two ef et p q f t (inl e) =
    let whole : one ≡ xs = f e in
    let size : length xs ≡ length one + length ys = ap length p ∙ length-append one ys in
    let rest : length ys ≡ length two + length zs = ap length q ∙ length-append two zs in
    let none : two ≡ [] = nil_from_length two (omega (arith, size, rest, ap length whole)) in
    rw none (append-nil one ∙ whole)
both_came (Some xs) (Some ys) (Some zs) one two ef et p q f t (inr e) = rw (t e) (sym p)

module _ {R : Type 0} (given : R → List ℕ) (ends : R → ℕ) (remaining : R → Option (List ℕ)) where
  pub next-refl : (r : R) → AreNext given ends remaining r r
  next-refl r = ([], sym (append-nil (given r)), (Consumes-nil (remaining r), λ lt. absurd (omega (arith, lt))))

  pub by_give : {E : Type 0} (old new : R) (result : Result ℕ E) (buf : List ℕ) → given new ≡ given old ++ moved result buf → ends new ≡ stops_after result (length buf) (ends old)
      → ReadConsumes (remaining old) (remaining new) result buf → AreNext given ends remaining old new
  by_give old new (Ok n) buf came stops read = (
    take n buf,
    came,
    (read.0, λ lt. Consumes-all (remaining old) (remaining new) (take n buf) [] (take n buf) read.0 (read.1 (at_end_none n (length buf) (ends old) (ends new) stops lt) (at_end_room n (length buf) (ends old) (ends new) stops lt)) refl),
  )
  by_give old new (Err e) buf came stops kept = (
    [],
    came,
    (Consumes-kept (remaining old) (remaining old) (remaining new) [] (Consumes-nil (remaining old)) kept, λ lt. absurd (omega (arith, lt, stops))),
  )

  pub next-trans : (a b c : R) → AreNext given ends remaining a b → AreNext given ends remaining b c → AreNext given ends remaining a c
  next-trans a b c one two = (
    one.0 ++ two.0,
    two.1 ∙ ap (λ (l : List ℕ). l ++ two.0) one.1 ∙ append_assoc (given a) one.0 two.0,
    (
      Consumes-trans (remaining a) (remaining b) (remaining c) one.0 two.0 one.2.0 two.2.0,
      λ lt. both_came (remaining a) (remaining b) (remaining c) one.0 two.0 (ends a < ends b) (ends b < ends c) one.2.0 two.2.0 one.2.1 two.2.1 (rises lt),
    ),
  )
    where
      rises : ends a < ends c → (ends a < ends b) ⊎ (ends b < ends c)
      rises lt = elim (cases_lt (ends b) (ends c)) [
        | inl later ↦ inr later
        | inr le ↦ inl (omega (arith, lt, le))
      ]

  at_some : (o : Option (List ℕ)) (left : List ℕ) (P : List ℕ → Type 0) → o ≡ Some left → IfSome o P → P left
  at_some None left P is h = cc
  at_some (Some xs) left P is h = let same : xs ≡ left = cc in subst P same h

  left_of : (a b : Option (List ℕ)) (left came : List ℕ) → a ≡ Some left → Consumes a b came → (rest : List ℕ) × (left ≡ came ++ rest)
  left_of None b left came is h = cc
  left_of (Some xs) None left came is h = absurd h
  left_of (Some xs) (Some ys) left came is h = let same : xs ≡ left = cc in (ys, sym same ∙ h)

  -- a fact of every input that a reader may have is one of the bytes that it is known to have
  pub of_known : (P : List ℕ → Type 0) (old new : R) (left : List ℕ) → remaining old ≡ Some left → AreNext given ends remaining old new → OfInput given ends old new P → P left
  of_known P old new left is known holds =
      let same : known.0 ≡ holds.0 = append_cancel_left (given old) known.0 holds.0 (sym known.1 ∙ holds.1) in
      let cut = left_of (remaining old) (remaining new) left known.0 is known.2.0 in
      let nothing : ends old < ends new → cut.0 ≡ [] = λ lt. append_cancel_left known.0 cut.0 [] (sym cut.1 ∙ sym (at_some (remaining old) left (λ l. known.0 ≡ l) is (known.2.1 lt)) ∙ sym (append-nil known.0)) in
      subst P (ap (λ (l : List ℕ). l ++ cut.0) (sym same) ∙ sym cut.1) (holds.2 cut.0 nothing)

  pub of_known_whole : (P : List ℕ → Type 0) (old new : R) (left : List ℕ) → remaining old ≡ Some left → AreNext given ends remaining old new → OfWhole given ends old new P → P left
  of_known_whole P old new left is known holds = of_known P old new left is known (of_input-whole given ends old new P holds)

kept_behind : (a b : Option (List ℕ)) → Keeps a b → Appends a b []
kept_behind None b h = tt
kept_behind (Some xs) None h = absurd h
kept_behind (Some xs) (Some ys) h = h ∙ sym (append-nil xs)

module _ {W : Type 0} (taken : W → List ℕ) (contents : W → Option (List ℕ)) where
  pub by_take_some : {E : Type 0} (old new : W) (result : Result ℕ E) (buf : List ℕ) → taken new ≡ taken old ++ moved result buf
      → WriteAppends (contents old) (contents new) result buf → StandBehind taken contents old new
  by_take_some old new (Ok n) buf went held = (take n buf, went, held)
  by_take_some old new (Err e) buf went kept = ([], went, kept_behind (contents old) (contents new) kept)

  pub by_finish : (old new : W) → taken new ≡ taken old → Keeps (contents old) (contents new) → StandBehind taken contents old new
  by_finish old new went kept = ([], went ∙ sym (append-nil (taken old)), kept_behind (contents old) (contents new) kept)

  pub behind-trans : (a b c : W) → StandBehind taken contents a b → StandBehind taken contents b c → StandBehind taken contents a c
  behind-trans a b c one two = (
    one.0 ++ two.0,
    two.1 ∙ ap (λ (l : List ℕ). l ++ two.0) one.1 ∙ append_assoc (taken a) one.0 two.0,
    Appends-trans (contents a) (contents b) (contents c) one.0 two.0 one.2 two.2,
  )
