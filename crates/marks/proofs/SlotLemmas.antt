-- Slots whose tags and places stand in two lists.
use Rattle.std.proofs.Common.{◌≡◌, ℕ, zero, suc, List, [], ◌∷◌, length, replicate, refl, ap, arith}
use Rattle.std.specs.Prelude.{slice_get, slice_set, option_map, unwrap_or}
use Rattle.marks.specs.Slots.{free_slot, place_of, slots_of}
use Rattle.marks.specs.declared.slots.Slot.{Slot}

pub length-slots_of : (tags places : List ℕ) → length tags ≡ length places → length (slots_of tags places) ≡ length tags
length-slots_of [] places same = refl
length-slots_of (t ∷ tags) [] same = absurd (omega (arith, same))
length-slots_of (t ∷ tags) (p ∷ places) same = ap suc (length-slots_of tags places (omega (arith, same)))

pub tag-slots_of : (tags places : List ℕ) (i : ℕ) → length tags ≡ length places → option_map (λ (s : Slot). s.tag) (slice_get (slots_of tags places) i) ≡ slice_get tags i
tag-slots_of [] places i same = refl
tag-slots_of (t ∷ tags) [] i same = absurd (omega (arith, same))
tag-slots_of (t ∷ tags) (p ∷ places) zero same = refl
tag-slots_of (t ∷ tags) (p ∷ places) (suc i) same = tag-slots_of tags places i (omega (arith, same))

pub place-slots_of : (tags places : List ℕ) (i : ℕ) → length tags ≡ length places → place_of (slice_get (slots_of tags places) i) ≡ unwrap_or (slice_get places i) 0
place-slots_of [] [] i same = refl
place-slots_of [] (p ∷ places) i same = absurd (omega (arith, same))
place-slots_of (t ∷ tags) [] i same = absurd (omega (arith, same))
place-slots_of (t ∷ tags) (p ∷ places) zero same = refl
place-slots_of (t ∷ tags) (p ∷ places) (suc i) same = place-slots_of tags places i (omega (arith, same))

pub slots_of-set : (tags places : List ℕ) (i : ℕ) (s : Slot) → length tags ≡ length places → slots_of (slice_set tags i s.tag) (slice_set places i s.place) ≡ slice_set (slots_of tags places) i s
slots_of-set [] places i s same = refl
slots_of-set (t ∷ tags) [] i s same = absurd (omega (arith, same))
slots_of-set (t ∷ tags) (p ∷ places) zero s same = refl
slots_of-set (t ∷ tags) (p ∷ places) (suc i) s same = ap (λ (ss : List Slot). record { tag = t; place = p } ∷ ss) (slots_of-set tags places i s (omega (arith, same)))

pub slots_of-replicate : (n : ℕ) → slots_of (replicate n 0) (replicate n 0) ≡ replicate n free_slot
slots_of-replicate zero = refl
slots_of-replicate (suc n) = ap (λ (ss : List Slot). free_slot ∷ ss) (slots_of-replicate n)
