-- Slots as one list, whose tags and places stand in two. No public clause cites this module.
use Rattle.std.specs.Prelude.{ℕ, List, [], ◌∷◌, Option, None, Some}
use Rattle.marks.specs.declared.slots.Slot.{Slot}

abbrev pub free_slot : Slot
free_slot = record { tag = 0; place = 0 }

-- each tag beside its place
abbrev pub slots_of : List ℕ → List ℕ → List Slot
slots_of [] places = []
slots_of (tag ∷ tags) [] = []
slots_of (tag ∷ tags) (place ∷ places) = record { tag = tag; place = place } ∷ slots_of tags places

abbrev pub place_of : Option Slot → ℕ
place_of None = 0
place_of (Some s) = s.place
