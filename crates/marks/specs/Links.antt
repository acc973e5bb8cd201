-- How places are linked by their marks, and found in the table of marks. No public clause cites this module.
use Rattle.std.specs.Prelude.{◌≡◌, ◌≤◌, ◌-◌, ◌*◌, ◌/◌, ◌%◌, ◌^◌, max, ℕ, zero, suc, Bool, true, ◌&&◌, ◌||◌, cond, List, length, slice_get, Option, None, Some, nat_eq, unwrap_or}
use Rattle.std.specs.Ordering.{nat_cmp}
use Rattle.std.specs.BTreeMap.{BTreeMap, get}
use Rattle.marks.specs.Placed.{last_place, passes}
use Rattle.marks.specs.Slots.{place_of}
use Rattle.marks.specs.declared.slots.Slot.{Slot}
use Rattle.marks.specs.declared.table.Table.{Table}

-- how many slots a probe may have
abbrev pub longest : ℕ
longest = 16

-- where a mark's probe begins: as far among so many starts as the mark is among all of 64 bits
abbrev pub start_of : ℕ → ℕ → ℕ
start_of mark starts = mark * starts / 2 ^ 64

-- a mark's tag; 0 is the tag of free slots alone
abbrev pub tag_of : ℕ → ℕ
tag_of mark = max (mark % 2 ^ 8) 1

-- the mark at a place; places count from 1
abbrev pub mark_at : List ℕ → ℕ → Option ℕ
mark_at marks zero = None
mark_at marks (suc i) = slice_get marks i

abbrev pub has_mark : List ℕ → ℕ → ℕ → Bool
has_mark marks place mark = passes (λ m. nat_eq m mark) (mark_at marks place)

-- whether a slot is the mark's
abbrev pub is_of : List ℕ → ℕ → Slot → Bool
is_of marks mark s = nat_eq s.tag (tag_of mark) && has_mark marks s.place mark

-- whether the mark's probe goes no further than this slot
abbrev pub stops : List ℕ → ℕ → Slot → Bool
stops marks mark s = nat_eq s.tag 0 || is_of marks mark s

-- the first of so many items from an index on that passes, counted from 1; 0 where there is none
abbrev pub first_from : {X : Type 0} → (X → Bool) → List X → ℕ → ℕ → ℕ
first_from p xs zero at = 0
first_from p xs (suc n) at = cond (passes p (slice_get xs at)) (suc at) (first_from p xs n (suc at))

-- the slot at which the mark's probe ends, counted from 1; 0 where it meets neither the mark's slot nor a free one
abbrev pub probe_in : ℕ → List ℕ → List Slot → ℕ → ℕ
probe_in longest marks slots mark = first_from (stops marks mark) slots longest (start_of mark (length slots - (longest - 1)))

-- the place at a slot, or where there is none in the tree of the rest; 0 is no place
abbrev pub place_in : List Slot → BTreeMap ℕ ℕ → ℕ → ℕ → ℕ
place_in slots rest mark zero = unwrap_or (get nat_cmp rest mark) 0
place_in slots rest mark (suc i) = place_of (slice_get slots i)

abbrev pub newest_in : ℕ → List ℕ → List Slot → BTreeMap ℕ ℕ → ℕ → ℕ
newest_in longest marks slots rest mark = place_in slots rest mark (probe_in longest marks slots mark)

-- the newest place of a mark
abbrev pub newest_of : List ℕ → Table → ℕ → ℕ
newest_of marks table mark = newest_in longest marks table.slots table.rest mark

-- each slot is where the probe of its mark ends, and no mark whose probe ends at a slot is in the tree
pub record AreProbed (longest : ℕ) (marks : List ℕ) (slots : List Slot) (rest : BTreeMap ℕ ℕ) : Type 0 where
  pub within : (i : ℕ) (s : Slot) → slice_get slots i ≡ Some s → s.place ≤ length marks
  pub free : (i : ℕ) (s : Slot) → slice_get slots i ≡ Some s → s.tag ≡ 0 → s.place ≡ 0
  pub ends : (i mark : ℕ) (s : Slot) → slice_get slots i ≡ Some s → has_mark marks s.place mark ≡ true → probe_in longest marks slots mark ≡ suc i
  pub apart : (mark i : ℕ) → probe_in longest marks slots mark ≡ suc i → get nat_cmp rest mark ≡ None

abbrev pub IsTable : List ℕ → Table → Type 0
IsTable marks table = AreProbed longest marks table.slots table.rest

-- a place is of a mark, or no place
abbrev pub IsPlaceOf : List ℕ → ℕ → ℕ → Type 0
IsPlaceOf marks mark place = (i : ℕ) → place ≡ suc i → slice_get marks i ≡ Some mark

-- the table in which a place became a mark's newest
pub record IsSet (marks more : List ℕ) (old new : Table) (mark place : ℕ) : Type 0 where
  pub table : IsTable more new
  pub newest : (m : ℕ) → newest_of more new m ≡ cond (nat_eq m mark) place (newest_of marks old m)

-- each mark has the place before it with the same mark, and the table the newest place of each
pub record AreLinked (marks older : List ℕ) (table : Table) : Type 0 where
  pub probed : IsTable marks table
  pub even : length older ≡ length marks
  pub earlier : (i mark place : ℕ) → slice_get marks i ≡ Some mark → slice_get older i ≡ Some place
      → place ≡ last_place (nat_eq mark) marks i
  pub latest : (mark : ℕ) → newest_of marks table mark ≡ last_place (nat_eq mark) marks (length marks)
