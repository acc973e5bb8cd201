-- The slices of the entries.
use Rattle.std.specs.Prelude.{◌≡◌, ℕ, ◌+◌, ◌-◌, ◌*◌, ◌/◌, ◌%◌, ◌<◌, ◌≤◌, min, List, length, slice_index_or}
use Rattle.std.specs.List.{flat_map, range_with_len}
use Rattle.slice_yard.specs.declared.slices.Slice.{Slice}

abbrev pub slice_number : Slice → ℕ
slice_number s = s.number

abbrev pub first_entry : Slice → ℕ
first_entry s = s.from

abbrev pub slice_len : Slice → ℕ
slice_len s = s.count

-- its entries are below n
abbrev pub IsWithin : ℕ → Slice → Type 0
IsWithin n s = s.from + s.count ≤ n

abbrev pub slice_count : ℕ → ℕ → ℕ
slice_count entries size = entries / size + min 1 (entries % size)

-- it is slice number k
pub record IsSliceOf (entries size k : ℕ) (s : Slice) : Type 0 where
  pub number : s.number ≡ k
  pub from : s.from ≡ k * size
  pub count : s.count ≡ min size (entries - k * size)

-- slice number k stands at place k
abbrev pub IsNumbered : List Slice → Type 0
IsNumbered xs = (k : ℕ) (d : Slice) → k < length xs → (slice_index_or xs k d).number ≡ k

-- the entries of these slices, in order
abbrev pub entries_of : List Slice → List ℕ
entries_of xs = flat_map (λ x. range_with_len x.from x.count) xs
