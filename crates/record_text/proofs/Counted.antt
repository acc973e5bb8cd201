-- Counting that stops at the largest number.
use Rattle.std.proofs.Common.{◌≡◌, ℕ, ◌+◌, ◌-◌, ◌^◌, ◌<◌, ◌≤◌, min, List, [], ◌∷◌, length, arith}
use Rattle.serde_json.specs.Data.{Data, array}
use Rattle.serde_json.specs.View.{items_of}
use Rattle.serde_json.specs.Written.{compact_text}
use Rattle.record_text.proofs.Lengths.{later_length, length-array}

abbrev pub most : ℕ
most = 2 ^ 64 - 1

-- nothing is left to count
pub counted_all : (count left whole : ℕ) → count ≤ most → min (count + left) most ≡ min whole most → left ≡ 0 → count ≡ min whole most
counted_all count left whole fits e none = omega (arith, e, none, fits)

-- of a list that is not empty
pub counted_list : (count left : ℕ) (ds : List Data) → 0 < length ds → count ≤ most → min (count + left) most ≡ min (1 + later_length ds) most → left ≡ 0 → count ≡ min (length (compact_text (array (items_of ds)))) most
counted_list count left [] some fits e none = absurd (omega arith)
counted_list count left (d ∷ ds) some fits e none = omega (arith, e, none, fits, length-array d ds)

-- a part more
pub counted_more : (count part more total : ℕ) → count ≡ min part most → total ≡ min (count + more) most → total ≡ min (part + more) most
counted_more count part more total e f = omega (arith, e, f)
