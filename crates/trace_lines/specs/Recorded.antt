-- What a trace keeps of its entries.
use Rattle.std.specs.Prelude.{ℕ, List, map, Option}
use Rattle.trace_lines.specs.Values.{EntryValue}

-- an entry, and the number of the one that issued the version which it names
pub record Recorded : Type 0 where
  pub entry : EntryValue
  pub content : Option ℕ

abbrev pub shown : List Recorded → List EntryValue
shown rs = map (λ r. r.entry) rs

abbrev pub contents : List Recorded → List (Option ℕ)
contents rs = map (λ r. r.content) rs
