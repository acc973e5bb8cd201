-- Where an entry stands before another.
use Rattle.std.proofs.Common.{◌≡◌, ℕ, ◌<◌, get_or, Some, arith, ap}
use Rattle.std.specs.Prelude.{slice_get}
use Rattle.std.specs.List.Sorted.{IsStrictlyIncreasing}
use Rattle.std.proofs.lemmas.List.{get_or-map, length-map}
use Rattle.std.proofs.lemmas.List.Kept.{AllPairs-from_increasing}
use Rattle.std.proofs.lemmas.Option.{slice_get_within, get_or_from_slice_get}
use Rattle.trace_lines.specs.Values.{EntryValue, TraceValue, entry_lines}

-- an entry before another stands on an earlier line
module _ (t : TraceValue) (rising : IsStrictlyIncreasing (entry_lines t.entries)) where
  pub line_before : (i j : ℕ) (e c : EntryValue) → slice_get t.entries i ≡ Some e → slice_get t.entries j ≡ Some c → j < i → c.line < e.line
  line_before i j e c at there lt =
      let within = slice_get_within t.entries i e at in
      let long = length-map t.entries (λ (x : EntryValue). x.line) in
      let up = AllPairs-from_increasing (entry_lines t.entries) rising j i 0 lt (omega (arith, within, long)) in
      let a = get_or-map (λ (x : EntryValue). x.line) t.entries i e 0 within in
      let b = get_or-map (λ (x : EntryValue). x.line) t.entries j c 0 (omega (arith, lt, within)) in
      let a' : (get_or t.entries i e).line ≡ e.line = ap (λ (x : EntryValue). x.line) (get_or_from_slice_get t.entries i e e at) in
      let b' : (get_or t.entries j c).line ≡ c.line = ap (λ (x : EntryValue). x.line) (get_or_from_slice_get t.entries j c c there) in
      omega (arith, up, a, b, a', b')
