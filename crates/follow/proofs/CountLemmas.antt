-- How many entries are not audited, as they are counted.
use Rattle.std.proofs.Common.{◌≡◌, ◌+◌, ℕ, Bool, List, true, false, Some, ap, arith, drop, length}
use Rattle.std.specs.Prelude.{filter, slice_get}
use Rattle.trace_lines.specs.Values.{EntryValue}
use Rattle.runs.proofs.WalkLemmas.{kept_at, passed_at}

module _ (test : EntryValue → Bool) (es : List EntryValue) (i : ℕ) (e : EntryValue) (at : slice_get es i ≡ Some e) (count n : ℕ)
    (counted : count + length (filter test (drop i es)) ≡ n) where
  pub counted_one : test e ≡ true → (count + 1) + length (filter test (drop (i + 1) es)) ≡ n
  counted_one passes =
      let more = ap (λ (xs : List EntryValue). length xs) (kept_at test es i e at passes) in
      omega (arith, more, counted)

  pub counted_none : test e ≡ false → count + length (filter test (drop (i + 1) es)) ≡ n
  counted_none fails =
      let same = ap (λ (xs : List EntryValue). length xs) (passed_at test es i e at fails) in
      omega (arith, same, counted)
