-- Tables of values by number.
use Rattle.std.specs.Prelude.{ℕ, List, map}
use Rattle.std.specs.List.{range_with_len}

-- f of each of count numbers, in order
abbrev pub named_from : {X : Type 0} → (ℕ → X) → ℕ → ℕ → List X
named_from f from count = map f (range_with_len from count)
