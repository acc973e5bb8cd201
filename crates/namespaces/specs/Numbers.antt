-- Sets of namespaces, by their numbers.
use Rattle.std.specs.Prelude.{◌≡◌, ◌%◌, ℕ, nat_lt, if◌then◌else◌}
use Rattle.std.specs.Int.{bit_at}
use Rattle.namespaces.specs.declared.number_set.Numbers.{Numbers}

-- the half of a set in which the bit of a number stands
abbrev pub half_of : Numbers → ℕ → ℕ
half_of s n = if nat_lt (n % 256) 128 then s.low else s.high

-- a set has a number, or one that is the same up to 256
abbrev pub Has : Numbers → ℕ → Type 0
Has s n = bit_at (half_of s n) (n % 128) ≡ 1
