-- Sets of namespaces.
use Rattle.std.proofs.Common.{◌≡◌, ℕ, zero, suc, ◌*◌, ◌%◌, ◌^◌, Bool, true, false, ◌⊎◌, inl, inr, refl, sym, ◌∙◌, ap, bit_and, bit_or, nat_lt, arith}
use Rattle.std.specs.Int.{bit_at, w128}
use Rattle.std.specs.Prelude.{if◌then◌else◌}
use Rattle.std.proofs.Math.Nat.{mod-mod}
use Rattle.std.proofs.lemmas.Bool.{cases_eq, ltb-true, ltb-false}
use Rattle.std.proofs.lemmas.Nat.Bits.{bit_at-lt, bit_at-zero, bit_at_and, bit_at_or, bit_at_set_same, bit_at_set_other}
use Rattle.namespaces.specs.Numbers.{Has}
use Rattle.namespaces.specs.declared.number_set.Numbers.{Numbers}

pub or_first : (a b i : ℕ) → bit_at a i ≡ 1 → bit_at (bit_or a b) i ≡ 1
or_first a b i e = omega (arith, bit_at_or a b i, bit_at-lt a i, bit_at-lt b i, e)

pub or_second : (a b i : ℕ) → bit_at b i ≡ 1 → bit_at (bit_or a b) i ≡ 1
or_second a b i e = omega (arith, bit_at_or a b i, bit_at-lt a i, bit_at-lt b i, e)

-- no bit is in both where what they share is nothing
none_in_both : (a b i : ℕ) → bit_and a b ≡ 0 → bit_at a i ≡ 1 → bit_at b i ≡ 1 → ⊥
none_in_both a b i none one other =
    let shared : bit_at (bit_and a b) i ≡ 0 = ap (λ (n : ℕ). bit_at n i) none ∙ bit_at-zero i in
    absurd (omega (arith, shared, bit_at_and a b i, one, other))

pub or_either : (a b i : ℕ) → bit_at (bit_or a b) i ≡ 1 → (bit_at a i ≡ 1) ⊎ (bit_at b i ≡ 1)
or_either a b i e = by_bit (bit_at a i) refl
  where
    by_bit : (k : ℕ) → bit_at a i ≡ k → (bit_at a i ≡ 1) ⊎ (bit_at b i ≡ 1)
    by_bit zero is = inr (omega (arith, bit_at_or a b i, bit_at-lt b i, e, is))
    by_bit (suc k) is = inl (omega (arith, bit_at-lt a i, is))

-- no number is in nothing
pub none_has : (n : ℕ) → Has (record { low = 0; high = 0 }) n → ⊥
none_has n = by_half (nat_lt (n % 256) 128)
  where
    by_half : (b : Bool) → bit_at (if b then 0 else 0) (n % 128) ≡ 1 → ⊥
    by_half true e = absurd (omega (arith, bit_at-zero (n % 128), e))
    by_half false e = absurd (omega (arith, bit_at-zero (n % 128), e))

module _ (s o : Numbers) (n : ℕ) where
  pub joined_only : Has (record { low = bit_or s.low o.low; high = bit_or s.high o.high }) n → Has s n ⊎ Has o n
  joined_only = by_half (nat_lt (n % 256) 128)
    where
      by_half : (b : Bool) → bit_at (if b then bit_or s.low o.low else bit_or s.high o.high) (n % 128) ≡ 1
          → (bit_at (if b then s.low else s.high) (n % 128) ≡ 1) ⊎ (bit_at (if b then o.low else o.high) (n % 128) ≡ 1)
      by_half true = or_either s.low o.low (n % 128)
      by_half false = or_either s.high o.high (n % 128)

  pub joined_has : Has s n ⊎ Has o n → Has (record { low = bit_or s.low o.low; high = bit_or s.high o.high }) n
  joined_has = by_half (nat_lt (n % 256) 128)
    where
      by_half : (b : Bool) → (bit_at (if b then s.low else s.high) (n % 128) ≡ 1) ⊎ (bit_at (if b then o.low else o.high) (n % 128) ≡ 1)
          → bit_at (if b then bit_or s.low o.low else bit_or s.high o.high) (n % 128) ≡ 1
      by_half true (inl e) = or_first s.low o.low (n % 128) e
      by_half true (inr e) = or_second s.low o.low (n % 128) e
      by_half false (inl e) = or_first s.high o.high (n % 128) e
      by_half false (inr e) = or_second s.high o.high (n % 128) e

  pub none_met : bit_and s.low o.low ≡ 0 → bit_and s.high o.high ≡ 0 → Has s n → Has o n → ⊥
  none_met low high = by_half (nat_lt (n % 256) 128)
    where
      by_half : (b : Bool) → bit_at (if b then s.low else s.high) (n % 128) ≡ 1 → bit_at (if b then o.low else o.high) (n % 128) ≡ 1 → ⊥
      by_half true = none_in_both s.low o.low (n % 128) low
      by_half false = none_in_both s.high o.high (n % 128) high

module _ (s : Numbers) (bit n : ℕ) where
  pub low_kept : Has s n → Has (record { low = bit_or s.low bit; high = s.high }) n
  low_kept = by_half (nat_lt (n % 256) 128)
    where
      by_half : (b : Bool) → bit_at (if b then s.low else s.high) (n % 128) ≡ 1 → bit_at (if b then bit_or s.low bit else s.high) (n % 128) ≡ 1
      by_half true e = or_first s.low bit (n % 128) e
      by_half false e = e

  pub high_kept : Has s n → Has (record { low = s.low; high = bit_or s.high bit }) n
  high_kept = by_half (nat_lt (n % 256) 128)
    where
      by_half : (b : Bool) → bit_at (if b then s.low else s.high) (n % 128) ≡ 1 → bit_at (if b then s.low else bit_or s.high bit) (n % 128) ≡ 1
      by_half true e = e
      by_half false e = or_first s.high bit (n % 128) e

module _ (s : Numbers) (n : ℕ) where
  low_set : bit_at (bit_or s.low (1 * 2 ^ (n % 128) % 2 ^ 128)) (n % 128) ≡ 1
  low_set = bit_at_set_same w128 s.low (n % 128) (omega arith)

  high_set : bit_at (bit_or s.high (1 * 2 ^ (n % 128) % 2 ^ 128)) (n % 128) ≡ 1
  high_set = bit_at_set_same w128 s.high (n % 128) (omega arith)

  pub low_has : nat_lt (n % 256) 128 ≡ true → Has (record { low = bit_or s.low (1 * 2 ^ (n % 128) % 2 ^ 128); high = s.high }) n
  low_has e = ap (λ (b : Bool). bit_at (if b then bit_or s.low (1 * 2 ^ (n % 128) % 2 ^ 128) else s.high) (n % 128)) e ∙ low_set

  pub high_has : nat_lt (n % 256) 128 ≡ false → Has (record { low = s.low; high = bit_or s.high (1 * 2 ^ (n % 128) % 2 ^ 128) }) n
  high_has e = ap (λ (b : Bool). bit_at (if b then s.low else bit_or s.high (1 * 2 ^ (n % 128) % 2 ^ 128)) (n % 128)) e ∙ high_set

-- numbers of one slot are in the same sets
pub of_slot : (s : Numbers) (n : ℕ) → Has s (n % 256) → Has s n
of_slot s n e =
    let slot : n % 256 % 256 ≡ n % 256 = mod-mod n 256 in
    let bit : n % 256 % 128 ≡ n % 128 = omega arith in
    ap (λ (k : ℕ). bit_at (if nat_lt (n % 256) 128 then s.low else s.high) k) (sym bit)
    ∙ ap (λ (k : ℕ). bit_at (if nat_lt k 128 then s.low else s.high) (n % 256 % 128)) (sym slot)
    ∙ e

-- a bit more is that of its number alone
module _ (s : Numbers) (number n : ℕ) where
  same_bit : n % 128 ≡ number % 128 → nat_lt (n % 256) 128 ≡ nat_lt (number % 256) 128 → n % 256 ≡ number % 256
  same_bit bit half = by_half (nat_lt (n % 256) 128) refl
    where
      by_half : (b : Bool) → nat_lt (n % 256) 128 ≡ b → n % 256 ≡ number % 256
      by_half true e = omega (arith, ltb-true (n % 256) 128 e, ltb-true (number % 256) 128 (sym half ∙ e), bit)
      by_half false e = omega (arith, ltb-false (n % 256) 128 e, ltb-false (number % 256) 128 (sym half ∙ e), bit)

  pub low_only : nat_lt (number % 256) 128 ≡ true
      → Has (record { low = bit_or s.low (1 * 2 ^ (number % 128) % 2 ^ 128); high = s.high }) n → Has s n ⊎ (n % 256 ≡ number % 256)
  low_only half = by_half (nat_lt (n % 256) 128) refl
    where
      by_half : (b : Bool) → nat_lt (n % 256) 128 ≡ b
          → bit_at (if b then bit_or s.low (1 * 2 ^ (number % 128) % 2 ^ 128) else s.high) (n % 128) ≡ 1
          → (bit_at (if b then s.low else s.high) (n % 128) ≡ 1) ⊎ (n % 256 ≡ number % 256)
      by_half true is e = elim (cases_eq (n % 128) (number % 128)) [
        | inl bit ↦ inr (same_bit bit (is ∙ sym half))
        | inr other ↦ inl (sym (bit_at_set_other w128 s.low (number % 128) (omega arith) (n % 128) other) ∙ e)
      ]
      by_half false is e = inl e

  pub high_only : nat_lt (number % 256) 128 ≡ false
      → Has (record { low = s.low; high = bit_or s.high (1 * 2 ^ (number % 128) % 2 ^ 128) }) n → Has s n ⊎ (n % 256 ≡ number % 256)
  high_only half = by_half (nat_lt (n % 256) 128) refl
    where
      by_half : (b : Bool) → nat_lt (n % 256) 128 ≡ b
          → bit_at (if b then s.low else bit_or s.high (1 * 2 ^ (number % 128) % 2 ^ 128)) (n % 128) ≡ 1
          → (bit_at (if b then s.low else s.high) (n % 128) ≡ 1) ⊎ (n % 256 ≡ number % 256)
      by_half false is e = elim (cases_eq (n % 128) (number % 128)) [
        | inl bit ↦ inr (same_bit bit (is ∙ sym half))
        | inr other ↦ inl (sym (bit_at_set_other w128 s.high (number % 128) (omega arith) (n % 128) other) ∙ e)
      ]
      by_half true is e = inl e
