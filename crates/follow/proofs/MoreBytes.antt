-- What a reader gave in two calls.
use Rattle.std.proofs.Common.{◌≡◌, ◌∙◌, ◌+◌, ◌≤◌, ◌++◌, ℕ, List, length, ap, append_assoc, arith, length-append, sym}
use Rattle.devices.specs.Given.{OfBytes}

module _ {R : Type 0} (given : R → List ℕ) (first now new : R) (bytes : List ℕ) (is : given now ≡ given first ++ bytes) where
  pub more_bytes : (max n : ℕ) → length bytes ≤ max → OfBytes given now new (λ came. length came ≤ n)
      → OfBytes given first new (λ came. length came ≤ max + n)
  more_bytes max n few h = (
    bytes ++ h.0,
    h.1 ∙ ap (λ (l : List ℕ). l ++ h.0) is ∙ append_assoc (given first) bytes h.0,
    omega (arith, length-append bytes h.0, few, h.2),
  )

  pub behind_bytes : (all : List ℕ) → OfBytes given now new (λ came. all ≡ bytes ++ came) → given new ≡ given first ++ all
  behind_bytes all h =
      h.1 ∙ ap (λ (l : List ℕ). l ++ h.0) is ∙ append_assoc (given first) bytes h.0
      ∙ ap (λ (l : List ℕ). given first ++ l) (sym h.2)

pub came_at_most : {R : Type 0} (given : R → List ℕ) (now new : R) (m n : ℕ) → m ≤ n → OfBytes given now new (λ came. length came ≤ m)
    → OfBytes given now new (λ came. length came ≤ n)
came_at_most given now new m n few h = (h.0, h.1, omega (arith, few, h.2))
