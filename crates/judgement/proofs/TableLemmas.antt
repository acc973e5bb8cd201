-- One turn of a pass over the children of a rule, whose answer is that of the children that are left.
use Rattle.std.proofs.Common.{◌≡◌, ◌⊎◌, ◌↔◌, ◌<◌, ◌≤◌, ◌+◌, ℕ, Bool, true, false, IsTrue, List, length, drop, get_or, inl, inr, refl, sym, ap, ◌∙◌, add-one}
use Rattle.std.proofs.Math.Seq.{drop-cons}
use Rattle.std.proofs.lemmas.List.{drop_all}
use Rattle.rewrites.specs.Expression.{no_child, child}
use Rattle.rewrites.specs.View.{expression_of, expressions_of}
use Rattle.rewrites.specs.declared.rewrite.Rewrite.{Rewrite}

pub expressions_at : (xs : List Rewrite) (i : ℕ) (x : Rewrite) → i < length xs → x ≡ get_or xs i x → expressions_of (drop i xs) ≡ child (expression_of x) (expressions_of (drop (i + 1) xs))
expressions_at xs i x less is = rw (add-one, drop-cons xs i x less, ← is) refl

pub expressions_end : (xs : List Rewrite) (i : ℕ) → length xs ≤ i → expressions_of (drop i xs) ≡ no_child
expressions_end xs i all = ap expressions_of (drop_all i xs all)

-- an answer that is told, where what it says of a child or a rule is known
pub yes : {W : Type 0} → W → (IsTrue true ↔ W)
yes w = (λ _. w, λ _. refl)

pub no : {W : Type 0} → ¬ W → (IsTrue false ↔ W)
no none = (λ bad. absurd cc, λ w. absurd (none w))

pub refused : {W : Type 0} {r : Bool} → (IsTrue r ↔ W) → r ≡ false → ¬ W
refused says is w = let bad : true ≡ false = sym (says.1 w) ∙ is in absurd cc

-- some child does, and this one or those behind it
pub some_here : {A B W : Type 0} → ((A ⊎ B) ↔ W) → A → W
some_here both a = both.0 (inl a)

pub some_behind : {A B W : Type 0} → ((A ⊎ B) ↔ W) → ¬ A → (B ↔ W)
some_behind both none = (
  λ b. both.0 (inr b),
  λ w. elim (both.1 w) [
    | inl a ↦ absurd (none a)
    | inr b ↦ b
  ],
)

-- each child does, this one and those behind it
pub each_here : {A B W : Type 0} → ((A × B) ↔ W) → ¬ A → ¬ W
each_here both none w = none (both.1 w).0

pub each_behind : {A B W : Type 0} → ((A × B) ↔ W) → A → (B ↔ W)
each_behind both a = (λ b. both.0 (a, b), λ w. (both.1 w).1)
