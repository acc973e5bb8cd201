use Rattle.std.proofs.Common.{◌≡◌, ◌<◌, ℕ, suc, List, true, Some}
use Rattle.std.specs.Prelude.{slice_get}
use Rattle.namespaces.specs.Declaring.{declares}
use Rattle.namespaces.specs.Numbers.{Has}
use Rattle.rewrites.specs.Parts.{computed_names}
use Rattle.wide_rules.proofs.declaring.declaring_one.Given as goal

-- those that declare one of the relations so far are there
abbrev pub invariant-loop-k : goal.invariant-loop-k
invariant-loop-k l =
    (i : ℕ) (relation : List ℕ) → i < l.k → slice_get (computed_names l.through) i ≡ Some relation
    → (n : ℕ) → n < 256 → declares (suc n) relation l.rules ≡ true → Has l.all (suc n)
