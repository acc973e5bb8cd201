use Rattle.std.proofs.Common.{◌≡◌, ℕ, List, ◌<◌, Some}
use Rattle.std.specs.Prelude.{Contains, slice_get}
use Rattle.rewrites.specs.Parts.{computed_names}
use Rattle.wide_rules.proofs.covers.reads_all.Given as goal

-- each so far is read by the cover
abbrev pub invariant-loop-k : goal.invariant-loop-k
invariant-loop-k l =
    (i : ℕ) (c : List ℕ) → i < l.k → slice_get (computed_names l.through) i ≡ Some c → Contains (computed_names l.cover) c
