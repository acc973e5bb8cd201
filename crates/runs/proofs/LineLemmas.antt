-- Commits by their lines, one by one.
use Rattle.std.proofs.Common.{◌≡◌, ℕ, zero, suc, ◌<◌, List, [], ◌∷◌, length, map, Some, refl, ap, arith}
use Rattle.std.specs.Prelude.{slice_get}
use Rattle.version_chains.specs.Commits.{Commit}
use Rattle.token_order.specs.Order.{CommitLine, on_lines}

pub lines_long : (ls : List ℕ) (cs : List Commit) → length ls ≡ length cs → length (on_lines ls cs) ≡ length cs
lines_long [] [] e = refl
lines_long [] (c ∷ cs) e = absurd (omega (arith, e))
lines_long (l ∷ ls) [] e = absurd (omega (arith, e))
lines_long (l ∷ ls) (c ∷ cs) e = ap suc (lines_long ls cs (omega (arith, e)))

-- the commit at a place, by its line and its timestamp
pub record IsLineAt (ls : List ℕ) (cs : List Commit) (i : ℕ) (x : CommitLine) : Type 0 where
  pub there : slice_get (on_lines ls cs) i ≡ Some x
  pub line : slice_get ls i ≡ Some x.line
  pub time : slice_get (map (λ (c : Commit). c.at) cs) i ≡ Some x.at

pub line_there : (ls : List ℕ) (cs : List Commit) → length ls ≡ length cs → (i : ℕ) → i < length cs
    → (x : CommitLine) × IsLineAt ls cs i x
line_there [] [] e i lt = absurd (omega (arith, lt))
line_there [] (c ∷ cs) e i lt = absurd (omega (arith, e))
line_there (l ∷ ls) [] e i lt = absurd (omega (arith, e))
line_there (l ∷ ls) (c ∷ cs) e zero lt =
    (record { line = l; at = c.at }, record { there = refl; line = refl; time = refl })
line_there (l ∷ ls) (c ∷ cs) e (suc i) lt =
    let rest = line_there ls cs (omega (arith, e)) i (omega (arith, lt)) in
    (rest.0, record { there = rest.1.there; line = rest.1.line; time = rest.1.time })
