-- The tuples of all commits, and some of them that stand for all.
use Rattle.std.specs.Prelude.{◌≡◌, ℕ, ◌≤◌, ◌^◌, ◌-◌, List, [], length, None}
use Rattle.tuple_text.specs.Tuples.{TupleValue}
use Rattle.namespaces.specs.Declaration.{Declaration}
use Rattle.namespaces.specs.WellFormed.{IsWellFormed}
use Rattle.namespaces.specs.Changing.{IsLater}
use Rattle.version_chains.specs.Commits.{Commit, added, changelog}
use Rattle.version_chains.specs.Appends.{late_fault, last_at}
use Rattle.strata.specs.Edges.{HasNoBrokenEdge}
use Rattle.edge_checks.specs.Sampled.{Represents}

-- no edge is broken, of the rules nor of the tuples ever added, and a commit that is later than all others is later
-- than each change
pub record IsOrderly (ds : List Declaration) (commits : List Commit) (sample : List TupleValue) : Type 0 where
  pub well_formed : IsWellFormed ds
  pub unbroken : HasNoBrokenEdge ds (added commits)
  pub sampled : Represents sample (added commits)
  pub empty : length commits ≡ 0 → sample ≡ []
  pub later : (at : ℕ) → late_fault (last_at commits) at ≡ None → IsLater at ds
  pub touches : length (changelog commits) ≤ 2 ^ 32 - 1
