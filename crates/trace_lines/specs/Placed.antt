-- How commits stand in a trace.
use Rattle.std.specs.Prelude.{◌≡◌, length, map, All}
use Rattle.std.specs.List.Sorted.{IsStrictlyIncreasing}
use Rattle.version_chains.specs.Commits.{TouchesOnce}
use Rattle.trace_lines.specs.Kept.{IsPlaced}
use Rattle.trace_lines.specs.Values.{TraceValue}

-- Each commit has its line, lines and timestamps rise, and no commit touches a tuple twice.
pub record HasPlacedCommits (t : TraceValue) : Type 0 where
  pub counted : length t.commit_lines ≡ length t.commits
  pub lines : IsStrictlyIncreasing t.commit_lines
  pub timestamps : IsStrictlyIncreasing (map (λ c. c.at) t.commits)
  pub once : All TouchesOnce t.commits

-- and each entry stands behind the commits before it, and in front of the others
pub record AreInPlace (t : TraceValue) : Type 0 where
  pub commits : HasPlacedCommits t
  pub entries : All (IsPlaced t.commit_lines) t.entries
