-- Where an entry stands among the commits. No public clause cites this module.
use Rattle.std.specs.Prelude.{◌≡◌, ℕ, ◌<◌, ◌≤◌, List, length, map, take, drop, All}
use Rattle.std.specs.List.Sorted.{IsStrictlyIncreasing}
use Rattle.version_chains.specs.Commits.{Commit}
use Rattle.trace_lines.specs.Values.{EntryValue, TraceValue}

-- an entry stands behind so many commits of a trace, whose times are these
pub record StandsAmong (t : TraceValue) (e : EntryValue) (times : List ℕ) : Type 0 where
  pub counted : length t.commit_lines ≡ length t.commits
  pub within : e.before ≤ length t.commits
  pub earlier : All (λ l. l < e.line) (take e.before t.commit_lines)
  pub later : All (λ l. e.line < l) (drop e.before t.commit_lines)
  pub are : times ≡ map (λ (c : Commit). c.at) t.commits
  pub rising : IsStrictlyIncreasing times
