-- What the types of a trace keep.
use Rattle.std.specs.Prelude.{◌≡◌, ℕ, ◌<◌, ◌≤◌, List, length, take, drop, slice_get, All, Option, Some}
use Rattle.std.specs.List.Sorted.{IsStrictlyIncreasing}
use Rattle.version_chains.specs.Commits.{Commit}
use Rattle.trace_lines.specs.Values.{EntryValue, entry_lines}
use Rattle.trace_lines.specs.Versions.{content_of}

-- The commits on earlier lines are as many as the entry says. The lines are those of all commits.
pub record IsPlaced (lines : List ℕ) (e : EntryValue) : Type 0 where
  pub counted : e.before ≤ length lines
  pub earlier : All (λ l. l < e.line) (take e.before lines)
  pub later : All (λ l. e.line < l) (drop e.before lines)

-- lines rise, each entry stands behind the commits before it, and the contents say which one issued the version that
-- it names
pub record IsKept (commits : List Commit) (lines : List ℕ) (es : List EntryValue) (contents : List (Option ℕ)) :
    Type 0 where
  pub counted : length lines ≡ length commits
  pub commits_rise : IsStrictlyIncreasing lines
  pub entries_rise : IsStrictlyIncreasing (entry_lines es)
  pub placed : All (IsPlaced lines) es
  pub named : (i : ℕ) → i < length es → slice_get contents i ≡ Some (content_of es i)
