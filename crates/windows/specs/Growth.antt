-- A log that grows: the trace that its first lines say, and the trace of all.
use Rattle.std.specs.Prelude.{◌≡◌, ℕ, ◌+◌, ◌<◌, ◌≤◌, Bool, true, nat_le, List, ◌++◌, map, slice_get, All, Contains, IsTrue, Option, Some}
use Rattle.std.specs.List.{list_any}
use Rattle.std.specs.List.Sorted.{IsStrictlyIncreasing}
use Rattle.namespaces.specs.Declaration.{Declaration}
use Rattle.version_chains.specs.Commits.{Commit}
use Rattle.trace_lines.specs.Placed.{HasPlacedCommits}
use Rattle.trace_lines.specs.Values.{EntryValue, TraceValue, entry_lines, next_line}
use Rattle.trace_lines.specs.Traces.{is_begun}
use Rattle.token_order.specs.Found.{open_snapshot, order_of}
use Rattle.evidence_check.specs.Judged.{judged}
use Rattle.evidence_check.specs.Steps.{StepValue}

-- The first k lines of the log of t say u: t is u and more behind it, on lines behind line k. Once u has a commit or an
-- entry, each further declaration is a change at the timestamp of a further commit.
pub record GoesOn (k : ℕ) (u t : TraceValue) : Type 0 where
  pub declarations : List Declaration
  pub commits : List Commit
  pub commit_lines : List ℕ
  pub entries : List EntryValue
  pub declared : t.declarations ≡ u.declarations ++ declarations
  pub committed : t.commits ≡ u.commits ++ commits
  pub on_lines : t.commit_lines ≡ u.commit_lines ++ commit_lines
  pub recorded : t.entries ≡ u.entries ++ entries
  pub within : next_line u ≤ k + 1
  pub commits_behind : All (λ l. k < l) commit_lines
  pub entries_behind : All (λ e. k < e.line) entries
  pub changes : is_begun u ≡ true → All (λ d. Contains (map (λ c. c.at) commits) d.at) declarations

-- each commit has its line, lines and timestamps rise, and so do the lines of entries: so it is in each trace that
-- bytes say
pub record HasRisingLines (t : TraceValue) : Type 0 where
  pub commits : HasPlacedCommits t
  pub entries : IsStrictlyIncreasing (entry_lines t.entries)

-- no further commit is at or below the timestamp
abbrev pub StaysClosed : {k : ℕ} → (u t : TraceValue) → GoesOn k u t → ℕ → Type 0
StaysClosed u t goes s = All (λ c. s < c.at) goes.commits

-- What was found on an entry of u stands in t: the same on its tokens, but for an open snapshot; and where its
-- snapshot stays closed, the same judgement by the same steps.
pub record Stands {k : ℕ} (u t : TraceValue) (goes : GoesOn k u t) : Type 0 where
  pub tokens : (i : ℕ) (e : EntryValue) → slice_get u.entries i ≡ Some e
      → order_of t i e ≡ record (order_of u i e) { open_snapshot = open_snapshot t e }
  pub judgement : (i : ℕ) (e : EntryValue) → slice_get u.entries i ≡ Some e → StaysClosed u t goes e.snapshot
      → (steps : Option (List StepValue)) → judged t e steps ≡ judged u e steps

-- ---- entries of which all is known

-- some commit is at or above the entry's snapshot, on an earlier line or a later one; commits rise, so each that can
-- still come is above it
abbrev pub is_settled : TraceValue → EntryValue → Bool
is_settled t e = list_any (λ c. nat_le e.snapshot c.at) t.commits

abbrev pub IsSettled : TraceValue → EntryValue → Type 0
IsSettled t e = IsTrue (is_settled t e)
