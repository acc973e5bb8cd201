-- The order of tokens: which snapshot has to cover which commits.
use Rattle.std.specs.Prelude.{◌≡◌, ℕ, ◌<◌, ◌≤◌, List, [], ◌∷◌, All, Contains, IsTrue, IfSome, IsSomeAnd}
use Rattle.version_chains.specs.Commits.{Commit}
use Rattle.trace_lines.specs.Values.{EntryValue, TraceValue}
use Rattle.trace_lines.specs.Versions.{Version, entry_version, version_named, issues}
use Rattle.trace_lines.specs.declared.entry.EntryKind.TheVariants.{Check, Content}

-- a commit, by the line that it stands on and its timestamp
pub record CommitLine : Type 0 where
  pub line : ℕ
  pub at : ℕ

abbrev pub on_lines : List ℕ → List Commit → List CommitLine
on_lines [] cs = []
on_lines (l ∷ ls) [] = []
on_lines (l ∷ ls) (c ∷ cs) = record { line = l; at = c.at } ∷ on_lines ls cs

-- all commits of a trace, in line order: each has a line, as the type of a trace keeps
abbrev pub commit_lines_of : TraceValue → List CommitLine
commit_lines_of t = on_lines t.commit_lines t.commits

-- a content check was evaluated at the latest snapshot: it covers every commit on an earlier line
abbrev pub IsLatest : TraceValue → EntryValue → Type 0
IsLatest t e = All (λ c. c.line < e.line → c.at ≤ e.snapshot) (commit_lines_of t)

-- no later line changes what a snapshot has: every commit there is above it
abbrev pub IsClosed : TraceValue → EntryValue → Type 0
IsClosed t e = All (λ c. e.line < c.line → e.snapshot < c.at) (commit_lines_of t)

-- an earlier content check issued the version; the snapshot is at or above that check's, and covers every commit
-- before it
pub record CoversVersion (t : TraceValue) (e : EntryValue) (v : Version) : Type 0 where
  pub content : EntryValue
  pub recorded : Contains t.entries content
  pub earlier : content.line < e.line
  pub issued : IsTrue (issues v content)
  pub reaches_content : content.snapshot ≤ e.snapshot
  pub covered : All (λ c. c.line < content.line → c.at ≤ e.snapshot) (commit_lines_of t)

-- a check is not older than its request's zookie, nor than the content check of the version that it names
pub record IsFresh (t : TraceValue) (e : EntryValue) : Type 0 where
  pub reaches_zookie : IfSome e.zookie (λ z. z.at ≤ e.snapshot)
  pub covers_version : IfSome (version_named e.kind (entry_version e)) (CoversVersion t e)

-- the content check issued a token that carries its snapshot
abbrev pub IssuesItsSnapshot : EntryValue → Type 0
IssuesItsSnapshot e = IsSomeAnd e.zookie (λ z. z.at ≡ e.snapshot)

-- every content check is latest, every entry closed and every check fresh; where content was authorized, the token
-- issued carries the snapshot
pub record IsInOrder (t : TraceValue) : Type 0 where
  pub latest : All (λ e. e.kind ≡ Content → IsLatest t e) t.entries
  pub closed : All (IsClosed t) t.entries
  pub fresh : All (λ e. e.kind ≡ Check → IsFresh t e) t.entries
  pub issued : All (λ e. e.kind ≡ Content → IsTrue e.reply → IssuesItsSnapshot e) t.entries
