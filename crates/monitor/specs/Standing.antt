-- Where a monitor stands between two lines of a trace.
use Rattle.std.specs.Prelude.{◌≡◌, ℕ, ◌+◌, ◌<◌, ◌≤◌, ◌⊎◌, not, List, All, filter, length, map, get_or, slice_get, Contains, Option, Some, None}
use Rattle.version_chains.specs.Commits.{Commit}
use Rattle.trace_lines.specs.Values.{EntryValue, TraceValue}
use Rattle.findings.specs.declared.finding.Finding.{Finding}
use Rattle.windows.specs.Growth.{is_settled}
use Rattle.monitor.specs.declared.monitor.Monitor.{Monitor}

-- the timestamp of commit c, and its line
abbrev pub time_of : TraceValue → ℕ → ℕ
time_of t c = get_or (map (λ (x : Commit). x.at) t.commits) c 0

abbrev pub line_of : TraceValue → ℕ → ℕ
line_of t c = get_or t.commit_lines c 0

-- some of the first n commits is at or above the timestamp
abbrev pub IsReached : TraceValue → ℕ → ℕ → Type 0
IsReached t n s = (c : ℕ) × (c < n) × (s ≤ time_of t c)

-- Taken were the first entries and the first commits, so many as it says. Of the entries those from `fresh` on stand
-- behind the last of these commits, and those wait whose snapshots none of these commits reaches.
pub record Stands (t : TraceValue) (m : Monitor) : Type 0 where
  pub entries : m.entries ≤ length t.entries
  pub commits : m.commits ≤ length t.commits
  pub fresh : m.fresh ≤ m.entries
  pub earlier : (i : ℕ) (e : EntryValue) → slice_get t.entries i ≡ Some e → i < m.fresh → e.before < m.commits
  pub last : (i : ℕ) (e : EntryValue) → slice_get t.entries i ≡ Some e → m.fresh ≤ i → i < m.entries
      → e.before ≡ m.commits
  pub behind : (i : ℕ) (e : EntryValue) → slice_get t.entries i ≡ Some e → m.entries ≤ i → m.commits ≤ e.before
  pub waits : (i : ℕ) (e : EntryValue) → slice_get t.entries i ≡ Some e → i < m.entries
      → ¬ IsReached t m.commits e.snapshot → Contains m.waiting.keys (e.snapshot, i)
  pub waiting : (s i : ℕ) → Contains m.waiting.keys (s, i) → (e : EntryValue) × (slice_get t.entries i ≡ Some e)
      × (i < m.entries) × (e.snapshot ≡ s) × ¬ IsReached t m.commits s

-- the next line is that of the next entry
pub record IsEntryNext (t : TraceValue) (m : Monitor) (e : EntryValue) : Type 0 where
  pub there : slice_get t.entries m.entries ≡ Some e
  pub before : e.before ≤ m.commits

-- the next line is that of the next commit
pub record IsCommitNext (t : TraceValue) (m : Monitor) : Type 0 where
  pub there : m.commits < length t.commits
  pub behind : (i : ℕ) (e : EntryValue) → slice_get t.entries i ≡ Some e → m.entries ≤ i → m.commits < e.before

-- the next entry is taken, which stands on line k
pub record TakesEntry (t : TraceValue) (m n : Monitor) (k : ℕ) : Type 0 where
  pub entry : EntryValue
  pub there : slice_get t.entries m.entries ≡ Some entry
  pub line : k ≡ entry.line
  pub before : entry.before ≤ m.commits
  pub entries : n.entries ≡ m.entries + 1
  pub commits : n.commits ≡ m.commits

-- the next commit is taken, which stands on line k, in front of all entries that were not taken
pub record TakesCommit (t : TraceValue) (m n : Monitor) (k : ℕ) : Type 0 where
  pub next : IsCommitNext t m
  pub line : k ≡ line_of t m.commits
  pub entries : n.entries ≡ m.entries
  pub commits : n.commits ≡ m.commits + 1

-- the next line that says something is taken, which is line k
abbrev pub Takes : TraceValue → Monitor → Monitor → ℕ → Type 0
Takes t m n k = TakesEntry t m n k ⊎ TakesCommit t m n k

-- all entries up to line n were taken, and commits that were taken reach their snapshots
pub record IsPast (t : TraceValue) (m : Monitor) (n : ℕ) : Type 0 where
  pub taken : (i : ℕ) (e : EntryValue) → slice_get t.entries i ≡ Some e → e.line ≤ n → i < m.entries
  pub reached : (i : ℕ) (e : EntryValue) → slice_get t.entries i ≡ Some e → e.line ≤ n → IsReached t m.commits e.snapshot

-- of no entry up to a line that the monitor is past any of this is told
abbrev pub AreBehind : TraceValue → Monitor → List Finding → Type 0
AreBehind t m told = (n : ℕ) → IsPast t m n → All (λ f. n < f.line) told

-- all entries and all commits were taken
pub record IsAtEnd (t : TraceValue) (m : Monitor) : Type 0 where
  pub entries : m.entries ≡ length t.entries
  pub commits : m.commits ≡ length t.commits

-- the entries that are not settled
abbrev pub open_entries : TraceValue → List EntryValue
open_entries t = filter (λ e. not (is_settled t e)) t.entries

-- entries of these numbers stand on lines before that of commit c
abbrev pub StandBefore : TraceValue → ℕ → List ℕ → Type 0
StandBefore t c is = All (λ i. (e : EntryValue) × (slice_get t.entries i ≡ Some e) × (e.before ≤ c)) is

-- no commit reaches the snapshots of entries of these numbers
abbrev pub AreUnreached : TraceValue → List ℕ → Type 0
AreUnreached t is =
    All (λ i. (e : EntryValue) × (slice_get t.entries i ≡ Some e) × ¬ IsReached t (length t.commits) e.snapshot) is

-- entries of these numbers are to be looked at when a commit is taken, or at the end of the log
abbrev pub AreToBeTold : TraceValue → Option ℕ → List ℕ → Type 0
AreToBeTold t (Some c) is = (c < length t.commits) × StandBefore t c is
AreToBeTold t None is = AreUnreached t is
