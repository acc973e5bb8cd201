-- No new enemy: which changes a check of a content version has seen.
use Rattle.std.specs.Prelude.{◌≡◌, ℕ, ◌<◌, ◌≤◌, Some, slice_get, Contains, IsTrue}
use Rattle.tuple_text.specs.Tuples.{TupleValue}
use Rattle.version_chains.specs.Commits.{Commit, store_at}
use Rattle.trace_lines.specs.Values.{EntryValue, TraceValue}
use Rattle.trace_lines.specs.Versions.{Version, entry_version, version_named, issues}

-- the check e names a version, and the content check c issued it
pub record IsCheckOf (t : TraceValue) (e c : EntryValue) : Type 0 where
  pub version : Version
  pub checked : Contains t.entries e
  pub named : version_named e.kind (entry_version e) ≡ Some version
  pub recorded : Contains t.entries c
  pub issued : IsTrue (issues version c)

-- number k of the commits stands on an earlier line than the content check
pub record IsBeforeContent (t : TraceValue) (k : ℕ) (commit : Commit) (c : EntryValue) : Type 0 where
  pub there : slice_get t.commits k ≡ Some commit
  pub line : ℕ
  pub placed : slice_get t.commit_lines k ≡ Some line
  pub before : line < c.line

-- The check e has seen each change before the content check c. Where a commit before it removed a tuple, and no later
-- commit up to the check's snapshot adds it, the tuple is not among those by which the check was answered. Where such a
-- commit added one that none removes, it is.
pub record HasSeen (t : TraceValue) (e c : EntryValue) : Type 0 where
  pub removed : (k : ℕ) (commit : Commit) → IsBeforeContent t k commit c → (x : TupleValue)
      → Contains commit.removes x
      → ((m : ℕ) (later : Commit) → k < m → slice_get t.commits m ≡ Some later → later.at ≤ e.snapshot
      → ¬ Contains later.adds x)
      → ¬ Contains (store_at t.commits e.snapshot) x
  pub added : (k : ℕ) (commit : Commit) → IsBeforeContent t k commit c → (x : TupleValue) → Contains commit.adds x
      → ((m : ℕ) (later : Commit) → k ≤ m → slice_get t.commits m ≡ Some later → later.at ≤ e.snapshot
      → ¬ Contains later.removes x)
      → Contains (store_at t.commits e.snapshot) x

-- each check of a content version has seen each change before that version's content check
abbrev pub HasNoNewEnemy : TraceValue → Type 0
HasNoNewEnemy t = (e c : EntryValue) → IsCheckOf t e c → HasSeen t e c
