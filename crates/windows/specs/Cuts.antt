-- A window that is cut from a trace so that all lines stay where they are.
use Rattle.std.specs.Prelude.{ℕ, List, ◌++◌, map, filter, nat_lt, nat_le}
use Rattle.version_chains.specs.Commits.{Commit}
use Rattle.trace_lines.specs.Values.{EntryValue, TraceValue}
use Rattle.token_order.specs.Order.{commit_lines_of}
use Rattle.windows.specs.Compaction.{above, up_to}

-- the lines of the commits above b up to h
abbrev pub lines_between : ℕ → ℕ → TraceValue → List ℕ
lines_between b h t = map (λ c. c.line) (filter (λ c. nat_lt b c.at) (filter (λ c. nat_le c.at h) (commit_lines_of t)))

-- all rules, some commits in front for those up to b, the commits above b up to h, and some entries
abbrev pub window_of : ℕ → ℕ → List Commit → List ℕ → List EntryValue → TraceValue → TraceValue
window_of b h front front_lines entries t = record {
  declarations = t.declarations;
  commits = front ++ above b (up_to h t.commits);
  commit_lines = front_lines ++ lines_between b h t;
  entries = entries;
}
