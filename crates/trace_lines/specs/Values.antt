-- What a trace says.
use Rattle.std.specs.Prelude.{ℕ, ◌+◌, ◌-◌, max, Bool, List, [], length, slice_get, Option, None, Some, map}
use Rattle.tuple_text.specs.Tuples.{FactValue}
use Rattle.zookie.specs.Tokens.{Token}
use Rattle.namespaces.specs.Declaration.{Declaration}
use Rattle.version_chains.specs.Commits.{Commit}
use Rattle.trace_lines.specs.declared.entry.EntryKind.{EntryKind}

-- a recorded decision: which check it is, the line that it stands on, and what was asked and answered
pub record EntryValue : Type 0 where
  pub kind : EntryKind
  pub line : ℕ
  pub goal : FactValue
  pub snapshot : ℕ
  pub reply : Bool
  pub zookie : Option Token
  pub version : Option (List ℕ)
  pub before : ℕ

-- the declarations, the commits with the lines that they stand on, and the entries, each in line order
pub record TraceValue : Type 0 where
  pub declarations : List Declaration
  pub commits : List Commit
  pub commit_lines : List ℕ
  pub entries : List EntryValue

abbrev pub empty_trace : TraceValue
empty_trace = record { declarations = []; commits = []; commit_lines = []; entries = [] }

abbrev pub entry_lines : List EntryValue → List ℕ
entry_lines es = map (λ e. e.line) es

abbrev pub after : Option ℕ → ℕ
after None = 0
after (Some n) = n + 1

-- the number after the last
abbrev pub after_last : List ℕ → ℕ
after_last ns = after (slice_get ns (length ns - 1))

-- the least number that the line of a further commit or entry may have
abbrev pub next_line : TraceValue → ℕ
next_line t = max (after_last t.commit_lines) (after_last (entry_lines t.entries))
