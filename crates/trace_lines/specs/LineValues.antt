-- What a line of a trace says by itself, and what that makes of a trace.
use Rattle.std.specs.Prelude.{ℕ, List, Option, None, Some, option_and_then, Result, Ok, Err, codes, bytes_eq, length, if◌then◌else◌}
use Rattle.serde_json.specs.Data.{Data}
use Rattle.serde_json.specs.Find.{get, as_str}
use Rattle.serde_json.specs.Read.{read}
use Rattle.version_chains.specs.Commits.{Commit}
use Rattle.refusals.specs.Refusals.{◌>>=◌}
use Rattle.json_lines.specs.Json.{of_json}
use Rattle.trace_lines.specs.Traces.{commit_of, declaration_line, entry_of, with_commit, with_entry}
use Rattle.trace_lines.specs.Values.{EntryValue, TraceValue}
use Rattle.trace_lines.specs.declared.cause.Cause.{Cause}
use Rattle.trace_lines.specs.declared.cause.Cause.TheVariants as causes
use Rattle.trace_lines.specs.declared.entry.EntryKind.{EntryKind}
use Rattle.trace_lines.specs.declared.entry.EntryKind.TheVariants.{Check, Content}

-- what a line says, whatever stands before it
pub data LineValue : Type 0 where
  -- its text, where it declares a namespace: that is read as it is put in
  declares : List ℕ → LineValue
  commits : Commit → LineValue
  -- an entry, which has no place yet
  records : EntryValue → LineValue

-- what a line of this value says that records a check
abbrev pub entry_in : EntryKind → Data → Result LineValue Cause
entry_in kind d = entry_of kind 0 0 d >>= λ e. Ok (records e)

abbrev pub said_of_kind : List ℕ → Data → Option (List ℕ) → Result LineValue Cause
said_of_kind text d None = Err causes.Kind
said_of_kind text d (Some kind) =
    if bytes_eq kind (codes "namespace") then Ok (declares text)
    else (if bytes_eq kind (codes "commit") then (commit_of d >>= λ c. Ok (commits c))
    else (if bytes_eq kind (codes "content") then entry_in Content d
    else (if bytes_eq kind (codes "check") then entry_in Check d
    else Err causes.Kind)))

-- what a line of this text and this value says
unfoldable pub line_said : List ℕ → Data → Result LineValue Cause
line_said text d = said_of_kind text d (option_and_then as_str (get (codes "kind") d))

-- what a line of this text says
abbrev pub line_of_text : List ℕ → Result LineValue Cause
line_of_text text = of_json causes.NotJson (line_said text) (read text)

-- the entry on line n, behind so many commits
abbrev pub placed_at : ℕ → ℕ → EntryValue → EntryValue
placed_at n before e = record e { line = n; before = before }

-- what line number n makes of a trace, by what it says
abbrev pub put_line : ℕ → TraceValue → LineValue → Result TraceValue Cause
put_line n t (declares text) = of_json causes.NotJson (declaration_line n t) (read text)
put_line n t (commits c) = with_commit n t c
put_line n t (records e) = with_entry t (placed_at n (length t.commits) e)
