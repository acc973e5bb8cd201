-- What a line commits or says, without where it lies in memory.
use Rattle.std.specs.Prelude.{◌≡◌, Some, ⊤, string_bytes}
use Rattle.serde_json.specs.Read.{read}
use Rattle.serde_json.specs.View.{view}
use Rattle.tuple_text.specs.TupleRefs.{tuple_values}
use Rattle.version_chains.specs.Commits.{Commit}
use Rattle.trace_lines.specs.LineValues.{LineValue, commits, declares, records}
use Rattle.trace_lines.specs.declared.commits.CommitRef.{CommitRef}
use Rattle.trace_lines.specs.EntryViews.{entry_value}
use Rattle.trace_lines.specs.declared.line.Line.{Line}
use Rattle.trace_lines.specs.declared.line.Line.TheVariants as line
use Rattle.trace_lines.specs.declared.line.Said.{Said}
use Rattle.trace_lines.specs.declared.line.Said.TheVariants.{Commits, Declares, Records}

abbrev pub commit_value : CommitRef → Commit
commit_value c = record { at = c.at; adds = tuple_values c.adds.items; removes = tuple_values c.removes.items }

abbrev pub said_value : Said → LineValue
said_value (Declares text) = declares (string_bytes text)
said_value (Commits c) = commits c
said_value (Records e) = records e

abbrev pub line_value : Line → LineValue
line_value (line.Declares d) = declares d.text.now
line_value (line.Commits c) = commits (commit_value c)
line_value (line.Records e) = records (entry_value e)

-- a declaration's value is that of its text
abbrev pub IsOfItsText : Line → Type 0
IsOfItsText (line.Declares d) = read d.text.now ≡ Some (view d.value.now)
IsOfItsText (line.Commits c) = ⊤
IsOfItsText (line.Records e) = ⊤
