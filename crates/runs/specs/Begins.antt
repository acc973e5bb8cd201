-- The log that a carry begins: its items, each on its line.
use Rattle.std.specs.Prelude.{ℕ, ◌+◌, ◌&&◌, List, [], ◌∷◌, nat_lt, nat_le, Result, Ok, Err, if◌then◌else◌}
use Rattle.refusals.specs.Refusals.{◌>>=◌}
use Rattle.trace_lines.specs.LineValues.{LineValue, put_line}
use Rattle.trace_lines.specs.LineValues as line
use Rattle.trace_lines.specs.Values.{EntryValue, TraceValue, empty_trace}
use Rattle.trace_lines.specs.declared.entry.EntryKind.{EntryKind}
use Rattle.trace_lines.specs.declared.entry.EntryKind.TheVariants as entry
use Rattle.carry.specs.Values.{CarryValue, CheckValue, ItemValue, SaidValue, declares, commits, records}
use Rattle.carry.specs.declared.value.CheckKind.{CheckKind}
use Rattle.carry.specs.declared.value.CheckKind.TheVariants.{Check, Content}
use Rattle.runs.specs.Faults.{refused_at}
use Rattle.runs.specs.declared.fault.BeginFault.{BeginFault}
use Rattle.runs.specs.declared.fault.BeginFault.TheVariants.{OutOfOrder}

abbrev pub kind_of : CheckKind → EntryKind
kind_of Check = entry.Check
kind_of Content = entry.Content

-- an entry, which has no place yet
abbrev pub entry_of : CheckValue → EntryValue
entry_of e = record {
  kind = kind_of e.kind;
  line = 0;
  goal = e.goal;
  snapshot = e.snapshot;
  reply = e.reply;
  zookie = e.zookie;
  version = e.version;
  before = 0;
}

-- what an item says, as a line of a trace does
abbrev pub line_of : SaidValue → LineValue
line_of (declares text) = line.declares text
line_of (commits c) = line.commits c
line_of (records e) = line.records (entry_of e)

-- Item number k, which stands behind line `last` and among so many lines of the log, put behind a trace.
abbrev pub with_item : ℕ → ℕ → ℕ → TraceValue → ItemValue → Result TraceValue BeginFault
with_item lines k last t i =
    if nat_lt last i.line && nat_le i.line lines then refused_at k (put_line i.line t (line_of i.said))
    else Err (OutOfOrder k)

-- the items from number k on, put behind a trace, each behind the line of the one before it
abbrev pub log_from : ℕ → ℕ → ℕ → TraceValue → List ItemValue → Result TraceValue BeginFault
log_from lines k last t [] = Ok t
log_from lines k last t (i ∷ is) = with_item lines k last t i >>= λ u. log_from lines (k + 1) i.line u is

abbrev pub log_of : CarryValue → Result TraceValue BeginFault
log_of c = log_from c.lines 0 0 empty_trace c.items
