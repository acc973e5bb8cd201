-- An entry without where it lies in memory.
use Rattle.std.specs.Prelude.{option_map}
use Rattle.tuple_text.specs.FactRefs.{fact_value}
use Rattle.trace_lines.specs.Values.{EntryValue}
use Rattle.trace_lines.specs.declared.entry.Entry.{Entry}

abbrev pub entry_value : Entry → EntryValue
entry_value e = record {
  kind = e.kind;
  line = e.line;
  goal = fact_value e.goal;
  snapshot = e.snapshot;
  reply = e.reply;
  zookie = e.zookie;
  version = option_map (λ s. s.now) e.version;
  before = e.before;
}
