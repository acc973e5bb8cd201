-- What a trace declares and stores, without its entries.
use Rattle.std.specs.Prelude.{ℕ}
use Rattle.snapshots.specs.Snapshots.{snapshot_at}
use Rattle.snapshots.specs.Timelines.{TimelineValue}
use Rattle.snapshots.specs.declared.snapshot.Snapshot.{Snapshot}
use Rattle.trace_lines.specs.Values.{TraceValue}

abbrev pub timeline_of : TraceValue → TimelineValue
timeline_of t = record { declarations = t.declarations; commits = t.commits }

abbrev pub snapshot_of : TraceValue → ℕ → Snapshot
snapshot_of t at = snapshot_at (timeline_of t) at
