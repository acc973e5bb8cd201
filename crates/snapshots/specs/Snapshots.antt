-- What is declared and stored at a timestamp.
use Rattle.std.specs.Prelude.{ℕ, List}
use Rattle.tuple_text.specs.Tuples.{TupleValue}
use Rattle.namespaces.specs.Lookup.{Lookup, rule_at}
use Rattle.version_chains.specs.Commits.{store_at}
use Rattle.snapshots.specs.Timelines.{TimelineValue}
use Rattle.snapshots.specs.declared.snapshot.Snapshot.{Snapshot}

abbrev pub snapshot_at : TimelineValue → ℕ → Snapshot
snapshot_at timeline at = record { timeline = timeline; at = at }

-- the rules that are in force
abbrev pub rules_in : Snapshot → Lookup
rules_in s = rule_at s.timeline.declarations s.at

-- the tuples that are stored
abbrev pub tuples_in : Snapshot → List TupleValue
tuples_in s = store_at s.timeline.commits s.at
