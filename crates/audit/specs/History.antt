-- What is told of a tuple's history.
use Rattle.std.specs.Prelude.{◌≡◌, ℕ, Bool, true, List, ◌++◌, length, codes, Ok, if◌then◌else◌}
use Rattle.std.specs.Fmt.{decimal}
use Rattle.std.specs.List.{flat_map}
use Rattle.tuple_text.specs.Tuples.{TupleValue}
use Rattle.version_chains.specs.Commits.{Commit, history_of}
use Rattle.trace_lines.specs.Values.{TraceValue}
use Rattle.trace_lines.specs.Traces.{trace_of}
use Rattle.audit.specs.Devices.{Writing, FailsWriting}

-- the timestamp of a touch, ` add` or ` remove`, and a newline
abbrev pub touch_text : ℕ × Bool → List ℕ
touch_text x = decimal x.0 ++ (if x.1 then codes " add\n" else codes " remove\n")

-- a line for each touch of the tuple, the newest first
abbrev pub history_text : List Commit → TupleValue → List ℕ
history_text commits t = flat_map touch_text (history_of commits t)

-- the bytes say a trace, the tuple's history in it went out, and has that many touches
abbrev pub TellsHistory : List ℕ → TupleValue → List ℕ → List ℕ → ℕ → Type 0
TellsHistory a tuple old new n =
    (t : TraceValue) × (trace_of true a ≡ Ok t)
    × (new ≡ old ++ history_text t.commits tuple) × (n ≡ length (history_of t.commits tuple))

-- the bytes say a trace, and the tuple's history in it went out up to its first n bytes
abbrev pub BreaksHistory : List ℕ → TupleValue → Writing → ℕ → Type 0
BreaksHistory a tuple out n =
    (t : TraceValue) × (trace_of true a ≡ Ok t) × FailsWriting out n (history_text t.commits tuple)
