-- What a reader or a writer did so far.
use Rattle.std.specs.Prelude.{ℕ, List, length}
use Rattle.devices.specs.declared.moved.Moved.{Moved}

-- the bytes that went through
abbrev pub moved_so_far : Moved → List ℕ
moved_so_far m = m.bytes.numbers

abbrev pub failures_so_far : Moved → ℕ
failures_so_far m = length m.failed.numbers

-- how often a reader was at its end, or a writer took none of some bytes
abbrev pub stops_so_far : Moved → ℕ
stops_so_far m = length m.stopped.numbers

-- how often a flush was asked for
abbrev pub flushes_so_far : Moved → ℕ
flushes_so_far m = length m.flushed.numbers

-- how many calls came behind the last one that failed or moved no byte of a buffer that has some
abbrev pub since_so_far : Moved → ℕ
since_so_far m = length m.since.numbers
