-- What a clause reads of the devices of this crate.
use Rattle.std.specs.Prelude.{ℕ, List, Option, Some}
use Rattle.devices.specs.Moved.{moved_so_far, failures_so_far, stops_so_far, flushes_so_far, since_so_far}
use Rattle.devices.specs.declared.counted.Counted.{Counted}
use Rattle.devices.specs.declared.failing.Failing.{Failing}
use Rattle.devices.specs.declared.held.Held.{Held}

-- the reader or writer whose history is kept
abbrev pub counted_inner : {X : Type 0} → Counted X → X
counted_inner c = c.inner

-- all bytes that went through
abbrev pub moved_by : {X : Type 0} → Counted X → List ℕ
moved_by c = moved_so_far c.moved

abbrev pub failures_of : {X : Type 0} → Counted X → ℕ
failures_of c = failures_so_far c.moved

-- how often a reader was at its end, or a writer took none of some bytes
abbrev pub stops_of : {X : Type 0} → Counted X → ℕ
stops_of c = stops_so_far c.moved

-- how often a flush was asked for
abbrev pub flushes_of : {X : Type 0} → Counted X → ℕ
flushes_of c = flushes_so_far c.moved

-- how many calls came behind the last one that failed or moved no byte of a buffer that has some
abbrev pub since_of : {X : Type 0} → Counted X → ℕ
since_of c = since_so_far c.moved

-- the bytes in memory that are left
abbrev pub held_bytes : Held → List ℕ
held_bytes h = h.left.now

abbrev pub left_in : Held → Option (List ℕ)
left_in h = Some (held_bytes h)

abbrev pub given_by : Held → List ℕ
given_by h = moved_so_far h.moved

abbrev pub ends_of : Held → ℕ
ends_of h = stops_so_far h.moved

-- the reader or writer that is made to fail
abbrev pub failing_inner : {X : Type 0} → Failing X → X
failing_inner f = f.inner
