-- What one call of a reader or a writer moves and counts.
use Rattle.std.specs.Prelude.{◌≡◌, ◌⊎◌, ℕ, ◌+◌, ◌<◌, ◌==◌, ◌&&◌, not, Bool, true, false, List, [], take, Result, Ok, Err, if◌then◌else◌}

-- the bytes of the buffer that went through
abbrev pub moved : {E : Type 0} → Result ℕ E → List ℕ → List ℕ
moved (Ok n) buf = take n buf
moved (Err e) buf = []

abbrev pub failure_count : {A E : Type 0} → Result A E → ℕ
failure_count (Ok x) = 0
failure_count (Err e) = 1

-- how often a call moved no byte of a buffer that has some, after one of that many bytes: at the end of a reader, or
-- an idle write
abbrev pub stops_after : {E : Type 0} → Result ℕ E → ℕ → ℕ → ℕ
stops_after (Ok n) count stops = if n == 0 && not (count == 0) then stops + 1 else stops
stops_after (Err e) count stops = stops

-- how many calls came behind the last one that failed or moved no byte of a buffer that has some, after a call with
-- one of that many bytes
abbrev pub since_after : {E : Type 0} → Result ℕ E → ℕ → ℕ → ℕ
since_after (Ok n) count since = if n == 0 && not (count == 0) then 0 else since + 1
since_after (Err e) count since = 0

-- the same after a flush
abbrev pub since_flush : {A E : Type 0} → Result A E → ℕ → ℕ
since_flush (Ok x) since = since + 1
since_flush (Err e) since = 0

-- Where a text of so many bytes did not go out: before its last byte, and no flush was asked for, or behind that, at
-- the flush.
abbrev pub IsBrokenOff : (old_flushes new_flushes written size : ℕ) → Type 0
IsBrokenOff old new written size = ((new ≡ old) × (written < size)) ⊎ ((new ≡ old + 1) × (written ≡ size))

-- how often a call was at the end that answers whether there was more
abbrev pub end_count : {E : Type 0} → Result Bool E → ℕ
end_count (Ok true) = 0
end_count (Ok false) = 1
end_count (Err e) = 0
