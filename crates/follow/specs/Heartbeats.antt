-- What a heartbeat says of a log.
use Rattle.std.specs.Prelude.{◌≡◌, ℕ, ◌<◌, ◌≤◌, List, ◌∷◌, ◌++◌, All, length, slice_get, Option, Some}
use Rattle.trace_lines.specs.Values.{EntryValue, TraceValue}
use Rattle.findings.specs.declared.finding.Finding.{Finding}
use Rattle.windows.specs.Growth.{IsSettled}
use Rattle.monitor.specs.Standing.{IsPast, open_entries}
use Rattle.monitor.specs.declared.monitor.Monitor.{Monitor}
use Rattle.follow.specs.Pieces.{Piece, told_in}
use Rattle.follow.specs.declared.heartbeat.Heartbeat.{Heartbeat}

-- some commit is at or above the snapshot of each of the first n entries
abbrev pub AreSettledTo : TraceValue → ℕ → Type 0
AreSettledTo t n = (i : ℕ) (e : EntryValue) → slice_get t.entries i ≡ Some e → i < n → IsSettled t e

-- all entries up to a line are settled, and there are so many
pub record IsThrough (t : TraceValue) (line entries : ℕ) : Type 0 where
  pub settled : (i : ℕ) (e : EntryValue) → slice_get t.entries i ≡ Some e → e.line ≤ line → IsSettled t e
  pub counted : (i : ℕ) (e : EntryValue) → slice_get t.entries i ≡ Some e → e.line ≤ line → i < entries
  pub there : entries ≤ length t.entries

-- behind what was told of a log so far, whose last line is given: it names a line up to that one
pub record Beats (t : TraceValue) (told : List Finding) (line : Option ℕ) (h : Heartbeat) : Type 0 where
  pub last : ℕ
  pub given : line ≡ Some last
  pub within : h.line ≤ last
  pub through : IsThrough t h.line h.entries
  pub findings : h.findings ≡ length told
  pub waiting : h.open ≡ length (open_entries t)

-- True of a log of which this was told before it, and this behind it: the entries up to its line are settled, and so
-- many; so many findings were told; and what is told behind it is on none of these entries. So what was told of them is
-- all that is told of them.
pub record IsTrue (t : TraceValue) (before behind : List Finding) (h : Heartbeat) : Type 0 where
  pub through : IsThrough t h.line h.entries
  pub findings : h.findings ≡ length before
  pub silent : All (λ f. h.line < f.line) behind

-- each heartbeat among some pieces, with the pieces before it and behind it
abbrev pub EachBeat : (List Piece → List Piece → Piece → Heartbeat → Type 0) → List Piece → Type 0
EachBeat P pieces = (earlier later : List Piece) (p : Piece) (h : Heartbeat) → pieces ≡ earlier ++ p ∷ later
    → p.heartbeat ≡ Some h → P earlier later p h

-- each is true of a log, where behind the pieces the rest was told
abbrev pub AreTrue : TraceValue → List Piece → List Finding → Type 0
AreTrue t pieces rest =
    EachBeat (λ earlier later p h. IsTrue t (told_in earlier ++ p.told) (told_in later ++ rest) h) pieces

-- what was told behind each is on none of the entries up to its line, and so many findings were told before
abbrev pub AreSilent : List Piece → Type 0
AreSilent = EachBeat (λ earlier later p h. (h.findings ≡ length (told_in earlier ++ p.told))
    × All (λ f. h.line < f.line) (told_in later))

-- up to the line of each all entries of a log are settled
abbrev pub AreThrough : TraceValue → List Piece → Type 0
AreThrough t = EachBeat (λ earlier later p h. IsThrough t h.line h.entries)

-- and a monitor is past it
abbrev pub ArePast : TraceValue → Monitor → List Piece → Type 0
ArePast t m = EachBeat (λ earlier later p h. IsPast t m h.line)
