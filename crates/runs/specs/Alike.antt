-- What of a log goes on to the next run, and when two touches are the same.
use Rattle.std.specs.Prelude.{◌≡◌, ℕ, ◌-◌, ◌&&◌, ◌||◌, Bool, true, false, not, List, length, map, filter, nat_eq, nat_le, nat_lt, is_some, slice_get, Option, None, Some}
use Rattle.tuple_text.specs.Order.{tuple_eq}
use Rattle.version_chains.specs.Commits.{Touch}
use Rattle.trace_lines.specs.Values.{EntryValue, TraceValue}
use Rattle.trace_lines.specs.declared.entry.EntryKind.{EntryKind}
use Rattle.trace_lines.specs.declared.entry.EntryKind.TheVariants.{Check, Content}
use Rattle.token_order.specs.Order.{CommitLine, commit_lines_of}

-- the touches above a timestamp
abbrev pub touches_above : ℕ → List Touch → List Touch
touches_above b xs = filter (λ x. nat_lt b x.at) xs

-- the commits above a timestamp, by their lines
abbrev pub commits_above : ℕ → List CommitLine → List CommitLine
commits_above b cs = filter (λ c. nat_lt b c.at) cs

-- there is a commit at the timestamp, on this line
abbrev pub IsCommitLine : TraceValue → ℕ → ℕ → Type 0
IsCommitLine t line at = (k : ℕ) × (slice_get (commit_lines_of t) k ≡ Some (record { line = line; at = at }))

-- the same flag
abbrev pub flag_eq : Bool → Bool → Bool
flag_eq true b = b
flag_eq false b = not b

abbrev pub touch_eq : Touch → Touch → Bool
touch_eq x y = nat_eq x.at y.at && (flag_eq x.live y.live && tuple_eq x.tuple y.tuple)

-- a timestamp is above the last one, if there is one
abbrev pub is_above : Option ℕ → ℕ → Bool
is_above None s = true
is_above (Some last) s = nat_lt last s

abbrev pub last_time : TraceValue → Option ℕ
last_time t = slice_get (map (λ c. c.at) t.commits) (length (map (λ c. c.at) t.commits) - 1)

-- no commit is at or above the entry's snapshot, so it is not settled
abbrev pub is_open : TraceValue → EntryValue → Bool
is_open t e = is_above (last_time t) e.snapshot

-- a check of content with a version issues it
abbrev pub issues_some : EntryKind → Option (List ℕ) → Bool
issues_some Check v = false
issues_some Content v = is_some v

-- another check with a version names it
abbrev pub names_some : EntryKind → Option (List ℕ) → Bool
names_some Check v = is_some v
names_some Content v = false

-- it is still to be judged, or a later check may name its version, of those that were issued from a line on
abbrev pub goes_on : ℕ → TraceValue → EntryValue → Bool
goes_on from t e = is_open t e || (issues_some e.kind e.version && nat_le from e.line)
