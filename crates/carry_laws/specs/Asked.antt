-- What a run knows of the log in front of it, and findings on the entries that it can judge by that.
use Rattle.std.specs.Prelude.{◌==◌, ◌&&◌, ◌||◌, not, nat_le, nat_lt, ℕ, Bool, true, List, filter, Option, None, Some}
use Rattle.std.specs.List.{list_all, list_any}
use Rattle.trace_lines.specs.Values.{EntryValue, TraceValue}
use Rattle.trace_lines.specs.Versions.{Version, entry_version, issues, version_named}
use Rattle.findings.specs.declared.finding.Finding.{Finding}
use Rattle.carry_laws.specs.declared.known.Known.{Known}

-- from a base on with all versions, and all that a log has
abbrev pub known_from : ℕ → Known
known_from base = record { base = base; versions = 0 }

abbrev pub all_known : Known
all_known = known_from 0

-- the entry issued the version, from one line on and in front of another
abbrev pub issues_between : ℕ → ℕ → Version → EntryValue → Bool
issues_between from line v x = nat_le from x.line && (nat_lt x.line line && issues v x)

-- no version is named, or one that is known; where some were let go, nobody knows of another whether it was issued
abbrev pub knows_version : ℕ → List EntryValue → ℕ → Option Version → Bool
knows_version from es line None = true
knows_version from es line (Some v) = from == 0 || list_any (issues_between from line v) es

abbrev pub knows_named : ℕ → List EntryValue → EntryValue → Bool
knows_named from es e = knows_version from es e.line (version_named e.kind (entry_version e))

-- an entry is audited that asks at the base or above, and names no version or a known one
abbrev pub is_audited : Known → List EntryValue → EntryValue → Bool
is_audited known es e = nat_le known.base e.snapshot && knows_named known.versions es e

-- so is an entry on this line, if there is one
abbrev pub is_asked : Known → TraceValue → ℕ → Bool
is_asked known t line = list_all (λ e. not (e.line == line) || is_audited known t.entries e) t.entries

-- the findings on such entries
abbrev pub asked : Known → TraceValue → List Finding → List Finding
asked known t found = filter (λ f. is_asked known t f.line) found
