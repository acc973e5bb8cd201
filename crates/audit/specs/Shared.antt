-- What several workers find on the entries of a trace, and what they may be asked for.
use Rattle.std.specs.Prelude.{ℕ, Bool, nat_le, ◌&&◌, List, [], is_some, length, map, slice_get, unwrap_or}
use Rattle.std.specs.List.{flat_map, list_any, range_with_len}
use Rattle.std.specs.Option.{option_map_or}
use Rattle.slice_core.specs.declared.opening.TheConstants.{MOST_WORKERS}
use Rattle.trace_lines.specs.Values.{TraceValue}
use Rattle.evidence_check.specs.declared.judged.Judged.{Judged}
use Rattle.evidence_check.specs.declared.judged.Judged.TheVariants.{Missing}
use Rattle.findings.specs.Findings.{found_where, on_line}
use Rattle.findings.specs.declared.finding.Finding.{Finding}
use Rattle.audit.specs.declared.shared.Found.{Found}
use Rattle.audit.specs.declared.shared.TheConstants.{LARGEST_SLICE}

-- 1 to 16 workers, and slices of 1 to 4,096 entries
abbrev pub are_within_limits : ℕ → ℕ → Bool
are_within_limits workers slice =
    (nat_le 1 workers && nat_le workers MOST_WORKERS) && (nat_le 1 slice && nat_le slice LARGEST_SLICE)

abbrev pub nothing_found : Found
nothing_found = record { line = 0; what = [] }

-- what is found on entry i where the entries are judged so, and its line
abbrev pub found_judged : TraceValue → List Judged → ℕ → Found
found_judged t judgements i =
    option_map_or (λ e. record { line = e.line; what = found_where t (unwrap_or (slice_get judgements i) Missing) i e })
    (slice_get t.entries i) nothing_found

-- that of each entry, in order
abbrev pub all_judged : TraceValue → List Judged → List Found
all_judged t judgements = map (found_judged t judgements) (range_with_len 0 (length t.entries))

abbrev pub has_finding : Found → Bool
has_finding f = list_any is_some f.what

-- the findings that these hold, in order
abbrev pub found_lines : List Found → List Finding
found_lines fs = flat_map (λ f. on_line f.line f.what) fs
