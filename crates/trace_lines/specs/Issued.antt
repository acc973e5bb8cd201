-- The versions that entries issued, as a trace keeps them.
use Rattle.std.specs.Prelude.{◌≡◌, ℕ, ◌+◌, List, [], ◌∷◌, map, slice_get, Option, None, Some}
use Rattle.trace_lines.specs.Values.{EntryValue}
use Rattle.trace_lines.specs.VersionMarks.{version_mark}
use Rattle.trace_lines.specs.Versions.{Version, entry_version, issuer, version_issued}
use Rattle.trace_lines.specs.declared.version_ref.VersionRef.{VersionRef}
use Rattle.trace_lines.specs.declared.versions.Versions.{Versions}

-- the version that a borrowed one stands for
abbrev pub version_value : VersionRef → Version
version_value v = record { namespace = v.object.namespace.now; id = v.object.id.now; label = v.label.now }

-- a version, and the number of the entry that issues it
pub record Issue : Type 0 where
  pub number : ℕ
  pub version : Version

abbrev pub issue_in_front : ℕ → Option Version → List Issue → List Issue
issue_in_front n None rest = rest
issue_in_front n (Some v) rest = record { number = n; version = v } ∷ rest

-- what the entries issue, in order, where the first of them has this number
abbrev pub issued_from : ℕ → List EntryValue → List Issue
issued_from n [] = []
issued_from n (e ∷ es) = issue_in_front n (version_issued e.kind (entry_version e)) (issued_from (n + 1) es)

abbrev pub issued_by : List EntryValue → List Issue
issued_by es = issued_from 0 es

-- kept are the numbers of the entries that issue a version, and the marks of these versions; each version is issued
-- once
pub record AreIssued (versions : Versions) (es : List EntryValue) : Type 0 where
  pub numbers : versions.entries.items ≡ map (λ x. x.number) (issued_by es)
  pub marks : versions.marks ≡ map (λ x. version_mark x.version) (issued_by es)
  pub once : (k : ℕ) (x : Issue) → slice_get (issued_by es) k ≡ Some x → issuer es x.version ≡ Some x.number
