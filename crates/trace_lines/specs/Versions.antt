-- Versions of content: which content check issued each, and which one a check means.
use Rattle.std.specs.Prelude.{◌≡◌, ℕ, Bool, false, true, List, take, slice_get, is_some, nat_eq, Option, None, Some, option_map, option_and_then}
use Rattle.std.specs.List.{position_from}
use Rattle.std.specs.Ordering.{on, eq_of_both}
use Rattle.std.specs.Cmp.Lexicographic.{pointwise}
use Rattle.tuple_text.specs.Sets.{SetValue}
use Rattle.trace_lines.specs.declared.entry.EntryKind.{EntryKind}
use Rattle.trace_lines.specs.declared.entry.EntryKind.TheVariants.{Check, Content}
use Rattle.trace_lines.specs.Values.{EntryValue}

-- a version by its object and its label
pub record Version : Type 0 where
  pub namespace : List ℕ
  pub id : List ℕ
  pub label : List ℕ

-- the version of the userset's object that has this label
abbrev pub version_of : SetValue → List ℕ → Version
version_of s label = record { namespace = s.namespace; id = s.id; label = label }

-- the parts are the same bytes
abbrev pub version_eq : Version → Version → Bool
version_eq =
    eq_of_both (on (λ v. v.namespace) (pointwise nat_eq))
    (eq_of_both (on (λ v. v.id) (pointwise nat_eq)) (on (λ v. v.label) (pointwise nat_eq)))

-- the version that stands in an entry
abbrev pub entry_version : EntryValue → Option Version
entry_version e = option_map (version_of e.goal.set) e.version

abbrev pub is_version : Version → Option Version → Bool
is_version v None = false
is_version v (Some w) = version_eq v w

-- a content check issues the version that stands in it
abbrev pub version_issued : EntryKind → Option Version → Option Version
version_issued Check v = None
version_issued Content v = v

-- another check names it
abbrev pub version_named : EntryKind → Option Version → Option Version
version_named Check v = v
version_named Content v = None

abbrev pub issues : Version → EntryValue → Bool
issues v e = is_version v (version_issued e.kind (entry_version e))

-- the first of the entries that issued the version
abbrev pub issuer : List EntryValue → Version → Option ℕ
issuer es v = position_from (issues v) 0 es

-- the entry issues a version that one of these issued
abbrev pub is_repeated : List EntryValue → EntryValue → Bool
is_repeated es e = is_some (option_and_then (issuer es) (version_issued e.kind (entry_version e)))

-- the first of these that issued the version which the entry names
abbrev pub content_among : List EntryValue → EntryValue → Option ℕ
content_among es e = option_and_then (issuer es) (version_named e.kind (entry_version e))

-- the entry before number i that issued the version which entry i names
abbrev pub content_of : List EntryValue → ℕ → Option ℕ
content_of es i = option_and_then (content_among (take i es)) (slice_get es i)

-- each version is issued by one entry
abbrev pub AreIssuedOnce : List EntryValue → Type 0
AreIssuedOnce es =
    (v : Version) (i j : ℕ) (d e : EntryValue) → slice_get es i ≡ Some d → slice_get es j ≡ Some e
    → issues v d ≡ true → issues v e ≡ true → i ≡ j
