-- Going over the versions with one mark, in search of the entry that issued one of them.
use Rattle.std.proofs.Common.{◌≡◌, ℕ, ◌<◌, Bool, true, false, List, [], ◌∷◌, length, get_or, slice_get, Some, None, ◌∙◌, ap, subst, sym, refl}
use Rattle.std.proofs.lemmas.Option.{slice_get_within}
use Rattle.marks.specs.Placed.{indices_of}
use Rattle.marks.proofs.LeftLemmas.{AreLeft, left_first, left_behind, left_none}
use Rattle.marks.proofs.PlacedLemmas.{read_item}
use Rattle.trace_lines.specs.Issued.{Issue, issued_by, AreIssued}
use Rattle.trace_lines.specs.Recorded.{Recorded, shown}
use Rattle.trace_lines.specs.VersionMarks.{version_mark}
use Rattle.trace_lines.specs.Versions.{Version, version_eq, is_version, entry_version, issuer}
use Rattle.trace_lines.specs.declared.versions.Versions.{Versions}
use Rattle.trace_lines.proofs.IssuedVersions.{version_eq-same, version_mark-same, not_issued}
use Rattle.trace_lines.proofs.Recording.{IsIssuer, issued_count, issuer_at}

module _ (rs : List Recorded) (versions : Versions) (are : AreIssued versions (shown rs)) (v : Version) where
  abbrev wanted : Issue → Bool
  wanted x = version_eq v x.version

  abbrev pub IsIssuerLeft : List ℕ → Type 0
  IsIssuerLeft left = AreLeft wanted (issued_by (shown rs)) left

  pub issuer_start : (left : List ℕ) → left ≡ indices_of (version_mark v) versions.marks (length versions.marks) → IsIssuerLeft left
  issuer_start left is =
      subst IsIssuerLeft (sym is)
      (left_first (λ (x : Issue). version_mark x.version) (version_mark v) wanted (version_mark-same v) (issued_by (shown rs)) versions.marks are.marks)

  pub issuer_nowhere : (left : List ℕ) → left ≡ [] → IsIssuerLeft left → issuer (shown rs) v ≡ None
  issuer_nowhere left none are_left = not_issued v (shown rs) (left_none wanted (issued_by (shown rs)) (subst IsIssuerLeft none are_left))

  module _ (left : List ℕ) (m : ℕ) (rest : List ℕ) (next : left ≡ m ∷ rest) (are_left : IsIssuerLeft left) where
    left_here : IsIssuerLeft (m ∷ rest)
    left_here = subst IsIssuerLeft next are_left

    pub issuer_within : m < length versions.entries.items
    issuer_within = rw (issued_count rs versions are) left_here.within.0

    module _ (n : ℕ) (read : n ≡ get_or versions.entries.items m n) where
      here : IsIssuer rs m n
      here = issuer_at rs versions are m n left_here.within.0 (read_item versions.entries.items versions.entries.items m n refl issuer_within read)

      pub issuer_entry : n < length rs
      issuer_entry = slice_get_within rs n here.kept here.there

      module _ (answer : Bool) (says : (r : Recorded) → slice_get rs n ≡ Some r → answer ≡ is_version v (entry_version r.entry)) where
        said : answer ≡ is_version v (Some here.issue.version)
        said = says here.kept here.there ∙ ap (is_version v) here.names

        pub issuer_behind : answer ≡ false → IsIssuerLeft rest
        issuer_behind other = left_behind wanted (issued_by (shown rs)) m rest here.issue here.here (sym said ∙ other) left_here

        pub issuer_found : answer ≡ true → issuer (shown rs) v ≡ Some n
        issuer_found same = ap (issuer (shown rs)) (version_eq-same v here.issue.version (sym said ∙ same)) ∙ here.first
