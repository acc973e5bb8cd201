-- Entries of which none issues a version that an earlier one issued.
use Rattle.std.proofs.Common.{◌≡◌, ℕ, ◌+◌, Bool, true, false, cond, List, [], ◌∷◌, ◌++◌, length, Option, Some, None, refl, sym, ap, subst, ◌∙◌, inl, inr, arith}
use Rattle.std.specs.Prelude.{slice_get, is_some, option_and_then}
use Rattle.std.specs.Option.{option_or}
use Rattle.std.proofs.lemmas.Option.{same_Some}
use Rattle.marks.proofs.PlacedLemmas.{slice_get-cases}
use Rattle.trace_lines.specs.Values.{EntryValue}
use Rattle.trace_lines.specs.Versions.{Version, version_issued, entry_version, issues, issuer, is_repeated, AreIssuedOnce}
use Rattle.trace_lines.specs.declared.entry.EntryKind.{EntryKind}
use Rattle.trace_lines.proofs.IssuedVersions.{issuer-push, issued_here}

-- each entry that issues a version is the first to issue it
abbrev pub HasFirstIssuers : List EntryValue → Type 0
HasFirstIssuers es = (v : Version) (j : ℕ) (e : EntryValue) → slice_get es j ≡ Some e → issues v e ≡ true → issuer es v ≡ Some j

pub first_issuers_empty : HasFirstIssuers []
first_issuers_empty v j e at h = cc

new_here : (es : List EntryValue) (e : EntryValue) (v : Version) → is_repeated es e ≡ false → issues v e ≡ true → issuer es v ≡ None
new_here es e v new h = by (issuer es v) refl
  where
    named : version_issued e.kind (entry_version e) ≡ Some v
    named = issued_here v (version_issued e.kind (entry_version e)) h

    by : (o : Option ℕ) → issuer es v ≡ o → issuer es v ≡ None
    by None is = is
    by (Some n) is =
        let repeated : is_repeated es e ≡ true = rw (named, is) refl in
        let bad : true ≡ false = sym repeated ∙ new in cc

pub first_issuers_push : (es : List EntryValue) (e : EntryValue) → HasFirstIssuers es → is_repeated es e ≡ false → HasFirstIssuers (es ++ e ∷ [])
first_issuers_push es e firsts new v j x at h = elim (slice_get-cases es e j x at) [
  | inl there ↦ issuer-push es e v ∙ rw (firsts v j x there h) refl
  | inr last ↦
      let issued : issues v e ≡ true = subst (λ (y : EntryValue). issues v y ≡ true) (sym last.1) h in
      issuer-push es e v ∙ rw (new_here es e v new issued, issued) (ap Some (sym last.0))
]

pub first_issuers_once : (es : List EntryValue) → HasFirstIssuers es → AreIssuedOnce es
first_issuers_once es firsts v i j d e at there first second =
    same_Some i j (sym (firsts v i d at first) ∙ firsts v j e there second)
