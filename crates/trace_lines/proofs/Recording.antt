-- An entry more of a trace.
use Rattle.std.proofs.Common.{◌≡◌, ℕ, ◌<◌, ◌≤◌, max, false, List, [], ◌∷◌, ◌++◌, length, get_or, Option, Some, None, Ok, arith, refl, sym, ap, subst, ◌∙◌}
use Rattle.std.specs.Prelude.{All, slice_get, is_some, option_map}
use Rattle.std.proofs.lemmas.Bool.{true≢false}
use Rattle.std.proofs.lemmas.List.{length-map, map-append}
use Rattle.std.proofs.lemmas.Option.{same_Some, slice_get-get_or, slice_get-map}
use Rattle.version_chains.specs.Commits.{Commit}
use Rattle.trace_lines.specs.Values.{EntryValue, TraceValue, entry_lines, after_last}
use Rattle.trace_lines.specs.Versions.{Version, version_issued, entry_version, issuer, is_repeated, content_among, content_of}
use Rattle.trace_lines.specs.Traces.{recorded}
use Rattle.trace_lines.specs.Kept.{IsPlaced, IsKept}
use Rattle.trace_lines.specs.Recorded.{Recorded, shown, contents}
use Rattle.trace_lines.specs.declared.entry.EntryKind.TheVariants.{Content}
use Rattle.trace_lines.specs.declared.versions.Versions.{Versions}
use Rattle.trace_lines.specs.Issued.{Issue, issued_by, AreIssued}
use Rattle.trace_lines.specs.VersionMarks.{version_mark}
use Rattle.trace_lines.proofs.IssuedVersions.{issued_on, issued_more, at_place}
use Rattle.trace_lines.proofs.Keeping.{kept_entry}

pub kept_push : (commits : List Commit) (lines : List ℕ) (rs : List Recorded) → IsKept commits lines (shown rs) (contents rs)
    → (r : Recorded) (new : List Recorded) → new ≡ rs ++ r ∷ [] → max (after_last lines) (after_last (entry_lines (shown rs))) ≤ r.entry.line
    → r.entry.before ≡ length lines → r.content ≡ content_among (shown rs) r.entry → IsKept commits lines (shown new) (contents new)
kept_push commits lines rs is r new pushed behind before found =
    let same : length (contents rs) ≡ length (shown rs) = length-map rs (λ (x : Recorded). x.content) ∙ sym (length-map rs (λ (x : Recorded). x.entry)) in
    rw (pushed, map-append (λ (x : Recorded). x.entry) rs (r ∷ []), map-append (λ (x : Recorded). x.content) rs (r ∷ []))
    (kept_entry commits lines (shown rs) (contents rs) is r.entry r.content (omega (arith, behind)) (omega (arith, behind)) before same found)

module _ (rs : List Recorded) (versions : Versions) (are : AreIssued versions (shown rs)) (r : Recorded) (new : List Recorded) (pushed : new ≡ rs ++ r ∷ []) where
  abbrev e : EntryValue
  e = r.entry

  with_last : (now : Versions) → AreIssued now (shown rs ++ e ∷ []) → AreIssued now (shown new)
  with_last now led = rw (pushed, map-append (λ (x : Recorded). x.entry) rs (r ∷ [])) led

  -- it issues nothing
  pub issued_plain : version_issued r.entry.kind (entry_version e) ≡ None → AreIssued versions (shown new)
  issued_plain nothing = with_last versions (issued_on (shown rs) e versions are nothing)

  -- it issues a version that is new
  pub issued_content : (v : Version) (now : Versions) → r.entry.kind ≡ Content → entry_version e ≡ Some v → issuer (shown rs) v ≡ None
      → now.entries.items ≡ versions.entries.items ++ length rs ∷ [] → now.marks ≡ versions.marks ++ version_mark v ∷ [] → AreIssued now (shown new)
  issued_content v now kind some absent numbers marks =
      let count : length rs ≡ length (shown rs) = sym (length-map rs (λ (x : Recorded). x.entry)) in
      with_last now (issued_more (shown rs) e versions are now v (rw (kind, some) refl) absent (numbers ∙ ap (λ (n : ℕ). versions.entries.items ++ n ∷ []) count) marks)

-- content names no version
pub content_names_nothing : (es : List EntryValue) (e : EntryValue) → e.kind ≡ Content → None ≡ content_among es e
content_names_nothing es e kind = sym (rw kind refl)

-- a version that nobody issued is not repeated
pub recorded_new : (t : TraceValue) (e : EntryValue) (v : Version) (new : List EntryValue) → e.kind ≡ Content → entry_version e ≡ Some v → issuer t.entries v ≡ None → new ≡ t.entries ++ e ∷ []
    → recorded t e ≡ Ok (record t { entries = new })
recorded_new t e v new kind some none pushed =
    let fresh : is_repeated t.entries e ≡ false = rw (kind, some, none) refl in
    rw (fresh, pushed) refl

pub not_there : (o : Option ℕ) → is_some o ≡ false → o ≡ None
not_there None h = refl
not_there (Some n) h = absurd (true≢false h)

-- what is kept of an entry
kept_of : (rs : List Recorded) (i : ℕ) (e : EntryValue) → slice_get (shown rs) i ≡ Some e → (r : Recorded) × (slice_get rs i ≡ Some r) × (r.entry ≡ e)
kept_of rs i e at = pick (slice_get rs i) refl (sym (slice_get-map (λ (r : Recorded). r.entry) rs i) ∙ at)
  where
    pick : (o : Option Recorded) → slice_get rs i ≡ o → option_map (λ (r : Recorded). r.entry) o ≡ Some e → (r : Recorded) × (slice_get rs i ≡ Some r) × (r.entry ≡ e)
    pick None k h = absurd cc
    pick (Some r) k h = (r, k, cc)

-- an entry is the one that stands at a number
abbrev pub IsEntryAt : List Recorded → ℕ → EntryValue → Type 0
IsEntryAt rs i e = (r : Recorded) → slice_get rs i ≡ Some r → e ≡ r.entry

pub entry_recorded : (rs : List Recorded) (i : ℕ) (e : EntryValue) → i < length (shown rs) → IsEntryAt rs i e → slice_get (shown rs) i ≡ Some e
entry_recorded rs i e lt is =
    let there = slice_get-get_or (shown rs) i e lt in
    let kept = kept_of rs i (get_or (shown rs) i e) there in
    there ∙ ap (λ (x : EntryValue). Some x) (sym (is kept.0 kept.1 ∙ kept.2))

-- where an entry stands that was looked up
pub placed_recorded : (lines : List ℕ) (rs : List Recorded) (i : ℕ) (e : EntryValue) → All (IsPlaced lines) (shown rs) → i < length (shown rs) → IsEntryAt rs i e → IsPlaced lines e
placed_recorded lines rs i e all lt is =
    let same = same_Some (get_or (shown rs) i e) e (sym (slice_get-get_or (shown rs) i e lt) ∙ entry_recorded rs i e lt is) in
    subst (λ (x : EntryValue). IsPlaced lines x) same (all i e lt)

-- what is kept beside it
pub content_recorded : (rs : List Recorded) (i : ℕ) (content : Option ℕ) → ((j : ℕ) → j < length (shown rs) → slice_get (contents rs) j ≡ Some (content_of (shown rs) j)) → i < length (shown rs)
    → ((r : Recorded) → slice_get rs i ≡ Some r → content ≡ r.content) → content ≡ content_of (shown rs) i
content_recorded rs i content named lt is =
    pick (slice_get rs i) refl (sym (slice_get-map (λ (x : Recorded). x.content) rs i) ∙ named i lt)
  where
    pick : (o : Option Recorded) → slice_get rs i ≡ o → option_map (λ (r : Recorded). r.content) o ≡ Some (content_of (shown rs) i) → content ≡ content_of (shown rs) i
    pick None k h = absurd cc
    pick (Some r) k h = let at = is r k in cc

-- ---- the versions among them

-- the number of an entry that issued a version
pub record IsIssuer (rs : List Recorded) (m n : ℕ) : Type 0 where
  pub issue : Issue
  pub here : slice_get (issued_by (shown rs)) m ≡ Some issue
  pub kept : Recorded
  pub there : slice_get rs n ≡ Some kept
  pub names : entry_version kept.entry ≡ Some issue.version
  pub first : issuer (shown rs) issue.version ≡ Some n

module _ (rs : List Recorded) (versions : Versions) (are : AreIssued versions (shown rs)) where
  pub issued_count : length versions.entries.items ≡ length (issued_by (shown rs))
  issued_count = ap length are.numbers ∙ length-map (issued_by (shown rs)) (λ (x : Issue). x.number)

  pub issuer_at : (m n : ℕ) → m < length (issued_by (shown rs)) → slice_get versions.entries.items m ≡ Some n → IsIssuer rs m n
  issuer_at m n below read =
      let place = at_place versions (shown rs) m are below in
      let is : place.issue.number ≡ n = same_Some place.issue.number n (sym place.number ∙ read) in
      let there : slice_get (shown rs) n ≡ Some place.entry = subst (λ (k : ℕ). slice_get (shown rs) k ≡ Some place.entry) is place.there in
      let kept = kept_of rs n place.entry there in
      record {
        issue = place.issue;
        here = place.here;
        kept = kept.0;
        there = kept.1;
        names = ap entry_version kept.2 ∙ place.names;
        first = are.once m place.issue place.here ∙ ap (λ (k : ℕ). Some k) is;
      }
