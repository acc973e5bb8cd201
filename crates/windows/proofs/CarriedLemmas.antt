-- Content checks that are carried into a window are those that its entries name.
use Rattle.std.proofs.Common.{◌≡◌, ℕ, Bool, true, false, cond, List, [], ◌∷◌, take, drop, map, Option, Some, None, refl, sym, ◌∙◌, ap}
use Rattle.std.specs.Prelude.{slice_get, filter, option_map, option_and_then}
use Rattle.std.specs.List.{position_from}
use Rattle.std.proofs.lemmas.List.{take-append-drop}
use Rattle.trace_lines.specs.Values.{EntryValue, TraceValue}
use Rattle.trace_lines.specs.Versions.{Version, entry_version, version_named, issues, content_of}
use Rattle.findings.proofs.PartLemmas.{first_that, at_place, first_kept}
use Rattle.windows.specs.Nearest.{content_entry}
use Rattle.windows.specs.Windows.{IsCopy, NamesTheSame, face, Carries}

-- the first of some entries that issued what an entry names
abbrev first_issuer : List EntryValue → Option Version → Option EntryValue
first_issuer es o = option_and_then (λ v. first_that (issues v) es) o

issuer_is : (es : List EntryValue) (i : ℕ) (e : EntryValue) → slice_get es i ≡ Some e
    → option_and_then (slice_get es) (content_of es i) ≡ first_issuer (take i es) (version_named e.kind (entry_version
    e))
issuer_is es i e at = rw at (by_name (version_named e.kind (entry_version e)))
  where
    by_name : (o : Option Version)
        → option_and_then (slice_get es) (option_and_then (λ v. position_from (issues v) 0 (take i es)) o) ≡
        first_issuer (take i es) o
    by_name None = refl
    by_name (Some v) =
        ap (λ (xs : List EntryValue). option_and_then (slice_get xs) (position_from (issues v) 0 (take i es))) (sym
        (take-append-drop i es))
        ∙ at_place (issues v) [] (take i es) (drop i es)

first_mapped : (f : EntryValue → EntryValue) (test : EntryValue → Bool) → ((x : EntryValue) → test (f x) ≡ test x)
    → (xs : List EntryValue) → first_that test (map f xs) ≡ option_map f (first_that test xs)
first_mapped f test same [] = refl
first_mapped f test same (x ∷ xs) = ap (λ (b : Bool). cond b (Some (f x)) (first_that test (map f xs))) (same x)
    ∙ by_test (first_mapped f test same xs) (test x)
  where
    by_test : first_that test (map f xs) ≡ option_map f (first_that test xs) → (b : Bool)
        → cond b (Some (f x)) (first_that test (map f xs)) ≡ option_map f (cond b (Some x) (first_that test xs))
    by_test rest true = refl
    by_test rest false = rest

module _ (g : ℕ
    → ℕ) (t w : TraceValue) (i j : ℕ) (e d : EntryValue) (at : slice_get t.entries i ≡ Some e) (there : slice_get
    w.entries j ≡ Some d) (same : IsCopy g e d) (carries : Carries g t i e w j) where
  named : version_named d.kind (entry_version d) ≡ version_named e.kind (entry_version e)
  named = ap (λ (x : EntryValue). version_named x.kind (entry_version x)) (sym same)

  by_name : (o : Option Version) → version_named e.kind (entry_version e) ≡ o
      → option_map (face (λ l. l)) (first_issuer (take i t.entries) o) ≡ option_map (face g) (first_issuer (take j
      w.entries) o)
  by_name None is = refl
  by_name (Some v) is =
      ap (option_map (face (λ l. l))) (sym (first_kept carries.keep (issues v) (carries.issuers v is) (take i
      t.entries)))
      ∙ sym (first_mapped (face (λ l. l)) (issues v) (λ x. refl) (filter carries.keep (take i t.entries)))
      ∙ ap (first_that (issues v)) (sym carries.faces)
      ∙ first_mapped (face g) (issues v) (λ x. refl) (take j w.entries)

  faces : option_map (face (λ l. l)) (content_entry t i) ≡ option_map (face g) (content_entry w j)
  faces =
      ap (option_map (face (λ l. l))) (issuer_is t.entries i e at)
      ∙ by_name (version_named e.kind (entry_version e)) refl
      ∙ ap (λ (o : Option Version). option_map (face g) (first_issuer (take j w.entries) o)) (sym named)
      ∙ ap (option_map (face g)) (sym (issuer_is w.entries j d there))

  seen_as : (f : EntryValue → ℕ) (k : ℕ → ℕ) (o : Option EntryValue)
      → option_map f (option_map (face k) o) ≡ option_map (λ (x : EntryValue). f (face k x)) o
  seen_as f k None = refl
  seen_as f k (Some x) = refl

  by_number : (f : EntryValue → ℕ)
      → option_map (λ (x : EntryValue). f (face (λ l. l) x)) (content_entry t i) ≡ option_map (λ (x : EntryValue). f
      (face g x)) (content_entry w j)
  by_number f = sym (seen_as f (λ l. l) (content_entry t i)) ∙ ap (option_map f) faces ∙ seen_as f g (content_entry w j)

  pub names_carried : NamesTheSame g t i w j
  names_carried = record { snapshot = by_number (λ x. x.snapshot); line = by_number (λ x. x.line) }
