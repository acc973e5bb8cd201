-- Versions that are known, by the entries that issued them.
use Rattle.std.proofs.Common.{◌≡◌, ℕ, ◌<◌, ◌≤◌, ◌==◌, ◌||◌, ◌&&◌, not, Bool, true, false, leb, ltb, List, Option, Some, None, refl, sym, ap, ◌∙◌, arith}
use Rattle.std.specs.Prelude.{Contains, IsTrue, is_some, is_none, option_map, slice_get}
use Rattle.std.specs.List.{list_any}
use Rattle.std.specs.List.Sorted.{IsStrictlyIncreasing}
use Rattle.std.proofs.lemmas.Bool.{le-leb, lt-ltb, ltb-true, and_parts, true≢false}
use Rattle.std.proofs.lemmas.List.Folds.{list_any_at}
use Rattle.std.proofs.lemmas.Option.{get_or_from_slice_get, slice_get_within}
use Rattle.tuple_text.specs.Sets.{SetValue}
use Rattle.token_order.specs.Found.{is_unknown_version}
use Rattle.token_order.proofs.Denials.{unknown_told}
use Rattle.token_order.proofs.Lines.{line_before}
use Rattle.trace_lines.specs.Values.{EntryValue, TraceValue, entry_lines}
use Rattle.trace_lines.specs.Versions.{AreIssuedOnce, Version, content_of, entry_version, issues, version_named, version_of}
use Rattle.trace_lines.specs.declared.entry.EntryKind.{EntryKind}
use Rattle.trace_lines.specs.declared.entry.EntryKind.TheVariants.{Check, Content}
use Rattle.trace_lines.proofs.IssuedVersions.{Means, named_content-means}
use Rattle.carry_laws.specs.Asked.{issues_between, knows_named, knows_version}
use Rattle.runs.specs.Alike.{names_some}
use Rattle.carry_laws.proofs.AlikeLemmas.{Passes, issued_from, one_passes}

pub named_some : (s : SetValue) (kind : EntryKind) (label : Option (List ℕ))
    → is_some (version_named kind (option_map (version_of s) label)) ≡ names_some kind label
named_some s Check None = refl
named_some s Check (Some l) = refl
named_some s Content None = refl
named_some s Content (Some l) = refl

module _ (t : TraceValue) (rising : IsStrictlyIncreasing (entry_lines t.entries)) (from i : ℕ) (e : EntryValue)
    (at : slice_get t.entries i ≡ Some e) (some : (from == 0) ≡ false) where
  abbrev named : Option Version
  named = version_named e.kind (entry_version e)

  by_issuers : (v : Version) → named ≡ Some v → knows_named from t.entries e ≡ list_any (issues_between from e.line v) t.entries
  by_issuers v is =
      ap (knows_version from t.entries e.line) is
      ∙ ap (λ (b : Bool). b || list_any (issues_between from e.line v) t.entries) some

  -- an entry whose version was issued knows it where its issuer stands behind the line
  pub knows_by_issuer : AreIssuedOnce t.entries → (j : ℕ) (c : EntryValue) → content_of t.entries i ≡ Some j
      → slice_get t.entries j ≡ Some c → knows_named from t.entries e ≡ leb from c.line
  knows_by_issuer once j c is there = by_name named refl
    where
      of_version : (v : Version) → named ≡ Some v → knows_named from t.entries e ≡ leb from c.line
      of_version v name = by_issuers v name ∙ by_line (leb from c.line) refl
        where
          m : Means t.entries v i j
          m = named_content-means t.entries i j e v at name is

          same : m.content ≡ c
          same = let both : Some m.content ≡ Some c = sym m.there ∙ there in cc

          issued : issues v c ≡ true
          issued = ap (issues v) (sym same) ∙ m.issued

          q : EntryValue → Bool
          q = issues_between from e.line v

          by_line : (b : Bool) → leb from c.line ≡ b → list_any q t.entries ≡ b
          by_line true behind =
              list_any_at q t.entries j c (slice_get_within t.entries j c there)
              (ap q (get_or_from_slice_get t.entries j c c there)
              ∙ ap (λ (b : Bool). b && (ltb c.line e.line && issues v c)) behind
              ∙ ap (λ (b : Bool). b && issues v c) (lt-ltb c.line e.line (line_before t rising i j e c at there m.earlier))
              ∙ issued)
          by_line false front = by_any (list_any q t.entries) refl
            where
              by_any : (b : Bool) → list_any q t.entries ≡ b → b ≡ false
              by_any false any = refl
              by_any true any =
                  let p : Passes q t.entries = one_passes q t.entries any in
                  let parts = issued_from from e.line v p.entry p.passes in
                  let one : p.place ≡ j = once v p.place j p.entry c p.there there parts.1 issued in
                  let is_c : p.entry ≡ c = (let both : Some p.entry ≡ Some c = sym p.there ∙ ap (slice_get t.entries) one ∙ there in cc) in
                  let low : leb from c.line ≡ true = ap (λ (x : EntryValue). leb from x.line) (sym is_c) ∙ le-leb from p.entry.line parts.0 in
                  absurd (true≢false (sym low ∙ front))

      by_name : (o : Option Version) → named ≡ o → knows_named from t.entries e ≡ leb from c.line
      by_name (Some v) name = of_version v name
      by_name None name =
          let none : content_of t.entries i ≡ None = rw (at, name) refl in
          let no : None ≡ Some j = sym none ∙ is in absurd cc

  -- one whose version nobody issued in front of it does not know it
  pub knows_by_none : content_of t.entries i ≡ None → knows_named from t.entries e ≡ not (is_some named)
  knows_by_none none = by_name named refl
    where
      by_name : (o : Option Version) → named ≡ o → knows_named from t.entries e ≡ not (is_some o)
      by_name None name = ap (knows_version from t.entries e.line) name
      by_name (Some v) name = by_issuers v name ∙ by_any (list_any (issues_between from e.line v) t.entries) refl
        where
          unknown : is_unknown_version t i e ≡ true
          unknown = rw (name, none) refl

          by_any : (b : Bool) → list_any (issues_between from e.line v) t.entries ≡ b → b ≡ false
          by_any false any = refl
          by_any true any =
              let p : Passes (issues_between from e.line v) t.entries = one_passes (issues_between from e.line v) t.entries any in
              let told = unknown_told t rising i e at unknown in
              absurd (nobody told p)
            where
              nobody : (told : (w : Version) × (named ≡ Some w) × ((c : EntryValue) → Contains t.entries c → c.line < e.line → ¬ IsTrue (issues w c)))
                  → Passes (issues_between from e.line v) t.entries → ⊥
              nobody told p =
                  let parts = issued_from from e.line v p.entry p.passes in
                  let same : told.0 ≡ v = (let both : Some told.0 ≡ Some v = sym told.1 ∙ name in cc) in
                  told.2 p.entry
                  (p.place, slice_get_within t.entries p.place p.entry p.there, get_or_from_slice_get t.entries p.place p.entry p.entry p.there)
                  (ltb-true p.entry.line e.line (and_parts (ltb p.entry.line e.line) (issues v p.entry)
                  (and_parts (leb from p.entry.line) (ltb p.entry.line e.line && issues v p.entry) p.passes).1).0)
                  (ap (λ (w : Version). issues w p.entry) same ∙ parts.1)
