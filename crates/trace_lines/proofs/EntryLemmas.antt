-- Entries whose text goes on, and one more entry.
use Rattle.std.proofs.Common.{◌≡◌, ◌+◌, ◌-◌, ◌<◌, ℕ, Bool, true, false, List, [], ◌∷◌, ◌++◌, length, get_or, map, take, arith, refl, sym, ◌∙◌, ap, subst, Some, inl, inr}
use Rattle.std.specs.Prelude.{slice_get}
use Rattle.std.proofs.Math.Seq.{take-append_seam}
use Rattle.std.proofs.lemmas.List.{length-append, length-map, map-append, take-map}
use Rattle.tuple_text.specs.Grammar.{IsHead}
use Rattle.tuple_text.specs.Sets.{SetValue}
use Rattle.tuple_text.specs.Tuples.{fact_of}
use Rattle.marks.proofs.PlacedLemmas.{map-same_items, read_item, slice_get-cases}
use Rattle.version_chains.specs.Texts.{GoesOn, IsSpan}
use Rattle.version_chains.proofs.ArenaLemmas.{item_of}
use Rattle.version_chains.proofs.TextLemmas.{set-kept, span-kept}
use Rattle.trace_lines.specs.KeptEntries.{AreEntriesIn, IsEntryIn, label_in, number_at, piece, recorded_in, zookie_in}
use Rattle.trace_lines.specs.Recorded.{Recorded}
use Rattle.trace_lines.proofs.IssuedVersions.{slice_get-take}
use Rattle.trace_lines.specs.declared.entries.KeptEntry.{KeptEntry}

module _ (old new : List ℕ) (on : GoesOn old new) where
  pub label-kept : (there : Bool) (at len : ℕ) → (there ≡ true → IsSpan old (piece at len)) → label_in new there at len ≡ label_in old there at len
  label-kept true at len is = ap (λ (s : SetValue). Some s.namespace) (set-kept old new on (piece at len) (is refl))
  label-kept false at len is = refl

  pub entry-kept : (k : KeptEntry) → IsEntryIn old k → IsEntryIn new k
  entry-kept k is = record {
    goal = span-kept old new on k.goal is.goal;
    head = subst IsHead (sym (set-kept old new on k.goal is.goal)) is.head;
    label = λ there. span-kept old new on (piece k.label_at k.label_len) (is.label there);
  }

  recorded-same : (k : KeptEntry) → IsEntryIn old k → recorded_in new k ≡ recorded_in old k
  recorded-same k is = λ i. record {
    entry = record {
      kind = k.kind;
      line = k.line;
      goal = fact_of (set-kept old new on k.goal is.goal i) k.user;
      snapshot = k.snapshot;
      reply = k.reply;
      zookie = zookie_in k.zookie k.zookie_at;
      version = label-kept k.has_label k.label_at k.label_len is.label i;
      before = k.before;
    };
    content = number_at k.content;
  }

  pub entries-kept : (ks : List KeptEntry) → AreEntriesIn old ks → AreEntriesIn new ks
  entries-kept ks are i k at = entry-kept k (are i k at)

  pub all-recorded : (ks : List KeptEntry) → AreEntriesIn old ks → map (recorded_in new) ks ≡ map (recorded_in old) ks
  all-recorded ks are = map-same_items (recorded_in new) (recorded_in old) ks (λ i k at. recorded-same k (are i k at))

-- the entry that was read at a number
module _ (text : List ℕ) (ks : List KeptEntry) (rs : List Recorded) (is : map (recorded_in text) ks ≡ rs) (i : ℕ) (within : i < length rs) (k : KeptEntry)
    (read : k ≡ get_or ks i k) where
  there : slice_get ks i ≡ Some k
  there = read_item ks ks i k refl (subst (λ n. i < n) (ap length (sym is) ∙ length-map ks (recorded_in text)) within) read

  pub entry_in : AreEntriesIn text ks → IsEntryIn text k
  entry_in are = are i k there

  pub entry_is : (r : Recorded) → slice_get rs i ≡ Some r → recorded_in text k ≡ r
  entry_is r at =
      let same : Some (recorded_in text k) ≡ Some r = sym (item_of (recorded_in text) ks i k there) ∙ ap (λ (xs : List Recorded). slice_get xs i) is ∙ at in
      cc

-- one more entry
module _ (text : List ℕ) (ks more : List KeptEntry) (k : KeptEntry) (is : more ≡ ks ++ k ∷ []) where
  pub entries-more : AreEntriesIn text ks → IsEntryIn text k → AreEntriesIn text more
  entries-more are new i x at = elim (slice_get-cases ks k i x (subst (λ (xs : List KeptEntry). slice_get xs i ≡ Some x) is at)) [
    | inl old ↦ are i x old
    | inr last ↦ subst (IsEntryIn text) last.1 new
  ]

  pub recorded-more : map (recorded_in text) more ≡ map (recorded_in text) ks ++ recorded_in text k ∷ []
  recorded-more = ap (map (recorded_in text)) is ∙ map-append (recorded_in text) ks (k ∷ [])

-- the last entry taken away
module _ (text : List ℕ) (ks less : List KeptEntry) (is : less ≡ take (length ks - 1) ks) where
  pub entries-less : AreEntriesIn text ks → AreEntriesIn text less
  entries-less are i k at = are i k (slice_get-take (length ks - 1) ks i k (subst (λ (xs : List KeptEntry). slice_get xs i ≡ Some k) is at)).1

  pub recorded-less : (rs : List Recorded) (r : Recorded) → map (recorded_in text) ks ≡ rs ++ r ∷ [] → map (recorded_in text) less ≡ rs
  recorded-less rs r whole =
      let count : length ks ≡ length rs + 1 = sym (length-map ks (recorded_in text)) ∙ ap length whole ∙ length-append rs (r ∷ []) in
      let size : length ks - 1 ≡ length rs = omega (arith, count) in
      ap (map (recorded_in text)) is ∙ sym (take-map (recorded_in text) (length ks - 1) ks) ∙ rw (whole, size) (take-append_seam rs (r ∷ []))

  pub recorded-none : map (recorded_in text) ks ≡ [] → map (recorded_in text) less ≡ []
  recorded-none none =
      let size : length ks - 1 ≡ 0 = omega (arith, sym (length-map ks (recorded_in text)) ∙ ap length none) in
      ap (map (recorded_in text)) (is ∙ ap (λ (n : ℕ). take n ks) size)
