-- Tuples that are told with their texts, one by one.
use Rattle.std.proofs.Common.{◌≡◌, ℕ, ◌+◌, ◌<◌, List, [], ◌∷◌, ◌++◌, length, take, drop, get_or, ◌≤◌, None, Some, inl, inr, ap, refl, sym, subst, ◌∙◌, append_assoc, add-one}
use Rattle.std.specs.Prelude.{All, slice_get}
use Rattle.std.proofs.Math.Seq.{drop-append_seam, take-append_seam, take-suc}
use Rattle.std.proofs.lemmas.List.{drop-map, map-append, take-map, take_more}
use Rattle.std.proofs.lemmas.List.Elements.{All-push}
use Rattle.std.proofs.lemmas.Option.{same_Some, slice_get-get_or, slice_get_cases, slice_get_within}
use Rattle.tuple_text.specs.Grammar.{IsTuple}
use Rattle.tuple_text.specs.TupleRefs.{tuple_value, tuple_values}
use Rattle.tuple_text.specs.declared.tuple_refs.TupleRef.{TupleRef}
use Rattle.version_chains.specs.Arena.{tuples_of}
use Rattle.version_chains.specs.Commits.{Commit}
use Rattle.version_chains.specs.Rows.{Kept}
use Rattle.version_chains.proofs.ArenaLemmas.{item_of}
use Rattle.version_chains.proofs.RowLemmas.{tuples-more}

-- the tuple of a row that was read
module _ (ks : List Kept) (i : ℕ) (k : Kept) (at : slice_get ks i ≡ Some k) where
  there : slice_get (tuples_of ks) i ≡ Some k.tuple
  there = item_of (λ (x : Kept). x.tuple) ks i k at

  pub told_within : i < length (tuples_of ks)
  told_within = slice_get_within (tuples_of ks) i k.tuple there

  pub told_is : k.tuple ≡ get_or (tuples_of ks) i k.tuple
  told_is = same_Some k.tuple (get_or (tuples_of ks) i k.tuple) (sym there ∙ slice_get-get_or (tuples_of ks) i k.tuple told_within)

  pub told_form : All IsTuple (tuples_of ks) → IsTuple k.tuple
  told_form all = subst IsTuple (sym told_is) (all i k.tuple told_within)

  -- borrowed behind those before it
  pub borrowed_more : (refs more : List TupleRef) (r : TupleRef) → tuple_values refs ≡ take i (tuples_of ks) → more ≡ refs ++ r ∷ [] → tuple_value r ≡ k.tuple
      → tuple_values more ≡ take (i + 1) (tuples_of ks)
  borrowed_more refs more r so pushed is =
      ap tuple_values pushed ∙ map-append tuple_value refs (r ∷ [])
      ∙ rw (so, is, add-one, take-suc (tuples_of ks) i k.tuple told_within, ← told_is) refl

-- nothing stands behind the last
pub none_past : (ks : List Kept) (i : ℕ) → slice_get ks i ≡ None → length ks ≤ i
none_past ks i none = elim (slice_get_cases ks i).1 [
  | inl there ↦ absurd cc
  | inr past ↦ past.0
]

-- a tuple behind others
module _ (front ks new : List Kept) (refs : List TupleRef) (i : ℕ) (r : TupleRef) (k : Kept) (within : i < length refs) (at : r ≡ get_or refs i r)
    (is : k.tuple ≡ tuple_value r) (pushed : new ≡ ks ++ k ∷ []) where
  pub told_more : tuples_of ks ≡ tuples_of front ++ tuple_values (take i refs) → tuples_of new ≡ tuples_of front ++ tuple_values (take (i + 1) refs)
  told_more so =
      let last : tuple_values (take (i + 1) refs) ≡ tuple_values (take i refs) ++ tuple_value r ∷ [] =
      ap tuple_values (take_more refs i r within) ∙ map-append tuple_value (take i refs) (get_or refs i r ∷ []) ∙ ap (λ (x : TupleRef). tuple_values (take i refs) ++ tuple_value x ∷ []) (sym at) in
      ap tuples_of pushed ∙ tuples-more ks k ∙ rw (so, is, last) (append_assoc (tuples_of front) (tuple_values (take i refs)) (tuple_value r ∷ []))

  pub form_more : All IsTuple (tuples_of ks) → IsTuple (tuple_value r) → All IsTuple (tuples_of new)
  form_more all form = subst (All IsTuple) (sym (ap tuples_of pushed ∙ tuples-more ks k ∙ rw is refl)) (All-push IsTuple (tuples_of ks) (tuple_value r) all form)

-- a commit whose tuples were parted where its adds end
pub split_commit : (c : Commit) (at n : ℕ) (refs front back : List TupleRef) → at ≡ c.at → n ≡ length c.adds → tuple_values refs ≡ c.adds ++ c.removes
    → front ≡ take n refs → back ≡ drop n refs → record { at = at; adds = tuple_values front; removes = tuple_values back } ≡ c
split_commit c at n refs front back time count all first rest =
    let adds = ap tuple_values first ∙ sym (take-map tuple_value n refs) ∙ rw (all, count) (take-append_seam c.adds c.removes) in
    let removes = ap tuple_values rest ∙ sym (drop-map tuple_value n refs) ∙ rw (all, count) (drop-append_seam c.adds c.removes) in
    λ i. record { at = time i; adds = adds i; removes = removes i }
