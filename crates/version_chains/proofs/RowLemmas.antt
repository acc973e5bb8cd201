-- One more tuple that is kept, and one whose newest touch is another.
use Rattle.std.proofs.Common.{◌≡◌, ℕ, List, [], ◌∷◌, ◌++◌, length, map, refl, sym, ◌∙◌, ap, Option, None, Some, zero, suc}
use Rattle.std.specs.Prelude.{slice_get, slice_set, option_map}
use Rattle.std.proofs.lemmas.List.{map-append, map-set}
use Rattle.std.proofs.lemmas.Option.{slice_get-map}
use Rattle.tuple_text.specs.Tuples.{TupleValue}
use Rattle.version_chains.specs.Arena.{latest_of, tuples_of}
use Rattle.version_chains.specs.Rows.{Kept}
use Rattle.marks.proofs.PlacedLemmas.{length-set}

module _ (rows : List Kept) (row : Kept) where
  pub tuples-more : tuples_of (rows ++ row ∷ []) ≡ tuples_of rows ++ row.tuple ∷ []
  tuples-more = map-append (λ (r : Kept). r.tuple) rows (row ∷ [])

  pub latest-more : latest_of (rows ++ row ∷ []) ≡ latest_of rows ++ row.latest ∷ []
  latest-more = map-append (λ (r : Kept). r.latest) rows (row ∷ [])

-- what is kept of the tuple of a number
pub row-kept : (rows : List Kept) (i : ℕ) (t : TupleValue) → slice_get (tuples_of rows) i ≡ Some t → (r : Kept) × (slice_get rows i ≡ Some r) × (r.tuple ≡ t)
row-kept rows i t at = pick (slice_get rows i) refl (sym (slice_get-map (λ (r : Kept). r.tuple) rows i) ∙ at)
  where
    pick : (o : Option Kept) → slice_get rows i ≡ o → option_map (λ (r : Kept). r.tuple) o ≡ Some t → (r : Kept) × (slice_get rows i ≡ Some r) × (r.tuple ≡ t)
    pick None e h = absurd cc
    pick (Some r) e h = (r, e, cc)

-- an item gives way to one that a function does not tell from it
same-set : {X Y : Type 0} (f : X → Y) (xs : List X) (i : ℕ) (x y : X) → slice_get xs i ≡ Some x → f y ≡ f x → map f (slice_set xs i y) ≡ map f xs
same-set f [] i x y at same = refl
same-set f (z ∷ zs) zero x y at same = let is : z ≡ x = cc in ap (λ k. k ∷ map f zs) (same ∙ ap f (sym is))
same-set f (z ∷ zs) (suc i) x y at same = ap (λ ks. f z ∷ ks) (same-set f zs i x y at same)

-- with another place for its newest touch
module _ (rows : List Kept) (i : ℕ) (row : Kept) (at : slice_get rows i ≡ Some row) (place : ℕ) where
  abbrev pub touched : Kept
  touched = record { tuple = row.tuple; latest = place }

  pub length-touched : length (slice_set rows i touched) ≡ length rows
  length-touched = length-set rows i touched

  pub tuples-touched : tuples_of (slice_set rows i touched) ≡ tuples_of rows
  tuples-touched = same-set (λ (r : Kept). r.tuple) rows i row touched at refl

  pub latest-touched : latest_of (slice_set rows i touched) ≡ slice_set (latest_of rows) i place
  latest-touched = map-set (λ (r : Kept). r.latest) rows i touched
