-- Reports that may be given to the entries of a slice, and of several.
use Rattle.std.proofs.Common.{◌≡◌, ℕ, zero, suc, ◌+◌, ◌<◌, List, [], ◌∷◌, ◌++◌, length, get_or, refl, ap, ◌∙◌, subst, sym, arith}
use Rattle.std.specs.List.{AllZip, range_with_len}
use Rattle.std.proofs.lemmas.List.{map-id}
use Rattle.std.proofs.lemmas.List.FromFn.{length-range_with_len, map-range_with_len_more}
use Rattle.std.proofs.lemmas.Slice.Zip.{AllZip-long, all_zipped_more}

-- as many as there are entries
pub given_length : {X : Type 0} (P : ℕ → X → Type 0) (from n : ℕ) (xs : List X) → AllZip P (range_with_len from n) xs → length xs ≡ n
given_length P from n xs given = AllZip-long P (range_with_len from n) xs given ∙ length-range_with_len from n

-- that of the entry at a place
pub given_at : {X : Type 0} (P : ℕ → X → Type 0) (from n k : ℕ) (d : X) (xs : List X) → AllZip P (range_with_len from n) xs → k < n → P (from + k) (get_or xs k d)
given_at P from zero k d xs given lt = absurd (omega (arith, lt))
given_at P from (suc n) k d [] given lt = absurd given
given_at P from (suc n) zero d (x ∷ xs) given lt = subst (λ (i : ℕ). P i x) (let z : from ≡ from + 0 = omega arith in z) given.0
given_at P from (suc n) (suc k) d (x ∷ xs) given lt =
    subst (λ (i : ℕ). P i (get_or xs k d)) (let z : (from + 1) + k ≡ from + suc k = omega arith in z) (given_at P (from + 1) n k d xs given.1 (omega (arith, lt)))

-- one more at the end
pub given_more : {X : Type 0} (P : ℕ → X → Type 0) (from n : ℕ) (xs now : List X) (x : X) → AllZip P (range_with_len from n) xs → P (from + n) x → now ≡ xs ++ x ∷ [] → AllZip P (range_with_len from (n + 1)) now
given_more {X} P from n xs now x given one is =
    let entries : range_with_len from n ++ (from + n) ∷ [] ≡ range_with_len from (n + 1) =
    sym (sym (map-id (range_with_len from (n + 1))) ∙ map-range_with_len_more (λ (i : ℕ). i) from n (from + n) refl ∙ ap (λ (l : List ℕ). l ++ (from + n) ∷ []) (map-id (range_with_len from n))) in
    subst (λ (l : List X). AllZip P (range_with_len from (n + 1)) l) (sym is)
    (subst (λ (l : List ℕ). AllZip P l (xs ++ x ∷ [])) entries (all_zipped_more P (range_with_len from n) xs (from + n) x given one))

-- those of two lists of entries
pub given_both : {X : Type 0} (P : ℕ → X → Type 0) (is js : List ℕ) (xs ys : List X) → AllZip P is xs → AllZip P js ys → AllZip P (is ++ js) (xs ++ ys)
given_both P [] js [] ys a b = b
given_both P [] js (x ∷ xs) ys a b = absurd a
given_both P (i ∷ is) js [] ys a b = absurd a
given_both P (i ∷ is) js (x ∷ xs) ys a b = (a.0, given_both P is js xs ys a.1 b)
