-- The entries of a cut.
use Rattle.std.proofs.Common.{◌≡◌, ℕ, zero, suc, ◌+◌, ◌-◌, ◌*◌, ◌<◌, List, [], ◌∷◌, ◌++◌, ap, ◌∙◌, arith, add-zero, append-nil}
use Rattle.std.specs.Prelude.{min}
use Rattle.std.specs.List.{range_with_len}
use Rattle.std.proofs.Math.Nat.{suc-mul}
use Rattle.std.proofs.lemmas.Grind.{flat_map-append, div_ceil_times}
use Rattle.slice_yard.specs.declared.slices.Slice.{Slice}
use Rattle.slice_yard.specs.Cut.{entries_of, slice_count}

range_append : (a n m : ℕ) → range_with_len a n ++ range_with_len (a + n) m ≡ range_with_len a (n + m)
range_append a zero m = (λ i. range_with_len (add-zero a i) m) ∙ ap (range_with_len a) (let z : m ≡ 0 + m = omega arith in z)
range_append a (suc n) m =
    let e : a + suc n ≡ (a + 1) + n = omega arith in
    let f : suc (n + m) ≡ suc n + m = omega arith in
    ap (λ l. a ∷ l) (ap (λ k. range_with_len (a + 1) n ++ range_with_len k m) e ∙ range_append (a + 1) n m) ∙ ap (range_with_len a) f

-- one slice more
pub entries_more : (slices new : List Slice) (s : Slice) (entries size number : ℕ) → new ≡ slices ++ s ∷ [] → entries_of slices ≡ range_with_len 0 (min entries (number * size)) → s.from ≡ number * size → s.count ≡ min size (entries - number * size)
    → number * size < entries → entries_of new ≡ range_with_len 0 (min entries ((number + 1) * size))
entries_more slices new s entries size number e so_far from count inside =
    let ranges : Slice → List ℕ = λ x. range_with_len x.from x.count in
    let a : min entries (number * size) ≡ number * size = omega arith in
    let p : (number + 1) * size ≡ number * size + size = ap (λ k. k * size) (let z : number + 1 ≡ suc number = omega arith in z) ∙ suc-mul number size in
    let b : number * size + min size (entries - number * size) ≡ min entries ((number + 1) * size) = omega arith in
    let z : number * size ≡ 0 + number * size = omega arith in
    ap entries_of e ∙ flat_map-append ranges slices (s ∷ []) ∙ ap (λ l. entries_of slices ++ l) (append-nil (ranges s))
    ∙ (λ i. (so_far ∙ ap (range_with_len 0) a) i ++ range_with_len ((from ∙ z) i) (count i)) ∙ range_append 0 (number * size) (min size (entries - number * size)) ∙ ap (range_with_len 0) b

pub all_entries : (entries size : ℕ) → 0 < size → min entries (slice_count entries size * size) ≡ entries
all_entries entries size some = let a = (div_ceil_times entries size some).0 in omega arith
