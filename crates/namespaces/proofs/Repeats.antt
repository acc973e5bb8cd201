-- Lists of names in which none stands twice.
use Rattle.std.proofs.Common.{◌≡◌, ℕ, true, false, List, [], ◌∷◌, ◌++◌, refl}
use Rattle.std.specs.Str.{bytes_eq}
use Rattle.std.specs.List.{list_any}
use Rattle.namespaces.specs.Adding.{has_repeats}
use Rattle.namespaces.specs.Lookup.{with_name}
use Rattle.rewrites.proofs.Names.{by_bool, one_name, other_name, same_name, or_false, or_true, list_any-append}

-- a name that stands before stands twice
pub has_repeats-there : (xs ys : List (List ℕ)) (q : List ℕ) → list_any (bytes_eq q) xs ≡ true → has_repeats (xs ++ q ∷ ys) ≡ true
has_repeats-there [] ys q h = cc
has_repeats-there (x ∷ xs) ys q h = by_bool (bytes_eq q x)
    (λ t. rw (list_any-append (bytes_eq x) xs (q ∷ ys), ← one_name q x t, same_name q, or_true (list_any (bytes_eq q) xs)) refl)
    (λ f. rw (has_repeats-there xs ys q (rw f at h), or_true (list_any (bytes_eq x) (xs ++ q ∷ ys))) refl)

-- a name that does not stand before stands once
pub has_repeats-push : (xs : List (List ℕ)) (q : List ℕ) → has_repeats xs ≡ false → list_any (bytes_eq q) xs ≡ false → has_repeats (xs ++ q ∷ []) ≡ false
has_repeats-push [] q once new = refl
has_repeats-push (x ∷ xs) q once new =
    let o = or_false (list_any (bytes_eq x) xs) (has_repeats xs) once in
    let n = or_false (bytes_eq q x) (list_any (bytes_eq q) xs) new in
    rw (list_any-append (bytes_eq x) xs (q ∷ []), o.0, other_name q x n.0) (has_repeats-push xs q o.1 n.1)

pub has_repeats-with_name : (xs : List (List ℕ)) (q : List ℕ) → has_repeats xs ≡ false → has_repeats (with_name xs q) ≡ false
has_repeats-with_name xs q once = by_bool (list_any (bytes_eq q) xs) (λ t. rw t once) (λ f. rw f (has_repeats-push xs q once f))
