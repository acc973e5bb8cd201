-- Leaves that go through one tupleset, put together.
use Rattle.std.proofs.Common.{◌≡◌, ℕ, zero, suc, List, [], ◌∷◌, ◌++◌, Some, inl, inr, map, refl, sym, ◌∙◌, ap, subst, append_assoc, arith}
use Rattle.std.proofs.Math.Bool.{or_assoc, or_comm}
use Rattle.std.proofs.lemmas.List.{map-append}
use Rattle.std.proofs.lemmas.List.Folds.{list_any-append}
use Rattle.std.proofs.lemmas.List.Sums.{sum_by-append}
use Rattle.std.specs.List.{list_any}
use Rattle.std.specs.Prelude.{slice_get, slice_set}
use Rattle.rewrites.specs.Expression.{Expression}
use Rattle.rewrites.specs.Joints.{IsPut}
use Rattle.rewrites.specs.Leaves.{leaves_in, Collects}
use Rattle.rewrites.specs.Parts.{each_shown, part_expression, parts_shown}
use Rattle.rewrites.specs.Plain.{IsThinned, leaves}
use Rattle.rewrites.specs.declared.parts.Part.{Part}
use Rattle.rewrites.specs.declared.parts.Through.{Through}
use Rattle.rewrites.proofs.PlainLemmas.{any_inside, leaves_in-push}
use Rattle.rewrites.proofs.ThinnedLemmas.{thinned_again, thinned_both, thinned_itself, thinned_then}
use Rattle.goal_cone.specs.Leaves.{Grows}

-- the order of what comes behind does not matter
swapped : (xs ys zs : List Expression) → IsThinned ((xs ++ ys) ++ zs) ((xs ++ zs) ++ ys)
swapped xs ys zs = record {
  same = λ t. rw (list_any-append t (xs ++ ys) zs, list_any-append t xs ys, list_any-append t (xs ++ zs) ys, list_any-append t xs zs)
      (rw (
        or_assoc (list_any t xs) (list_any t ys) (list_any t zs),
        or_comm (list_any t ys) (list_any t zs),
        or_assoc (list_any t xs) (list_any t zs) (list_any t ys),
      ) refl);
  no_heavier = λ w. omega (arith, sum_by-append w (xs ++ ys) zs, sum_by-append w xs ys, sum_by-append w (xs ++ zs) ys, sum_by-append w xs zs);
}

pub put_grows : (old new : Through) (e : Expression) → leaves e ≡ e ∷ [] → IsPut (each_shown old) (each_shown new) e → Grows (Part.Through old) (Part.Through new) e
put_grows old new e leaf (inl is) = rw (is, leaves_in-push (each_shown old) e, leaf) (thinned_itself (leaves_in (each_shown old) ++ e ∷ []))
put_grows old new e leaf (inr (is, there)) =
    rw is (thinned_again (leaves_in (each_shown old)) (e ∷ []) (λ test t. any_inside test (each_shown old) e there (ap (list_any test) leaf ∙ t)))

-- a part that grew stands at its place
pub grown_at : (ps : List Part) (i : ℕ) (old new : Part) (e : Expression) → slice_get ps i ≡ Some old → Grows old new e
    → Collects (parts_shown ps) (parts_shown (slice_set ps i new)) (e ∷ [])
grown_at [] i old new e here grows = absurd cc
grown_at (p ∷ ps) zero old new e here grows =
    let same : p ≡ old = (let both : Some p ≡ Some old = here in cc) in
    let rest = leaves_in (parts_shown ps) in
    thinned_then (leaves (part_expression new) ++ rest) ((leaves (part_expression old) ++ e ∷ []) ++ rest) ((leaves (part_expression p) ++ rest) ++ e ∷ [])
    (thinned_both (leaves (part_expression new)) (leaves (part_expression old) ++ e ∷ []) rest rest grows (thinned_itself rest))
    (subst (λ (x : Part). IsThinned ((leaves (part_expression old) ++ e ∷ []) ++ rest) ((leaves (part_expression x) ++ rest) ++ e ∷ [])) (sym same)
    (swapped (leaves (part_expression old)) (e ∷ []) rest))
grown_at (p ∷ ps) (suc i) old new e here grows =
    let further = grown_at ps i old new e here grows in
    rw (append_assoc (leaves (part_expression p)) (leaves_in (parts_shown ps)) (e ∷ []))
    (thinned_both (leaves (part_expression p)) (leaves (part_expression p)) (leaves_in (parts_shown (slice_set ps i new))) (leaves_in (parts_shown ps) ++ e ∷ [])
    (thinned_itself (leaves (part_expression p))) further)

-- a part behind others
pub put_last : (ps : List Part) (p : Part) (es : List Expression) → leaves (part_expression p) ≡ es → Collects (parts_shown ps) (parts_shown (ps ++ p ∷ [])) es
put_last ps p es is =
    rw (map-append part_expression ps (p ∷ []), leaves_in-push (parts_shown ps) (part_expression p), is) (thinned_itself (leaves_in (parts_shown ps) ++ es))
