-- Lists that have what others have, and weigh no more than they.
use Rattle.std.proofs.Common.{◌≡◌, Bool, true, List, ◌++◌, refl, ◌∙◌, arith}
use Rattle.std.proofs.lemmas.List.Folds.{list_any-append}
use Rattle.std.proofs.lemmas.List.Sums.{sum_by-append}
use Rattle.std.specs.List.{list_any}
use Rattle.rewrites.specs.Expression.{Expression}
use Rattle.rewrites.specs.Plain.{IsThinned}
use Rattle.rewrites.proofs.AlikeLemmas.{or_none}
use Rattle.rewrites.proofs.Names.{by_bool}

pub thinned_itself : (xs : List Expression) → IsThinned xs xs
thinned_itself xs = record { same = λ t. refl; no_heavier = λ w. omega arith }

pub thinned_then : (xs ys zs : List Expression) → IsThinned xs ys → IsThinned ys zs → IsThinned xs zs
thinned_then xs ys zs p q = record {
  same = λ t. p.same t ∙ q.same t;
  no_heavier = λ w. let a = p.no_heavier w in let b = q.no_heavier w in omega arith;
}

-- two lists behind one another
pub thinned_both : (xs ys us vs : List Expression) → IsThinned xs ys → IsThinned us vs
    → IsThinned (xs ++ us) (ys ++ vs)
thinned_both xs ys us vs p q = record {
  same = λ t. rw (list_any-append t xs us, list_any-append t ys vs, p.same t, q.same t) refl;
  no_heavier = λ w.
      let a = p.no_heavier w in
      let b = q.no_heavier w in
      omega (arith, sum_by-append w xs us, sum_by-append w ys vs);
}

-- a list without what stands in it already
pub thinned_again : (xs ys : List Expression)
    → ((test : Expression → Bool) → list_any test ys ≡ true → list_any test xs ≡ true) → IsThinned xs (xs ++ ys)
thinned_again xs ys again = record {
  same = λ t. by_bool (list_any t ys)
      (λ is. rw (list_any-append t xs ys, again t is) refl)
      (λ none. rw (list_any-append t xs ys, none, or_none (list_any t xs)) refl);
  no_heavier = λ w. omega (arith, sum_by-append w xs ys);
}
