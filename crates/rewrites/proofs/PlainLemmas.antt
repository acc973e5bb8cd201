-- What children join to a plain form of, where they are nested, repeated or alone.
use Rattle.std.proofs.Common.{◌≡◌, zero, suc, Bool, true, List, [], ◌∷◌, ◌++◌, refl, inl, inr, append_assoc, arith}
use Rattle.std.proofs.lemmas.List.{append-nil}
use Rattle.std.proofs.lemmas.List.Folds.{list_any-append}
use Rattle.std.specs.List.{list_any}
use Rattle.std.specs.Prelude.{Contains}
use Rattle.rewrites.specs.Expression.{Expression, minus}
use Rattle.rewrites.specs.Joints.{joined, IsPut, JoinPlain}
use Rattle.rewrites.specs.Leaves.{leaves_in}
use Rattle.rewrites.specs.Plain.{leaves, IsThinned, IsPlainOf}
use Rattle.rewrites.specs.declared.plain.Joint.{Joint}
use Rattle.rewrites.proofs.AlikeLemmas.{alike_itself, alike_then, minus_alike}
use Rattle.rewrites.proofs.AlikeLemmas.{put_alike, joined_on_alike, put_nested}
use Rattle.rewrites.proofs.Names.{or_true}
use Rattle.rewrites.proofs.ThinnedLemmas.{thinned_itself, thinned_then, thinned_both, thinned_again}

-- ---- the leaves of children

leaves_in-append : (es fs : List Expression) → leaves_in (es ++ fs) ≡ leaves_in es ++ leaves_in fs
leaves_in-append [] fs = refl
leaves_in-append (e ∷ es) fs = rw (leaves_in-append es fs, append_assoc) refl

pub leaves_in-push : (es : List Expression) (e : Expression) → leaves_in (es ++ e ∷ []) ≡ leaves_in es ++ leaves e
leaves_in-push es e = rw (leaves_in-append es (e ∷ []), append-nil (leaves e)) refl

-- those of a child that stands there
pub any_inside : (test : Expression → Bool) (es : List Expression) (e : Expression) → Contains es e
    → list_any test (leaves e) ≡ true → list_any test (leaves_in es) ≡ true
any_inside test [] e (k, within, is) t = absurd (omega arith)
any_inside test (f ∷ es) e (zero, within, is) t = rw (list_any-append test (leaves f) (leaves_in es), is, t) refl
any_inside test (f ∷ es) e (suc k, within, is) t =
    let further = any_inside test es e (k, omega (arith, within), is) t in
    rw (list_any-append test (leaves f) (leaves_in es), further) (or_true (list_any test (leaves f)))

-- both ways of joining have the leaves of the children
leaves_joined : (j : Joint) (es : List Expression) → leaves (joined j es) ≡ leaves_in es
leaves_joined Joint.Union es = refl
leaves_joined Joint.Inter es = refl

joined_thinned : (j : Joint) (es fs : List Expression) → IsThinned (leaves_in es) (leaves_in fs)
    → IsThinned (leaves (joined j es)) (leaves (joined j fs))
joined_thinned j es fs h = rw (leaves_joined j es, leaves_joined j fs) h

thinned_joined : (j : Joint) (es fs : List Expression) → IsThinned (leaves (joined j es)) (leaves (joined j fs))
    → IsThinned (leaves_in es) (leaves_in fs)
thinned_joined j es fs h = rw (leaves_joined j es, leaves_joined j fs) at h

-- ---- plain forms of one rule

pub plain_itself : (e : Expression) → IsPlainOf e e
plain_itself e = record { alike = alike_itself e; thinned = thinned_itself (leaves e) }

pub plain_then : (a b c : Expression) → IsPlainOf a b → IsPlainOf b c → IsPlainOf a c
plain_then a b c p q = record {
  alike = alike_then a b c p.alike q.alike;
  thinned = thinned_then (leaves a) (leaves b) (leaves c) p.thinned q.thinned;
}

pub plain_minus : (x y a b c d : Expression) → x ≡ minus a c → y ≡ minus b d → IsPlainOf a b → IsPlainOf c d
    → IsPlainOf x y
plain_minus x y a b c d x_is y_is p q = rw (x_is, y_is) (record {
  alike = minus_alike a b c d p.alike q.alike;
  thinned = thinned_both (leaves a) (leaves b) (leaves c) (leaves d) p.thinned q.thinned;
})

-- ---- one child more

put_thinned : (old new : List Expression) (e : Expression) → IsPut old new e
    → IsThinned (leaves_in new) (leaves_in (old ++ e ∷ []))
put_thinned old new e (inl is) = rw is (thinned_itself (leaves_in (old ++ e ∷ [])))
put_thinned old new e (inr (is, there)) =
    rw (is, leaves_in-push old e) (thinned_again (leaves_in old) (leaves e) (λ test t. any_inside test old e there t))

pub put_plain : (j : Joint) (old new : List Expression) (e : Expression) → IsPut old new e
    → JoinPlain j new (old ++ e ∷ [])
put_plain j old new e put = record {
  alike = put_alike j old new e put;
  thinned = joined_thinned j new (old ++ e ∷ []) (put_thinned old new e put);
}

-- the children of a join, put into a join of its kind
pub put_nested_plain : (j : Joint) (old new fs : List Expression) (e : Expression) → e ≡ joined j fs
    → JoinPlain j new (old ++ fs) → JoinPlain j new (old ++ e ∷ [])
put_nested_plain j old new fs e is put = record {
  alike = put_nested j old new fs e is put.alike;
  thinned = joined_thinned j new (old ++ e ∷ [])
      (let h = thinned_joined j new (old ++ fs) put.thinned in
      rw (leaves_in-push old e, is, leaves_joined j fs, ← leaves_in-append old fs) h);
}

-- ---- where others that are left stay behind

on_thinned : (old new rest all : List Expression) (e : Expression)
    → IsThinned (leaves_in new) (leaves_in old ++ leaves e) → IsThinned (leaves_in (old ++ e ∷ rest)) (leaves_in all)
    → IsThinned (leaves_in (new ++ rest)) (leaves_in all)
on_thinned old new rest all e put left =
    let behind : IsThinned (leaves_in new ++ leaves_in rest) ((leaves_in old ++ leaves e) ++ leaves_in rest) =
    thinned_both (leaves_in new) (leaves_in old ++ leaves e) (leaves_in rest) (leaves_in rest) put
    (thinned_itself (leaves_in rest)) in
    thinned_then (leaves_in (new ++ rest)) (leaves_in (old ++ e ∷ rest)) (leaves_in all)
    (rw (leaves_in-append new rest, leaves_in-append old (e ∷ rest), ← append_assoc) behind) left

pub joined_on_plain : (j : Joint) (old new rest all : List Expression) (e f : Expression) → IsPlainOf f e
    → JoinPlain j new (old ++ f ∷ []) → JoinPlain j (old ++ e ∷ rest) all → JoinPlain j (new ++ rest) all
joined_on_plain j old new rest all e f plain put left = record {
  alike = joined_on_alike j old new rest all e f plain.alike put.alike left.alike;
  thinned = joined_thinned j (new ++ rest) all
      (on_thinned old new rest all e
      (thinned_then (leaves_in new) (leaves_in old ++ leaves f) (leaves_in old ++ leaves e)
      (rw (leaves_in-push old f) at (thinned_joined j new (old ++ f ∷ []) put.thinned))
      (thinned_both (leaves_in old) (leaves_in old) (leaves f) (leaves e)
      (thinned_itself (leaves_in old)) plain.thinned))
      (thinned_joined j (old ++ e ∷ rest) all left.thinned));
}

pub joined_on_itself : (j : Joint) (old new rest all : List Expression) (e : Expression)
    → JoinPlain j new (old ++ e ∷ []) → JoinPlain j (old ++ e ∷ rest) all → JoinPlain j (new ++ rest) all
joined_on_itself j old new rest all e put left = joined_on_plain j old new rest all e e (plain_itself e) put left
