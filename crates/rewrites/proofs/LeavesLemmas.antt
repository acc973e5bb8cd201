-- The leaves of a rule, each once.
use Rattle.std.proofs.Common.{◌≡◌, List, [], ◌++◌, Option, None, Some, inl, inr, refl, subst, append_assoc}
use Rattle.std.proofs.lemmas.List.{append-nil}
use Rattle.rewrites.specs.Expression.{Expression}
use Rattle.rewrites.specs.Joints.{IsPut}
use Rattle.rewrites.specs.Leaves.{leaves_in, AreLeavesOf, Collects}
use Rattle.rewrites.specs.Plain.{leaves, ArePlain, IsThinned}
use Rattle.rewrites.proofs.PlainLemmas.{leaves_in-push, any_inside}
use Rattle.rewrites.proofs.ThinnedLemmas.{thinned_itself, thinned_then, thinned_both, thinned_again}

collects_put : (old new : List Expression) (e : Expression) → IsPut old new e → Collects old new (leaves e)
collects_put old new e (inl is) = rw (is, leaves_in-push old e) (thinned_itself (leaves_in old ++ leaves e))
collects_put old new e (inr (is, there)) = rw is (thinned_again (leaves_in old) (leaves e) (λ test t. any_inside test old e there t))

pub collects_leaf : (old new : List Expression) (x e : Expression) → x ≡ e → IsPut old new x → Collects old new (leaves e)
collects_leaf old new x e is put = subst (λ (y : Expression). Collects old new (leaves y)) is (collects_put old new x put)

-- those that are left stay behind
pub collects_on : (now next xs rest all : List Expression) → Collects now next xs
    → IsThinned (leaves_in now ++ (xs ++ rest)) all → IsThinned (leaves_in next ++ rest) all
collects_on now next xs rest all put left =
    thinned_then (leaves_in next ++ rest) (leaves_in now ++ (xs ++ rest)) all
    (rw append_assoc at (thinned_both (leaves_in next) (leaves_in now ++ xs) rest rest put (thinned_itself rest))) left

pub collects_both : (old now new xs ys : List Expression) → Collects old now xs → Collects now new ys → Collects old new (xs ++ ys)
collects_both old now new xs ys first second =
    thinned_then (leaves_in new) (leaves_in now ++ ys) (leaves_in old ++ (xs ++ ys)) second
    (rw append_assoc at (thinned_both (leaves_in now) (leaves_in old ++ xs) ys ys first (thinned_itself ys)))

pub collects_done : (now all : List Expression) → IsThinned (leaves_in now ++ []) all → IsThinned (leaves_in now) all
collects_done now all left = rw (append-nil (leaves_in now)) at left

-- ---- by the plain form of a rule, where it is found

pub plain_leaves : (es : List Expression) (a : Expression) (o : Option Expression) → AreLeavesOf es (Some a) → ArePlain (Some a) o → AreLeavesOf es o
plain_leaves es a None are plain = absurd plain
plain_leaves es a (Some b) are plain = thinned_then (leaves_in es) (leaves a) (leaves b) are plain.thinned

pub no_leaves : (o : Option Expression) → ArePlain None o → AreLeavesOf [] o
no_leaves None plain = refl
no_leaves (Some b) plain = absurd plain
