-- Values that compare alike are the same.
use Rattle.std.proofs.Common.{◌≡◌, ℕ, true, List, ◌∙◌, ap}
use Rattle.std.specs.Cmp.{unsigned_Decides, first_so, second_so}
use Rattle.std.proofs.lemmas.Slice.Eq.{bytes_eq-Decides}
use Rattle.tuple_text.specs.Sets.{SetValue, set_eq}
use Rattle.tuple_text.specs.Tuples.{TupleValue, FactValue, tuple_of, fact_of}
use Rattle.tuple_text.specs.Order.{user_eq, tuple_eq, fact_eq}
use Rattle.tuple_text.specs.OrderLaws.{set_equiv, user_equiv, tuple_equiv, fact_equiv}
use Rattle.tuple_text.specs.declared.users.User.{User}
use Rattle.tuple_text.specs.declared.users.User.TheVariants.{Id, Set}

abbrev set_from : List ℕ → List ℕ → List ℕ → SetValue
set_from n i r = record { namespace = n; id = i; relation = r }

pub set_eq-same : (x y : SetValue) → set_eq x y ≡ true → x ≡ y
set_eq-same x y h =
    let rest = second_so _ _ h in
    ap (λ (v : List ℕ). set_from v x.id x.relation) ((bytes_eq-Decides x.namespace y.namespace).0 (first_so _ _ h))
    ∙ ap (λ (v : List ℕ). set_from y.namespace v x.relation) ((bytes_eq-Decides x.id y.id).0 (first_so _ _ rest))
    ∙ ap (λ (v : List ℕ). set_from y.namespace y.id v) ((bytes_eq-Decides x.relation y.relation).0 (second_so _ _ rest))

pub user_eq-same : (x y : User) → user_eq x y ≡ true → x ≡ y
user_eq-same (Id m) (Id n) h = ap Id ((unsigned_Decides m n).0 h)
user_eq-same (Id m) (Set t) h = cc
user_eq-same (Set s) (Id n) h = cc
user_eq-same (Set s) (Set t) h = ap Set (set_eq-same s t h)

pub tuple_eq-same : (x y : TupleValue) → tuple_eq x y ≡ true → x ≡ y
tuple_eq-same x y h =
    ap (λ (v : SetValue). tuple_of v x.user) (set_eq-same x.set y.set (first_so _ _ h))
    ∙ ap (λ (v : User). tuple_of y.set v) (user_eq-same x.user y.user (second_so _ _ h))

pub fact_eq-same : (x y : FactValue) → fact_eq x y ≡ true → x ≡ y
fact_eq-same x y h =
    ap (λ (v : SetValue). fact_of v x.user) (set_eq-same x.set y.set (first_so _ _ h))
    ∙ ap (λ (n : ℕ). fact_of y.set n) ((unsigned_Decides x.user y.user).0 (second_so _ _ h))

pub set_eq-itself : (x : SetValue) → set_eq x x ≡ true
set_eq-itself x = set_equiv.refl x

pub user_eq-itself : (x : User) → user_eq x x ≡ true
user_eq-itself x = user_equiv.refl x

pub tuple_eq-itself : (x : TupleValue) → tuple_eq x x ≡ true
tuple_eq-itself x = tuple_equiv.refl x

pub fact_eq-itself : (x : FactValue) → fact_eq x x ≡ true
fact_eq-itself x = fact_equiv.refl x
