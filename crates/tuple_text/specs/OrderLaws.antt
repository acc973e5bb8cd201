-- The laws of the equality and the order of usersets, users, tuples and facts.
use Rattle.std.specs.Prelude.{◌≡◌, true, refl}
use Rattle.std.specs.declared.cmp.Ordering.TheVariants.{Less, Equal}
use Rattle.std.specs.Ordering.{ordering_reverse, nat_cmp, eq_by_cmp}
use Rattle.std.specs.Cmp.{IsTotalOrder, IsEquivalence, nat_cmp_total, nat_eq_equiv, on_total, then_total, on_equiv, and_equiv, unsigned_ties, both_tied}
use Rattle.std.specs.Cmp.Lexicographic.{nat_list_cmp_total, nat_list_eq_equiv, texts_ties, slice_cmp}
use Rattle.tuple_text.specs.Sets.{SetValue, set_eq, set_cmp}
use Rattle.tuple_text.specs.Tuples.{TupleValue, FactValue}
use Rattle.tuple_text.specs.Order.{user_eq, user_cmp, tuple_eq, tuple_cmp, fact_eq, fact_cmp}
use Rattle.tuple_text.specs.declared.users.User.{User}
use Rattle.tuple_text.specs.declared.users.User.TheVariants.{Id, Set}

pub set_total : IsTotalOrder set_cmp
set_total =
    then_total (on_total (λ (s : SetValue). s.namespace) nat_list_cmp_total)
    (then_total (on_total (λ (s : SetValue). s.id) nat_list_cmp_total) (on_total (λ (s : SetValue). s.relation) nat_list_cmp_total))

pub set_equiv : IsEquivalence set_eq
set_equiv =
    and_equiv (on_equiv (λ (s : SetValue). s.namespace) nat_list_eq_equiv)
    (and_equiv (on_equiv (λ (s : SetValue). s.id) nat_list_eq_equiv) (on_equiv (λ (s : SetValue). s.relation) nat_list_eq_equiv))

pub set_ties : (x y : SetValue) → set_eq x y ≡ eq_by_cmp set_cmp x y
set_ties x y =
    both_tied _ _ (slice_cmp nat_cmp x.namespace y.namespace) _ (texts_ties x.namespace y.namespace)
    (both_tied _ _ (slice_cmp nat_cmp x.id y.id) (slice_cmp nat_cmp x.relation y.relation) (texts_ties x.id y.id) (texts_ties x.relation y.relation))

antisymm : (x y : User) → user_cmp x y ≡ ordering_reverse (user_cmp y x)
antisymm (Id m) (Id n) = nat_cmp_total.antisymm m n
antisymm (Id m) (Set t) = refl
antisymm (Set s) (Id n) = refl
antisymm (Set s) (Set t) = set_total.antisymm s t

trans : (x y z : User) → user_cmp x y ≡ Less → user_cmp y z ≡ Less → user_cmp x z ≡ Less
trans (Id m) (Id n) (Id k) = nat_cmp_total.trans m n k
trans (Id m) (Id n) (Set u) = λ h i. refl
trans (Id m) (Set t) (Id k) = λ h i. cc
trans (Id m) (Set t) (Set u) = λ h i. refl
trans (Set s) (Id n) (Id k) = λ h i. cc
trans (Set s) (Id n) (Set u) = λ h i. cc
trans (Set s) (Set t) (Id k) = λ h i. cc
trans (Set s) (Set t) (Set u) = set_total.trans s t u

congr : (x y z : User) → user_cmp x y ≡ Equal → user_cmp x z ≡ user_cmp y z
congr (Id m) (Id n) (Id k) = nat_cmp_total.congr m n k
congr (Id m) (Id n) (Set u) = λ h. refl
congr (Id m) (Set t) z = λ h. cc
congr (Set s) (Id n) z = λ h. cc
congr (Set s) (Set t) (Id k) = λ h. refl
congr (Set s) (Set t) (Set u) = set_total.congr s t u

pub user_total : IsTotalOrder user_cmp
user_total = record { antisymm = antisymm; trans = trans; congr = congr }

eq-refl : (x : User) → user_eq x x ≡ true
eq-refl (Id m) = nat_eq_equiv.refl m
eq-refl (Set s) = set_equiv.refl s

eq-symm : (x y : User) → user_eq x y ≡ user_eq y x
eq-symm (Id m) (Id n) = nat_eq_equiv.symm m n
eq-symm (Id m) (Set t) = refl
eq-symm (Set s) (Id n) = refl
eq-symm (Set s) (Set t) = set_equiv.symm s t

eq-congr : (x y z : User) → user_eq x y ≡ true → user_eq x z ≡ user_eq y z
eq-congr (Id m) (Id n) (Id k) = nat_eq_equiv.congr m n k
eq-congr (Id m) (Id n) (Set u) = λ h. refl
eq-congr (Id m) (Set t) z = λ h. cc
eq-congr (Set s) (Id n) z = λ h. cc
eq-congr (Set s) (Set t) (Id k) = λ h. refl
eq-congr (Set s) (Set t) (Set u) = set_equiv.congr s t u

pub user_equiv : IsEquivalence user_eq
user_equiv = record { refl = eq-refl; symm = eq-symm; congr = eq-congr }

pub user_ties : (x y : User) → user_eq x y ≡ eq_by_cmp user_cmp x y
user_ties (Id m) (Id n) = unsigned_ties m n
user_ties (Id m) (Set t) = refl
user_ties (Set s) (Id n) = refl
user_ties (Set s) (Set t) = set_ties s t

pub tuple_total : IsTotalOrder tuple_cmp
tuple_total = then_total (on_total (λ (t : TupleValue). t.set) set_total) (on_total (λ (t : TupleValue). t.user) user_total)

pub tuple_equiv : IsEquivalence tuple_eq
tuple_equiv = and_equiv (on_equiv (λ (t : TupleValue). t.set) set_equiv) (on_equiv (λ (t : TupleValue). t.user) user_equiv)

pub tuple_ties : (x y : TupleValue) → tuple_eq x y ≡ eq_by_cmp tuple_cmp x y
tuple_ties x y = both_tied _ _ (set_cmp x.set y.set) (user_cmp x.user y.user) (set_ties x.set y.set) (user_ties x.user y.user)

pub fact_total : IsTotalOrder fact_cmp
fact_total = then_total (on_total (λ (t : FactValue). t.set) set_total) (on_total (λ (t : FactValue). t.user) nat_cmp_total)

pub fact_equiv : IsEquivalence fact_eq
fact_equiv = and_equiv (on_equiv (λ (t : FactValue). t.set) set_equiv) (on_equiv (λ (t : FactValue). t.user) nat_eq_equiv)

pub fact_ties : (x y : FactValue) → fact_eq x y ≡ eq_by_cmp fact_cmp x y
fact_ties x y = both_tied _ _ (set_cmp x.set y.set) (nat_cmp x.user y.user) (set_ties x.set y.set) (unsigned_ties x.user y.user)
