-- Equality and order of users and tuples.
use Rattle.std.specs.Prelude.{Bool, false, nat_eq}
use Rattle.std.specs.declared.cmp.Ordering.{Ordering}
use Rattle.std.specs.declared.cmp.Ordering.TheVariants.{Less, Greater}
use Rattle.std.specs.Ordering.{nat_cmp, on, then_cmp, eq_of_both}
use Rattle.tuple_text.specs.Sets.{set_eq, set_cmp}
use Rattle.tuple_text.specs.Tuples.{TupleValue, FactValue}
use Rattle.tuple_text.specs.declared.users.User.{User}
use Rattle.tuple_text.specs.declared.users.User.TheVariants.{Id, Set}

abbrev pub user_eq : User → User → Bool
user_eq (Id m) (Id n) = nat_eq m n
user_eq (Id m) (Set t) = false
user_eq (Set s) (Id n) = false
user_eq (Set s) (Set t) = set_eq s t

-- ids come before usersets
abbrev pub user_cmp : User → User → Ordering
user_cmp (Id m) (Id n) = nat_cmp m n
user_cmp (Id m) (Set t) = Less
user_cmp (Set s) (Id n) = Greater
user_cmp (Set s) (Set t) = set_cmp s t

abbrev pub tuple_eq : TupleValue → TupleValue → Bool
tuple_eq = eq_of_both (on (λ t. t.set) set_eq) (on (λ t. t.user) user_eq)

-- by the userset, then by the user
abbrev pub tuple_cmp : TupleValue → TupleValue → Ordering
tuple_cmp = then_cmp (on (λ t. t.set) set_cmp) (on (λ t. t.user) user_cmp)

abbrev pub fact_eq : FactValue → FactValue → Bool
fact_eq = eq_of_both (on (λ f. f.set) set_eq) (on (λ f. f.user) nat_eq)

abbrev pub fact_cmp : FactValue → FactValue → Ordering
fact_cmp = then_cmp (on (λ f. f.set) set_cmp) (on (λ f. f.user) nat_cmp)
