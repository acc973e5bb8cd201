-- What a contract sees of a `Tuple` and of a `Fact`.
use Rattle.std.specs.Prelude.{ℕ}
use Rattle.tuple_text.specs.Sets.{SetValue}
use Rattle.tuple_text.specs.declared.users.User.{User}
use Rattle.tuple_text.specs.declared.users.User.TheVariants.{Id}

-- a tuple: a user is in a userset
pub record TupleValue : Type 0 where
  pub set : SetValue
  pub user : User

-- a fact: a user id is in a userset
pub record FactValue : Type 0 where
  pub set : SetValue
  pub user : ℕ

-- the tuple of a userset and a user
abbrev pub tuple_of : SetValue → User → TupleValue
tuple_of s u = record { set = s; user = u }

-- the fact of a userset and a user id
abbrev pub fact_of : SetValue → ℕ → FactValue
fact_of s n = record { set = s; user = n }

-- a fact as a tuple
abbrev pub fact_tuple : FactValue → TupleValue
fact_tuple f = tuple_of f.set (Id f.user)
