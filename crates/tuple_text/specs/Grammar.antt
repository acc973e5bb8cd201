-- The texts of usersets, users, tuples and facts, and which values have one.
use Rattle.std.specs.Prelude.{◌≡◌, ℕ, ◌∷◌, ◌++◌, ◌<◌, ◌^◌, true, List}
use Rattle.std.specs.Fmt.{decimal}
use Rattle.tuple_text.specs.Sets.{SetValue}
use Rattle.tuple_text.specs.Forms.{IsUserset, is_name}
use Rattle.tuple_text.specs.Tuples.{TupleValue, FactValue}
use Rattle.tuple_text.specs.declared.users.User.{User}
use Rattle.tuple_text.specs.declared.users.User.TheVariants.{Id, Set}

-- `namespace:id#relation`
abbrev pub userset_text : SetValue → List ℕ
userset_text s = s.namespace ++ (58 ∷ (s.id ++ (35 ∷ s.relation)))

abbrev pub user_text : User → List ℕ
user_text (Id n) = decimal n
user_text (Set s) = userset_text s

-- `userset@user`
abbrev pub tuple_text : TupleValue → List ℕ
tuple_text t = userset_text t.set ++ (64 ∷ user_text t.user)

abbrev pub fact_text : FactValue → List ℕ
fact_text f = userset_text f.set ++ (64 ∷ decimal f.user)

abbrev pub IsUser : User → Type 0
IsUser (Id n) = n < 2 ^ 64
IsUser (Set s) = IsUserset s

-- the userset that a tuple puts a user into: its relation is a name, never three dots
pub record IsHead (s : SetValue) : Type 0 where
  pub set : IsUserset s
  pub relation : is_name s.relation ≡ true

pub record IsTuple (t : TupleValue) : Type 0 where
  pub head : IsHead t.set
  pub user : IsUser t.user

pub record IsFact (f : FactValue) : Type 0 where
  pub head : IsHead f.set
  pub user : f.user < 2 ^ 64
