-- What the borrowed forms stand for.
use Rattle.tuple_text.specs.Sets.{SetValue}
use Rattle.tuple_text.specs.declared.sets.SetRef.{SetRef}
use Rattle.tuple_text.specs.declared.users.User.{User}
use Rattle.tuple_text.specs.declared.users.User.TheVariants.{Id, Set}
use Rattle.tuple_text.specs.declared.users.UserRef.{UserRef}
use Rattle.tuple_text.specs.declared.users.UserRef.TheVariants.{Id as RefId, Set as RefSet}

-- the userset that a borrowed one stands for
abbrev pub set_value : SetRef → SetValue
set_value s = record { namespace = s.namespace.now; id = s.id.now; relation = s.relation.now }

-- the user that a borrowed one stands for
abbrev pub user_value : UserRef → User
user_value (RefId n) = Id n
user_value (RefSet s) = Set (set_value s)
