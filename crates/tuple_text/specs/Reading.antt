-- Reading a text from left to right, up to the leftmost part that is not in form. Offsets count from the
-- front of the whole text.
use Rattle.std.specs.Prelude.{ℕ, ◌-◌, ◌==◌, ◌&&◌, Bool, List, length, Option, Some, None, Result, Ok, Err, nat_lt, if◌then◌else◌}
use Rattle.std.specs.List.{position_or_len, before_first, after_first}
use Rattle.tuple_text.specs.declared.fault.TupleFault.{TupleFault}
use Rattle.tuple_text.specs.declared.fault.TupleFault.TheVariants as faults
use Rattle.tuple_text.specs.declared.users.User.{User}
use Rattle.tuple_text.specs.declared.users.User.TheVariants as users
use Rattle.tuple_text.specs.Sets.{SetValue}
use Rattle.tuple_text.specs.Tuples.{TupleValue, FactValue, tuple_of, fact_of}
use Rattle.refusals.specs.Refusals.{◌>>=◌}
use Rattle.tuple_text.specs.Forms.{is_name, is_object_id, is_user_relation, plain_number}

-- the part before the first delimiter, where it passes the test, and what stands after the delimiter
abbrev pub part_at : (List ℕ → Bool) → ℕ → TupleFault → List ℕ → Result (List ℕ × List ℕ) TupleFault
part_at test delimiter fault text = if nat_lt (position_or_len (λ b. b == delimiter) text) (length text) && test (before_first (λ b. b == delimiter) text)
    then Ok (before_first (λ b. b == delimiter) text, after_first (λ b. b == delimiter) text) else Err fault

-- a userset as it may stand as a user
unfoldable pub userset_at : List ℕ → Result SetValue TupleFault
userset_at text = do
  namespace ← part_at is_name 58 (faults.Namespace 0) text
  id ← part_at is_object_id 35 (faults.ObjectId (length text - length namespace.1)) namespace.1
  if is_user_relation id.1 then Ok (record { namespace = namespace.0; id = id.0; relation = id.1 }) else Err (faults.Relation (length text - length id.1))

-- a user id where the text writes one, else a userset; whatever is wrong, the fault stands where the user begins
abbrev pub id_or : ℕ → Option ℕ → Result SetValue TupleFault → Result User TupleFault
id_or at (Some n) set = Ok (users.Id n)
id_or at None (Ok s) = Ok (users.Set s)
id_or at None (Err e) = Err (faults.User at)

unfoldable pub user_at : ℕ → List ℕ → Result User TupleFault
user_at at text = id_or at (plain_number text) (userset_at text)

abbrev pub id_only : ℕ → Option ℕ → Result ℕ TupleFault
id_only at (Some n) = Ok n
id_only at None = Err (faults.User at)

-- what stands before the user: a userset whose relation is a name, and the text after its `@`
unfoldable pub head_at : List ℕ → Result (SetValue × List ℕ) TupleFault
head_at text = do
  namespace ← part_at is_name 58 (faults.Namespace 0) text
  id ← part_at is_object_id 35 (faults.ObjectId (length text - length namespace.1)) namespace.1
  relation ← part_at is_name 64 (faults.Relation (length text - length id.1)) id.1
  Ok (record { namespace = namespace.0; id = id.0; relation = relation.0 }, relation.1)

unfoldable pub tuple_at : List ℕ → Result TupleValue TupleFault
tuple_at text = do
  head ← head_at text
  user ← user_at (length text - length head.1) head.1
  Ok (tuple_of head.0 user)

unfoldable pub fact_at : List ℕ → Result FactValue TupleFault
fact_at text = do
  head ← head_at text
  user ← id_only (length text - length head.1) (plain_number head.1)
  Ok (fact_of head.0 user)
