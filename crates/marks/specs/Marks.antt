-- Marks of usersets, users and tuples: SipHash of their texts, or of two marks. Equal ones have equal marks, and no
-- more is used.
use Rattle.std.specs.Prelude.{ℕ, ◌^◌, Bool, true, false, [], ◌∷◌, ◌++◌, length, cond}
use Rattle.std.specs.Int.{w64, rotate_left}
use Rattle.std.specs.Int.Bits.{bit_xor}
use Rattle.tuple_text.specs.Sets.{SetValue}
use Rattle.tuple_text.specs.Tuples.{TupleValue}
use Rattle.tuple_text.specs.declared.users.User.{User}
use Rattle.tuple_text.specs.declared.users.User.TheVariants.{Id, Set}
use Rattle.marks.specs.Words.{words, hash_of}

-- the lengths of the texts in one word, each in a third of it; a third has room for 2 MiB
abbrev pub lengths : SetValue → ℕ
lengths g = bit_xor (bit_xor (length g.namespace) (rotate_left w64 (length g.id) 21)) (rotate_left w64 (length g.relation) 42)

-- by the lengths, which tell the texts apart
unfoldable pub set_mark : SetValue → ℕ
set_mark g = hash_of (lengths g) (words g.namespace ++ words g.id ++ words g.relation)

-- an id is its own mark
abbrev pub user_mark : User → ℕ
user_mark (Id n) = n
user_mark (Set g) = set_mark g

-- of two marks, in this order
unfoldable pub pair_mark : ℕ → ℕ → ℕ
pair_mark m n = hash_of m (n ∷ [])

abbrev pub tuple_mark : TupleValue → ℕ
tuple_mark t = pair_mark (set_mark t.set) (user_mark t.user)

-- whether a user is a userset
abbrev pub is_userset : User → Bool
is_userset (Id n) = false
is_userset (Set g) = true

-- of a userset with this mark and one kind of its users, which are usersets or ids
abbrev pub kind_mark : ℕ → Bool → ℕ
kind_mark mark usersets = cond usersets mark (bit_xor mark (2 ^ 63))

-- of a tuple's userset and the kind of its user
abbrev pub held_mark : TupleValue → ℕ
held_mark t = kind_mark (set_mark t.set) (is_userset t.user)
