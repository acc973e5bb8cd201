-- Tuples that stand for others, and rules that were declared over them.
use Rattle.std.specs.Prelude.{◌≡◌, ℕ, ◌&&◌, Bool, false, true, Contains, List, Ok}
use Rattle.std.specs.Str.{bytes_eq}
use Rattle.tuple_text.specs.Sets.{SetValue}
use Rattle.tuple_text.specs.Tuples.{TupleValue}
use Rattle.tuple_text.specs.declared.users.User.{User}
use Rattle.tuple_text.specs.declared.users.User.TheVariants.{Id, Set}
use Rattle.namespaces.specs.Declaration.{Declaration}
use Rattle.namespaces.specs.WellFormed.{IsWellFormed}
use Rattle.strata.specs.Changes.{IsDeclaredAgain}
use Rattle.strata.specs.Edges.{first_broken, edges_of_tuples}

abbrev pub is_of_relation : SetValue → SetValue → Bool
is_of_relation g h = bytes_eq g.namespace h.namespace && bytes_eq g.relation h.relation

-- the users are usersets of one relation
abbrev pub is_user_of_kind : User → User → Bool
is_user_of_kind (Id n) u = false
is_user_of_kind (Set g) (Id n) = false
is_user_of_kind (Set g) (Set h) = is_of_relation g h

-- Both tuples are of one relation, and so are the usersets that are their users: then they give the same edges.
abbrev pub is_of_kind : TupleValue → TupleValue → Bool
is_of_kind t u = is_of_relation t.set u.set && is_user_of_kind t.user u.user

abbrev pub IsSomeOfKind : TupleValue → List TupleValue → Type 0
IsSomeOfKind t ts = (u : TupleValue) × Contains ts u × (is_of_kind u t ≡ true)

-- whatever is declared, the first broken edge of the sample is the first of all the tuples
abbrev pub Represents : List TupleValue → List TupleValue → Type 0
Represents sample ts =
    (ds : List Declaration) → first_broken ds (edges_of_tuples ds sample) ≡ first_broken ds (edges_of_tuples ds ts)

-- one declaration was made, of a namespace, and before it no edge of the tuples was broken
pub record IsDeclaredOver (ds : List Declaration) (namespace : List ℕ) (has_more : Bool) (ts : List TupleValue) : Type 0 where
  pub well_formed : IsWellFormed ds
  pub before : List Declaration
  pub again : IsDeclaredAgain before ds namespace has_more
  pub unbroken : first_broken before (edges_of_tuples before ts) ≡ Ok (tt {0})
