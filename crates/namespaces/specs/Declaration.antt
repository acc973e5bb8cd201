-- What the rules hold: every accepted value, in order, as a declaration.
use Rattle.std.specs.Prelude.{ℕ, Bool, false, true, List}
use Rattle.rewrites.specs.Expression.{Expression}

pub record Relation : Type 0 where
  pub name : List ℕ
  pub stratum : ℕ
  pub expression : Expression

-- a namespace with its relations in order, as a value gives them
pub record Namespace : Type 0 where
  pub name : List ℕ
  pub relations : List Relation

-- the same, in force from a timestamp on; only a change counts against the limit of changes
pub record Declaration : Type 0 where
  pub at : ℕ
  pub is_change : Bool
  pub name : List ℕ
  pub relations : List Relation

abbrev pub declared : ℕ → Bool → Namespace → Declaration
declared at is_change n = record { at = at; is_change = is_change; name = n.name; relations = n.relations }

-- a namespace that `add` declares: in force from 0
abbrev pub addition : Namespace → Declaration
addition n = declared 0 false n

-- a namespace that `change` declares
abbrev pub change : ℕ → Namespace → Declaration
change at n = declared at true n
