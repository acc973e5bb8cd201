-- What a rule says, without where it lies in memory (Zanzibar, section 2.3.1). Names are lists of bytes.
use Rattle.std.specs.Prelude.{ℕ, ◌+◌, suc, max, nat_le, ◌&&◌, ◌++◌, List, [], ◌∷◌, Bool, true}

mutual
  pub data Expression : Type 0 where
    this : Expression
    computed : List ℕ → Expression
    tuple_to : List ℕ → List ℕ → Expression
    union : Expressions → Expression
    inter : Expressions → Expression
    minus : Expression → Expression → Expression

  pub data Expressions : Type 0 where
    no_child : Expressions
    child : Expression → Expressions → Expressions

-- expressions in a row, as the children of another
abbrev pub children : List Expression → Expressions
children [] = no_child
children (e ∷ es) = child e (children es)

-- how deep an expression nests; one without children has depth 1
abbrev mutual
  pub depth : Expression → ℕ
  depth this = 1
  depth (computed q) = 1
  depth (tuple_to q c) = 1
  depth (union es) = suc (greatest_depth es)
  depth (inter es) = suc (greatest_depth es)
  depth (minus a b) = suc (max (depth a) (depth b))

  pub greatest_depth : Expressions → ℕ
  greatest_depth no_child = 0
  greatest_depth (child e es) = max (depth e) (greatest_depth es)

-- the names in an expression, in pre-order
abbrev mutual
  pub names_in : Expression → List (List ℕ)
  names_in this = []
  names_in (computed q) = q ∷ []
  names_in (tuple_to q c) = q ∷ c ∷ []
  names_in (union es) = names_in_all es
  names_in (inter es) = names_in_all es
  names_in (minus a b) = names_in a ++ names_in b

  pub names_in_all : Expressions → List (List ℕ)
  names_in_all no_child = []
  names_in_all (child e es) = names_in e ++ names_in_all es

-- the relations of its own namespace that an expression names, in pre-order
abbrev mutual
  pub own_relations : Expression → List (List ℕ)
  own_relations this = []
  own_relations (computed q) = q ∷ []
  own_relations (tuple_to q c) = q ∷ []
  own_relations (union es) = own_relations_all es
  own_relations (inter es) = own_relations_all es
  own_relations (minus a b) = own_relations a ++ own_relations b

  pub own_relations_all : Expressions → List (List ℕ)
  own_relations_all no_child = []
  own_relations_all (child e es) = own_relations e ++ own_relations_all es

abbrev pub child_count : Expressions → ℕ
child_count no_child = 0
child_count (child e es) = child_count es + 1

abbrev pub is_child_count : ℕ → Bool
is_child_count n = nat_le 1 n && nat_le n 64

-- whether each union and each intersection has 1 to 64 children
abbrev mutual
  pub counts_fit : Expression → Bool
  counts_fit this = true
  counts_fit (computed q) = true
  counts_fit (tuple_to q c) = true
  counts_fit (union es) = is_child_count (child_count es) && counts_fit_all es
  counts_fit (inter es) = is_child_count (child_count es) && counts_fit_all es
  counts_fit (minus a b) = counts_fit a && counts_fit b

  pub counts_fit_all : Expressions → Bool
  counts_fit_all no_child = true
  counts_fit_all (child e es) = counts_fit e && counts_fit_all es
