-- Where the declarations of each namespace stand.
use Rattle.std.specs.Prelude.{ℕ, zero, suc, ◌+◌, nat_le, ◌&&◌, if◌then◌else◌, List, [], ◌∷◌, ◌++◌, map, length, Option, None, Some, String, string_bytes}
use Rattle.std.specs.Option.{option_or}
use Rattle.std.specs.Str.{bytes_eq}
use Rattle.std.specs.Global.{Vec}
use Rattle.std.specs.declared.alloc.Global.{Global}
use Rattle.namespaces.specs.Declaration.{Relation, Declaration}
use Rattle.namespaces.specs.declared.index.Revision.{Revision}

-- each namespace, in order, with its declarations in theirs
abbrev pub Index : Type 0
Index = List (List ℕ × List Revision)

abbrev pub show_index : List (String Global × Vec Revision) → Index
show_index es = map (λ e. (string_bytes e.0, e.1.items)) es

-- the declaration that stands at a place
abbrev pub revision : ℕ → Declaration → Revision
revision line d = record { at = d.at; relations = length d.relations; line = line }

-- a declaration of this namespace more
abbrev pub with_revision : List ℕ → Revision → Index → Index
with_revision name v [] = (name, v ∷ []) ∷ []
with_revision name v (e ∷ es) = if bytes_eq name e.0 then (e.0, e.1 ++ v ∷ []) ∷ es else e ∷ with_revision name v es

-- a declaration more of the namespace at a place
abbrev pub with_revision_at : ℕ → Revision → Index → Index
with_revision_at i v [] = []
with_revision_at zero v (e ∷ es) = (e.0, e.1 ++ v ∷ []) ∷ es
with_revision_at (suc i) v (e ∷ es) = e ∷ with_revision_at i v es

-- the index after the declarations that stand from a place on
abbrev pub index_after : Index → ℕ → List Declaration → Index
index_after index line [] = index
index_after index line (d ∷ ds) = index_after (with_revision d.name (revision line d) index) (line + 1) ds

abbrev pub index_of : List Declaration → Index
index_of ds = index_after [] 0 ds

-- the declarations of a namespace among those that stand from a place on
abbrev pub revisions_from : ℕ → List ℕ → List Declaration → List Revision
revisions_from line name [] = []
revisions_from line name (d ∷ ds) = if bytes_eq name d.name then revision line d ∷ revisions_from (line + 1) name ds else revisions_from (line + 1) name ds

abbrev pub revisions_of : List ℕ → List Declaration → List Revision
revisions_of name ds = revisions_from 0 name ds

-- the relations of the last declaration of a namespace that is in force at a timestamp
abbrev pub relations_at : ℕ → List ℕ → List Declaration → Option (List Relation)
relations_at at name [] = None
relations_at at name (d ∷ ds) = option_or (relations_at at name ds) (if bytes_eq name d.name && nat_le d.at at then Some d.relations else None)

-- a list that is not empty
abbrev pub unless_empty : {X : Type 0} → List X → Option (List X)
unless_empty [] = None
unless_empty (x ∷ xs) = Some (x ∷ xs)
