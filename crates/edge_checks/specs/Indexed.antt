-- An index over declarations and the tuples of a sample, from one declaration to the next. No public clause cites
-- this module.
use Rattle.std.specs.Prelude.{◌≡◌, ℕ, true, List, [], ◌∷◌, ◌++◌}
use Rattle.tuple_text.specs.Tuples.{TupleValue}
use Rattle.namespaces.specs.Declaration.{Declaration}
use Rattle.namespaces.specs.Lookup.{relation_count}
use Rattle.namespaces.specs.WellFormed.{IsWellFormed}
use Rattle.rule_reads.specs.Reads.{AreKinds, AreMarked, HasRead, AllFit}
use Rattle.edge_checks.specs.declared.edge_index.EdgeIndex.{EdgeIndex}

-- each place of each rule is read, and each tuple fits
pub record IsWhole (ds : List Declaration) (index : EdgeIndex) (ts : List TupleValue) : Type 0 where
  pub well_formed : IsWellFormed ds
  pub kinds : AreKinds index.kinds ts
  pub marked : AreMarked index.reads
  pub read : HasRead index.reads ds
  pub fit : AllFit ds index.reads ts

-- unless it was given up
abbrev pub IsIndex : List Declaration → EdgeIndex → List TupleValue → Type 0
IsIndex ds index ts = index.is_whole ≡ true → IsWhole ds index ts

-- an index from before the last declaration, which is of the namespace q, and of how many relations that had
pub record IsIndexBefore (es : List Declaration) (q : List ℕ) (count : ℕ) (index : EdgeIndex) (ts : List TupleValue) : Type 0 where
  pub well_formed : IsWellFormed es
  pub before : List Declaration
  pub last : Declaration
  pub are : es ≡ before ++ last ∷ []
  pub named : last.name ≡ q
  pub known : count ≡ relation_count q before
  pub was : IsIndex before index ts
