-- What holds of the declarations of `Rules` at any time.
use Rattle.std.specs.Prelude.{◌≡◌, ◌≤◌, false, true, List, [], ◌∷◌, length}
use Rattle.std.specs.List.{AllByRecursion, list_all}
use Rattle.namespaces.specs.Declaration.{Declaration}
use Rattle.namespaces.specs.Lookup.{namespace_names, relation_names}
use Rattle.namespaces.specs.Adding.{has_repeats, reads_declared}
use Rattle.namespaces.specs.Changing.{keeps_names, keeps_strata, change_count}

-- `d` stands behind `e`, another declaration of its namespace: the relations of `e` come first, each with its
-- stratum, and it is in force from the same timestamp or a later one
pub record Continues (e d : Declaration) : Type 0 where
  pub names : keeps_names e.relations d.relations ≡ true
  pub strata : keeps_strata e.relations d.relations ≡ true
  pub at : e.at ≤ d.at

-- each declaration continues those of its namespace that stand before it
abbrev pub AreContinued : List Declaration → Type 0
AreContinued [] = Unit {0}
AreContinued (e ∷ ds) = AllByRecursion (λ d. e.name ≡ d.name → Continues e d) ds × AreContinued ds

-- a declaration by itself: its relations have names of their own, are 256 at most, and read those of their namespace
-- that are among them; one that is no change is in force from 0
pub record IsFit (d : Declaration) : Type 0 where
  pub distinct : has_repeats (relation_names d.relations) ≡ false
  pub count : length d.relations ≤ 256
  pub reads : list_all (reads_declared d.relations) d.relations ≡ true
  pub at : d.is_change ≡ false → d.at ≡ 0

pub record IsWellFormed (ds : List Declaration) : Type 0 where
  pub namespaces : length (namespace_names ds) ≤ 256
  pub distinct : has_repeats (namespace_names ds) ≡ false
  pub fit : AllByRecursion IsFit ds
  pub changes : change_count ds ≤ 4096
  pub continued : AreContinued ds
