-- What is declared and stored at every timestamp.
use Rattle.std.specs.Prelude.{List}
use Rattle.namespaces.specs.Declaration.{Declaration}
use Rattle.version_chains.specs.Commits.{Commit}

-- the declarations and the commits, each in line order
pub record TimelineValue : Type 0 where
  pub declarations : List Declaration
  pub commits : List Commit
