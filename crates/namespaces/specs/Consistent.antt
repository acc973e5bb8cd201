-- How the fields of `Rules` belong together.
use Rattle.std.specs.Prelude.{◌≡◌, ℕ, ◌<◌, List, String}
use Rattle.std.specs.Global.{Vec}
use Rattle.std.specs.List.{AllByRecursion}
use Rattle.std.specs.declared.alloc.Global.{Global}
use Rattle.namespaces.specs.Declaration.{Declaration}
use Rattle.namespaces.specs.Changing.{change_count}
use Rattle.namespaces.specs.WellFormed.{IsWellFormed}
use Rattle.namespaces.specs.Shown.{show_lines}
use Rattle.namespaces.specs.Index.{show_index, index_of}
use Rattle.namespaces.specs.declared.rules.Line.{Line}
use Rattle.namespaces.specs.declared.index.Revision.{Revision}

pub record AreConsistent (lines : List Line) (index : List (String Global × Vec Revision)) (changes : ℕ) : Type 0 where
  pub well_formed : IsWellFormed (show_lines lines)
  pub indexed : show_index index ≡ index_of (show_lines lines)
  pub counted : changes ≡ change_count (show_lines lines)
  pub timestamps : AllByRecursion (λ (d : Declaration). d.at < 18446744073709551616) (show_lines lines)
