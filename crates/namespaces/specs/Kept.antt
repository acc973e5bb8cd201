-- Whether one relation keeps its name and its stratum.
use Rattle.std.specs.Prelude.{ℕ, ◌==◌, Bool, false, true, List, slice_get, Option, None, Some}
use Rattle.std.specs.Str.{bytes_eq}
use Rattle.namespaces.specs.Declaration.{Relation}

abbrev pub has_one_name : Option Relation → Option Relation → Bool
has_one_name None now = false
has_one_name (Some was) None = false
has_one_name (Some was) (Some now) = bytes_eq was.name now.name

-- both lists have a relation at the place, and it has one name
abbrev pub keeps_name_at : List Relation → List Relation → ℕ → Bool
keeps_name_at old new i = has_one_name (slice_get old i) (slice_get new i)

abbrev pub has_one_stratum : Option Relation → Option Relation → Bool
has_one_stratum None now = true
has_one_stratum (Some was) None = true
has_one_stratum (Some was) (Some now) = was.stratum == now.stratum

-- where both lists have a relation at the place, it has one stratum
abbrev pub keeps_stratum_at : List Relation → List Relation → ℕ → Bool
keeps_stratum_at old new i = has_one_stratum (slice_get old i) (slice_get new i)
