-- What is known, as steps add to it.
use Rattle.std.specs.Prelude.{List, ◌⊎◌, Contains}
use Rattle.tuple_text.specs.Tuples.{TupleValue, FactValue}
use Rattle.namespaces.specs.Lookup.{Lookup}
use Rattle.judgement.specs.Judgement.{KnownValue}
use Rattle.evidence_check.specs.Accepted.{IsProved, IsDisproved}

-- where the one knows the fact to hold, so does the other
abbrev pub KeepsYes : KnownValue → KnownValue → FactValue → Type 0
KeepsYes old new f = Contains old.yes f → Contains new.yes f

-- where the one knows the fact not to hold, so does the other
abbrev pub KeepsNo : KnownValue → KnownValue → FactValue → Type 0
KeepsNo old new f = Contains old.no f → Contains new.no f

abbrev pub KeepsBoth : KnownValue → KnownValue → FactValue → Type 0
KeepsBoth old new f = KeepsYes old new f × KeepsNo old new f

-- what is known stays known
abbrev pub Grows : KnownValue → KnownValue → Type 0
Grows old new = (f : FactValue) → KeepsBoth old new f

-- what is known bears itself out: each fact that is known to hold is proved by it, and each that is known not to is
-- disproved
pub record IsBorneOut (rules : Lookup) (store : List TupleValue) (known : KnownValue) : Type 0 where
  pub yes : (f : FactValue) → Contains known.yes f → IsProved rules store known f
  pub no : (f : FactValue) → Contains known.no f → IsDisproved rules store known f

-- of the facts that are denied each stood before or is fresh, and each fresh one is among them
pub record AreFresh (before denied fresh : List FactValue) : Type 0 where
  pub each : (f : FactValue) → Contains denied f → Contains before f ⊎ Contains fresh f
  pub only : (f : FactValue) → Contains fresh f → Contains denied f
