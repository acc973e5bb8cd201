-- The leaves of a rule, each once.
use Rattle.std.specs.Prelude.{◌≡◌, List, [], ◌++◌, Option, None, Some}
use Rattle.rewrites.specs.Expression.{Expression, children}
use Rattle.rewrites.specs.Plain.{leaves, leaves_of_all, IsThinned}

abbrev pub leaves_in : List Expression → List Expression
leaves_in es = leaves_of_all (children es)

-- they are the leaves of a rule, or there is neither
abbrev pub AreLeavesOf : List Expression → Option Expression → Type 0
AreLeavesOf es None = es ≡ []
AreLeavesOf es (Some e) = IsThinned (leaves_in es) (leaves e)

-- leaves were put to others, but for those that stood there
abbrev pub Collects : List Expression → List Expression → List Expression → Type 0
Collects old new more = IsThinned (leaves_in new) (leaves_in old ++ more)
