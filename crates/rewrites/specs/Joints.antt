-- Children that a union or an intersection joins. No public clause cites this module.
use Rattle.std.specs.Prelude.{◌≡◌, List, [], ◌∷◌, ◌++◌, ◌⊎◌, Contains}
use Rattle.rewrites.specs.Expression.{Expression, union, inter, children}
use Rattle.rewrites.specs.Alike.{IsAlike}
use Rattle.rewrites.specs.Plain.{IsPlainOf}
use Rattle.rewrites.specs.declared.plain.Joint.{Joint}

abbrev pub joined : Joint → List Expression → Expression
joined Joint.Union es = union (children es)
joined Joint.Inter es = inter (children es)

-- one more child went last, or stood there before
abbrev pub IsPut : List Expression → List Expression → Expression → Type 0
IsPut old new e = (new ≡ old ++ e ∷ []) ⊎ ((new ≡ old) × Contains old e)

-- some children join to a plain form of what others join to
abbrev pub JoinPlain : Joint → List Expression → List Expression → Type 0
JoinPlain joint es fs = IsPlainOf (joined joint es) (joined joint fs)

-- some children join to what others join to
abbrev pub JoinAlike : Joint → List Expression → List Expression → Type 0
JoinAlike joint es fs = IsAlike (joined joint es) (joined joint fs)
