-- Declarations before and after a change, and what the check of one answers.
use Rattle.std.specs.Prelude.{◌≡◌, ℕ, Bool, false, List, [], ◌∷◌, ◌++◌, Result, Ok, Err}
use Rattle.namespaces.specs.Declaration.{Declaration}
use Rattle.namespaces.specs.Lookup.{relation_count}
use Rattle.strata.specs.declared.edge.Edge.{Edge}
use Rattle.strata.specs.declared.change.ChangeFault.{ChangeFault}
use Rattle.strata.specs.declared.change.ChangeFault.TheVariants.{Strata, OutOfMemory}

-- one declaration was made, of the namespace q, and it has more relations than the one before only where that is said
pub record IsDeclaredAgain (before after : List Declaration) (q : List ℕ) (has_more : Bool) : Type 0 where
  pub last : Declaration
  pub are : after ≡ before ++ last ∷ []
  pub named : last.name ≡ q
  pub count : has_more ≡ false → relation_count q after ≡ relation_count q before

-- the first broken edge is answered, or that there is none, or out of memory
abbrev pub Answers : Result (Unit {0}) ChangeFault → Result (Unit {0}) Edge → Type 0
Answers (Ok u) checked = checked ≡ Ok u
Answers (Err (Strata e)) checked = checked ≡ Err e
Answers (Err OutOfMemory) checked = Unit {0}
