-- What the rules answer of a change that they would accept.
use Rattle.std.proofs.Common.{◌≡◌, List, Result, Ok, Err, refl}
use Rattle.serde_json.specs.Data.{Data}
use Rattle.namespaces.specs.declared.fault.RulesFault.{RulesFault}
use Rattle.refusals.specs.Refusals.{◌>>=◌}
use Rattle.namespaces.specs.Declaration.{Namespace, Declaration}
use Rattle.namespaces.specs.Changing.{changed, change_answer}

pub made : (ds : List Declaration) (d : Data) → change_answer ds d ≡ Ok (tt {0}) → (n : Namespace) × (changed ds d ≡ Ok n)
made ds d h = by (changed ds d) h
  where
    by : (o : Result Namespace RulesFault) → (o >>= λ n. Ok (tt {0})) ≡ Ok (tt {0}) → (n : Namespace) × (o ≡ Ok n)
    by (Ok n) h = (n, refl)
    by (Err f) h = cc
