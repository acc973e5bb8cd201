-- Facts as they are kept, without where they lie in memory, and those of one user among them.
use Rattle.std.specs.Prelude.{ℕ, Bool, List, length, map, nat_eq}
use Rattle.tuple_text.specs.Refs.{set_value}
use Rattle.tuple_text.specs.Sets.{SetValue}
use Rattle.tuple_text.specs.Tuples.{FactValue, fact_of}
use Rattle.marks.specs.Placed.{newest_first}
use Rattle.judgement.specs.declared.fact.MarkedFact.{MarkedFact}

abbrev pub marked_fact : MarkedFact → FactValue
marked_fact f = fact_of (set_value f.set.set) f.user

abbrev pub user_of : FactValue → ℕ
user_of f = f.user

abbrev pub is_of_user : ℕ → FactValue → Bool
is_of_user user f = nat_eq user (user_of f)

-- the usersets of a user's facts among the first so many, the last first
abbrev pub sets_before : ℕ → List FactValue → ℕ → List SetValue
sets_before user fs n = map (λ f. f.set) (newest_first (is_of_user user) fs n)

abbrev pub sets_of_user : ℕ → List FactValue → List SetValue
sets_of_user user fs = sets_before user fs (length fs)
