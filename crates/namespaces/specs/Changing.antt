-- What `change` makes of a JSON value: the tests of `add` without that of a repeated namespace, and then whether the
-- relations declared already stay.
use Rattle.std.specs.Prelude.{◌≡◌, ℕ, nat_lt, ◌<◌, not, ◌&&◌, ◌||◌, ◌==◌, if◌then◌else◌, Bool, false, true, List, [], ◌∷◌, ◌++◌, All, count_by, Option, None, Some, Result, Ok, Err}
use Rattle.std.specs.Str.{bytes_eq}
use Rattle.serde_json.specs.Data.{Data}
use Rattle.namespaces.specs.declared.fault.RulesFault.{RulesFault}
use Rattle.namespaces.specs.declared.fault.RulesFault.TheVariants.{RelationsChanged, StratumChanged}
use Rattle.refusals.specs.Refusals.{◌>>=◌}
use Rattle.namespaces.specs.Declaration.{Relation, Namespace, Declaration, change}
use Rattle.namespaces.specs.Lookup.{relations_of}
use Rattle.namespaces.specs.Adding.{namespace, tested, is_declared, is_full}

-- the new list begins with the names of the old one
abbrev pub keeps_names : List Relation → List Relation → Bool
keeps_names [] new = true
keeps_names (r ∷ rs) [] = false
keeps_names (r ∷ rs) (s ∷ ss) = bytes_eq r.name s.name && keeps_names rs ss

-- each relation of the old list has the stratum of the one in its place
abbrev pub keeps_strata : List Relation → List Relation → Bool
keeps_strata [] new = true
keeps_strata (r ∷ rs) [] = true
keeps_strata (r ∷ rs) (s ∷ ss) = (r.stratum == s.stratum) && keeps_strata rs ss

-- a namespace after the relations that it had, if it was declared
unfoldable pub continued : Option (List Relation) → Namespace → Result Namespace RulesFault
continued None new = Ok new
continued (Some old) new =
    if not (keeps_names old new.relations) then Err RelationsChanged
    else (if not (keeps_strata old new.relations) then Err StratumChanged
    else Ok new)

abbrev pub change_count : List Declaration → ℕ
change_count ds = count_by (λ d. d.is_change) ds

-- there is no room for one more change, or none for one more namespace where that is wanted
abbrev pub is_full_for : List ℕ → List Declaration → Bool
is_full_for name ds = not (nat_lt (change_count ds) 4096) || (not (is_declared name ds) && is_full ds)

abbrev pub checked_change : List Declaration → Namespace → Result Namespace RulesFault
checked_change ds new = tested false (is_full_for new.name ds) new >>= λ n. continued (relations_of n.name ds) n

-- the namespace that `change` would declare at any timestamp, or why the value is refused
abbrev pub changed : List Declaration → Data → Result Namespace RulesFault
changed ds d = namespace d >>= checked_change ds

-- the declarations after `change`
abbrev pub rules_change : List Declaration → ℕ → Data → Result (List Declaration) RulesFault
rules_change ds at d = changed ds d >>= λ n. Ok (ds ++ change at n ∷ [])

-- whether `change` would accept the value, or why not
abbrev pub change_answer : List Declaration → Data → Result (Unit {0}) RulesFault
change_answer ds d = changed ds d >>= λ n. Ok (tt {0})

-- every change was made at an earlier timestamp
abbrev pub IsLater : ℕ → List Declaration → Type 0
IsLater at ds = All (λ d. d.is_change ≡ true → d.at < at) ds
