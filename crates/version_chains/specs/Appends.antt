-- When a commit is refused, and what an accepted one leaves.
use Rattle.std.specs.Prelude.{◌≡◌, ℕ, Bool, ◌+◌, ◌-◌, List, [], ◌∷◌, ◌++◌, length, nat_le, nat_lt, map, slice_get, Option, Some, None, if◌then◌else◌, ◌⊎◌}
use Rattle.std.specs.List.{list_any}
use Rattle.tuple_text.specs.Tuples.{TupleValue}
use Rattle.tuple_text.specs.Order.{tuple_eq}
use Rattle.version_chains.specs.Commits.{Commit, Changes, changelog}
use Rattle.version_chains.specs.declared.fault.AppendFault.{AppendFault}
use Rattle.version_chains.specs.declared.fault.AppendFault.TheVariants.{NotLater, TouchedTwice, Full, OutOfMemory}

-- the place of the first item that stands earlier too, where `seen` stands before place `n`
abbrev pub repeat_from : {X : Type 0} → (X → X → Bool) → List X → ℕ → List X → Option ℕ
repeat_from eq seen n [] = None
repeat_from eq seen n (t ∷ ts) = if list_any (λ s. eq s t) seen then Some n else repeat_from eq (seen ++ t ∷ []) (n + 1) ts

abbrev pub first_repeat : List TupleValue → Option ℕ
first_repeat ts = repeat_from tuple_eq [] 0 ts

-- the timestamp of the last commit
abbrev pub last_at : List Commit → Option ℕ
last_at commits = slice_get (map (λ c. c.at) commits) (length commits - 1)

-- the timestamp, where it is not below another
abbrev pub late_fault : Option ℕ → ℕ → Option AppendFault
late_fault None at = None
late_fault (Some last) at = if nat_le at last then Some (NotLater last) else None

abbrev pub twice_fault : Option ℕ → Option AppendFault
twice_fault None = None
twice_fault (Some place) = Some (TouchedTwice place)

abbrev pub full_fault : ℕ → ℕ → Option AppendFault
full_fault limit nodes = if nat_lt limit nodes then Some Full else None

abbrev pub or_else : Option AppendFault → Option AppendFault → Option AppendFault
or_else None other = other
or_else (Some fault) other = Some fault

-- why the commit is refused, by the least number
abbrev pub append_fault : Changes → ℕ → List TupleValue → List TupleValue → Option AppendFault
append_fault old at adds removes =
    or_else (late_fault (last_at old.commits) at)
    (or_else (twice_fault (first_repeat (adds ++ removes)))
    (full_fault old.limit (length (changelog old.commits) + (length adds + length removes))))

-- the chains with the commit at the end
abbrev pub appended : Changes → ℕ → List TupleValue → List TupleValue → Changes
appended old at adds removes =
    record { limit = old.limit; commits = old.commits ++ record { at = at; adds = adds; removes = removes } ∷ [] }

-- the fault that applies, or out of memory
abbrev pub IsRefusal : Option AppendFault → AppendFault → Type 0
IsRefusal fault e = (e ≡ OutOfMemory) ⊎ (fault ≡ Some e)
