-- What is left of a pass over premises. No public clause cites this module.
use Rattle.std.specs.Prelude.{◌≡◌, ℕ, ◌+◌, ◌<◌, ◌≤◌, List, [], ◌∷◌, Some, ◌⊎◌, Result, Err, OnOk, length, slice_get, take, drop, sum_by}
use Rattle.tuple_text.specs.Refs.{set_value}
use Rattle.tuple_text.specs.Sets.{SetValue}
use Rattle.tuple_text.specs.Tuples.{TupleValue, FactValue, fact_of}
use Rattle.namespaces.specs.Lookup.{Rule, Lookup, rule_of}
use Rattle.rewrites.specs.Expression.{Expression, Expressions}
use Rattle.snapshots.specs.Snapshots.{rules_in, tuples_in}
use Rattle.snapshots.specs.declared.snapshot.Snapshot.{Snapshot}
use Rattle.goal_cone.specs.Bounds.{links, links_all, links_of}
use Rattle.goal_cone.specs.Cone.{IsExploring, AreDistinct}
use Rattle.goal_cone.specs.Premises.{Reads, ReadsSome}
use Rattle.goal_cone.specs.Seen.{Sees, IsStuck}
use Rattle.goal_cone.specs.declared.fault.ConeFault.{ConeFault}
use Rattle.goal_cone.specs.declared.premises.ReadFact.{ReadFact}

-- the fact is that of one of some usersets
abbrev pub AmongSets : ℕ → List SetValue → FactValue → Type 0
AmongSets user [] p = ⊥
AmongSets user (g ∷ gs) p = (fact_of g user ≡ p) ⊎ AmongSets user gs p

-- f's rule reads p
abbrev pub IsRead : Lookup → List TupleValue → FactValue → FactValue → Type 0
IsRead rules store f p = (r : Rule) × (rule_of rules f.set ≡ Some r) × Reads store f r.expression p

abbrev pub read_fact : ReadFact → FactValue
read_fact a = fact_of (set_value a.set) a.user

-- A pass over facts that meet R, which reads so many links: they are seen, and the room for links fell by no more
-- than that; or it gives up,
-- for want of that room or where the goal has outgrown the bounds.
pub record Passes (most_facts most_links : ℕ) (s : Snapshot) (R : FactValue → Type 0) (all : ℕ)
    (result : Result (Unit {0}) ConeFault)
    (old new : List FactValue) (had room : ℕ) : Type 0 where
  pub seen : OnOk result (Sees (rules_in s) R old new)
  pub links : OnOk result (had ≤ room + all)
  pub stuck : result ≡ Err ConeFault.Outgrown → (had < all) ⊎ IsStuck most_facts most_links (rules_in s)
      (tuples_in s) R old

-- over what an expression reads for the fact
abbrev pub PassesOver : ℕ → ℕ → ReadFact → Expression → Result (Unit {0}) ConeFault → List FactValue → List FactValue
    → ℕ → ℕ → Type 0
PassesOver most_facts most_links a e =
    Passes most_facts most_links a.snapshot.now (Reads (tuples_in a.snapshot.now) (read_fact a) e)
    (links (tuples_in a.snapshot.now) (set_value a.set) e)

-- over what some expressions read
abbrev pub PassesOverAll : ℕ → ℕ → ReadFact → Expressions → Result (Unit {0}) ConeFault → List FactValue
    → List FactValue → ℕ → ℕ → Type 0
PassesOverAll most_facts most_links a es =
    Passes most_facts most_links a.snapshot.now (ReadsSome (tuples_in a.snapshot.now) (read_fact a) es)
    (links_all (tuples_in a.snapshot.now) (set_value a.set) es)

-- Once the facts that meet S are seen too, those that meet R are: so far the room for links went from `had` to `room`,
-- and of `all` links `left` are to come.
pub record IsUnderWay (most_facts most_links : ℕ) (rules : Lookup) (store : List TupleValue) (R S : FactValue → Type 0)
    (old now : List FactValue) (had room all left : ℕ) : Type 0 where
  pub seen : (new : List FactValue) → Sees rules S now new → Sees rules R old new
  pub stuck : IsStuck most_facts most_links rules store S now → IsStuck most_facts most_links rules store R old
  pub links : had + left ≤ room + all

-- the same over the expressions of a list, of which the last ones are left
abbrev pub IsUnderWayOver : ℕ → ℕ → ReadFact → Expressions → Expressions → List FactValue → List FactValue → ℕ → ℕ
    → Type 0
IsUnderWayOver most_facts most_links a es rest old now had room =
    IsUnderWay most_facts most_links (rules_in a.snapshot.now) (tuples_in a.snapshot.now)
    (ReadsSome (tuples_in a.snapshot.now) (read_fact a) es) (ReadsSome (tuples_in a.snapshot.now) (read_fact a) rest)
    old now had room (links_all (tuples_in a.snapshot.now) (set_value a.set) es)
    (links_all (tuples_in a.snapshot.now) (set_value a.set) rest)

-- The search saw the goal first, and has looked at the first `next` facts that it saw, whose rules read what is gone of
-- the room for links.
pub record IsSearching (most_links : ℕ) (rules : Lookup) (store : List TupleValue) (goal : FactValue)
    (seen : List FactValue) (next room : ℕ) : Type 0 where
  pub exploring : IsExploring rules store goal seen (drop next seen)
  pub first : slice_get seen 0 ≡ Some goal
  pub distinct : AreDistinct seen
  pub within : next ≤ length seen
  pub links : most_links ≤ room + sum_by (links_of rules store) (take next seen)
