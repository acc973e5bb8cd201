-- A fact that a rule is asked for.
use Rattle.std.specs.Prelude.{ℕ, List, Option, Some, All, length}
use Rattle.tuple_text.specs.Refs.{set_value}
use Rattle.tuple_text.specs.Sets.{SetValue}
use Rattle.tuple_text.specs.Tuples.{TupleValue, FactValue, fact_of}
use Rattle.namespaces.specs.Lookup.{Lookup}
use Rattle.marks.specs.Marks.{pair_mark, set_mark}
use Rattle.userset_index.specs.Lives.{touches_alive}
use Rattle.userset_index.specs.declared.life.Life.{Life}
use Rattle.snapshots.specs.Snapshots.{rules_in, tuples_in}
use Rattle.judgement.specs.Judgement.{KnownValue}
use Rattle.judgement.specs.Passes.{BarsId, GivesId, IsBarred, IsLed, IsTouchOut}
use Rattle.judgement.specs.declared.asked.AskedFact.{AskedFact}

-- the rules that are in force, and the tuples that are stored
abbrev pub rules_over : {F : Type 0} → AskedFact F → Lookup
rules_over a = rules_in a.snapshot.now

abbrev pub tuples_over : {F : Type 0} → AskedFact F → List TupleValue
tuples_over a = tuples_in a.snapshot.now

-- its userset, and the fact itself
abbrev pub asked_set : {F : Type 0} → AskedFact F → SetValue
asked_set a = set_value a.set.set

abbrev pub asked_fact : {F : Type 0} → AskedFact F → FactValue
asked_fact a = fact_of (asked_set a) a.user

-- what a judgement says of it
abbrev pub SaysOf : {F E : Type 0} → (Lookup → List TupleValue → KnownValue → FactValue → E → Type 0) → AskedFact F → E
    → Type 0
SaysOf Says a e = Says (rules_over a) (tuples_over a) a.known.now (asked_fact a) e

-- some userset that is stored in its set has a target that is known to hold the user; none has one that may
abbrev pub IsLedFor : {F : Type 0} → AskedFact F → Option (List ℕ) → Type 0
IsLedFor a relation = IsLed (tuples_over a) a.known.now (asked_set a) relation a.user

abbrev pub IsBarredFor : {F : Type 0} → AskedFact F → Option (List ℕ) → Type 0
IsBarredFor a relation = IsBarred (rules_over a) (tuples_over a) a.known.now (asked_set a) relation a.user

-- the target of a userset is known to hold the user; it does not hold the user
abbrev pub GivesFor : {F : Type 0} → AskedFact F → Option (List ℕ) → SetValue → Type 0
GivesFor a relation g = GivesId a.known.now relation a.user g

abbrev pub BarsFor : {F : Type 0} → AskedFact F → Option (List ℕ) → SetValue → Type 0
BarsFor a relation g = BarsId (rules_over a) a.known.now relation a.user g

-- a touch is not of a userset that is stored in its set and has a target that may hold the user
abbrev pub IsOutFor : {F : Type 0} → AskedFact F → Option (List ℕ) → ℕ → Type 0
IsOutFor a relation touch = IsTouchOut a.snapshot.now a.known.now (asked_set a) relation a.user touch

-- nothing that is stored in its set of the namespace of a number may have the user under a relation
abbrev pub IsNumberOut : {F : Type 0} → AskedFact F → List Life → ℕ → List ℕ → Type 0
IsNumberOut a lives n relation =
    All (IsOutFor a (Some relation))
    (touches_alive (pair_mark (set_mark (asked_set a)) n) a.snapshot.now.at lives (length lives))
