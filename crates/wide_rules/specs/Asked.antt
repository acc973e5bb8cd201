-- What was asked of the parts of a rule, and what follows for the rule.
use Rattle.std.specs.Prelude.{◌≡◌, ℕ, Bool, true, false, not, if◌then◌else◌, List, Some, slice_get, Contains}
use Rattle.std.specs.declared.alloc.Global.{Global}
use Rattle.std.specs.declared.vec.Vec.{Vec}
use Rattle.tuple_text.specs.Tuples.{FactValue}
use Rattle.rewrites.specs.Alike.{Leaves, gives, bars}
use Rattle.rewrites.specs.Expression.{Expression, union, inter, children}
use Rattle.rewrites.specs.Parts.{part_at}
use Rattle.snapshots.specs.Snapshots.{rules_in, tuples_in}
use Rattle.snapshots.specs.Timelines.{TimelineValue}
use Rattle.snapshots.specs.declared.snapshot.Snapshot.{Snapshot}
use Rattle.judgement.specs.Judgement.{KnownValue, Established, Refuted}
use Rattle.wide_rules.specs.declared.answers.Asked.{Asked}
use Rattle.wide_rules.specs.declared.paths.Path.{Path}

-- what may be asked for: the parts of a rule, and the covers, each of which stands for many parts
pub record Questions : Type 0 where
  pub parts : List Expression
  pub covers : List Expression

-- the questions of a rule, and the timeline over which they are asked
pub record PartsValue : Type 0 where
  pub timeline : TimelineValue
  pub questions : Questions

-- a rule, and the timeline over which it is asked
pub record RuleValue : Type 0 where
  pub timeline : TimelineValue
  pub expression : Expression

-- whether an expression gives the fact, or whether it rules it out, where its leaves do as they do
abbrev pub does : Leaves → Bool → Expression → Bool
does l true e = gives l e
does l false e = bars l e

-- the same by what is known
abbrev pub Does : Snapshot → KnownValue → FactValue → Bool → Expression → Type 0
Does s known f true e = Established (rules_in s) (tuples_in s) known f e
Does s known f false e = Refuted (rules_in s) (tuples_in s) known f e

-- what is asked for by a number
abbrev pub asked_at : Questions → Bool → ℕ → Expression
asked_at q is_cover part = part_at (if is_cover then q.covers else q.parts) part

-- the leaves do what was answered
abbrev pub Agrees : Leaves → Questions → List Asked → Type 0
Agrees l q asked = (a : Asked) → Contains asked a → does l a.is_given (asked_at q a.is_cover a.part) ≡ a.answer

-- an answer follows for an expression from what was asked, whatever else its leaves do
abbrev pub Follows : Questions → List Asked → Bool → Expression → Bool → Type 0
Follows q asked is_given e answer = (l : Leaves) → Agrees l q asked → does l is_given e ≡ answer

-- more was asked
abbrev pub AsksMore : List Asked → List Asked → Type 0
AsksMore old new = (a : Asked) → Contains old a → Contains new a

-- the answer of a path follows from what was asked on it
abbrev pub AreRightPaths : Questions → Expression → List Path → Type 0
AreRightPaths q e paths = (p : Path) → Contains paths p → Follows q p.asked.items p.is_given e p.answer

-- an expression that gives a fact, or rules it out, where some of others does (`stop` is true), or where each of them
-- does
abbrev pub joined_of : Bool → Bool → List Expression → Expression
joined_of true true es = union (children es)
joined_of true false es = inter (children es)
joined_of false true es = inter (children es)
joined_of false false es = union (children es)

-- where a cover has no answer that helps, its part has none: what a cover does not give, its part does not; what it
-- rules out, its part does
abbrev pub IsCoveredBy : Expression → Expression → Type 0
IsCoveredBy e cover = (l : Leaves) (is_given : Bool) → does l is_given cover ≡ not is_given
    → does l is_given e ≡ not is_given

-- these are numbers of its covers
abbrev pub AreCovers : List Expression → Expression → List ℕ → Type 0
AreCovers covers e numbers = (k : ℕ) → Contains numbers k → IsCoveredBy e (part_at covers k)

-- so it is of each part
abbrev pub AreCoversByPart : Questions → List (Vec ℕ Global) → Type 0
AreCoversByPart q numbers =
    (k : ℕ) (one : Vec ℕ Global) → slice_get numbers k ≡ Some one → AreCovers q.covers (part_at q.parts k) one.items
