-- What a rule and its parts say of a fact that they are asked for. No public clause cites this module.
use Rattle.std.specs.Prelude.{ℕ, List, Bool, Some, ◌↔◌, IsTrue, Contains}
use Rattle.tuple_text.specs.Sets.{SetValue}
use Rattle.rewrites.specs.Expression.{Expression}
use Rattle.judgement.specs.AskedFact.{GivesFor, asked_fact, asked_set, rules_over, tuples_over}
use Rattle.judgement.specs.Passes.{AreBarred, BarsNames, IsLedByName, IsObjectStored}
use Rattle.judgement.specs.declared.asked.AskedFact.{AskedFact}
use Rattle.wide_rules.specs.Asked.{AsksMore, Does, Follows, Questions, asked_at}
use Rattle.wide_rules.specs.declared.answers.Asked.{Asked}

-- whether an expression gives it, or rules it out
abbrev pub DoesFor : {F : Type 0} → AskedFact F → Bool → Expression → Type 0
DoesFor a is_given e = Does a.snapshot.now a.known.now (asked_fact a) is_given e

-- some userset that is stored in its set is known to have the user under one of these relations
abbrev pub IsLedBy : {F : Type 0} → AskedFact F → List (List ℕ) → Type 0
IsLedBy a names = IsLedByName (tuples_over a) a.known.now (asked_set a) names a.user

-- the object of this userset is known to have the user under one of them
abbrev pub GivesUnder : {F : Type 0} → AskedFact F → List (List ℕ) → SetValue → Type 0
GivesUnder a names g = (c : List ℕ) × Contains names c × GivesFor a (Some c) g

-- the relation of this userset is one of them, and some userset of its object is stored in its set
abbrev pub LeadsUnder : {F : Type 0} → AskedFact F → List (List ℕ) → SetValue → Type 0
LeadsUnder a names t = Contains names t.relation × IsObjectStored (tuples_over a) (asked_set a) t

-- none that is stored there may have the user under one of them
abbrev pub IsBarredBy : {F : Type 0} → AskedFact F → List (List ℕ) → Type 0
IsBarredBy a names = AreBarred (rules_over a) (tuples_over a) a.known.now (asked_set a) names a.user

-- the object of this userset has the user under none of them
abbrev pub BarsUnder : {F : Type 0} → AskedFact F → List (List ℕ) → SetValue → Type 0
BarsUnder a names g = BarsNames (rules_over a) a.known.now names a.user g

-- each answer is right
abbrev pub AreRight : {F : Type 0} → AskedFact F → Questions → List Asked → Type 0
AreRight a q asked =
    (one : Asked) → Contains asked one → (IsTrue one.answer ↔ DoesFor a one.is_given (asked_at q one.is_cover one.part))

-- more was asked, each answer is right, and an answer follows for an expression
pub record Tells {F : Type 0} (a : AskedFact F) (q : Questions) (is_given : Bool) (e : Expression)
    (old new : List Asked)
    (answer : Bool) : Type 0 where
  pub more : AsksMore old new
  pub right : AreRight a q old → AreRight a q new
  pub follows : Follows q new is_given e answer
