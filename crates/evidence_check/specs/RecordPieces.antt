-- A record's text, taken piece by piece from its front.
use Rattle.std.specs.Prelude.{◌≡◌, ◌<◌, ℕ, List, [], ◌∷◌, ◌++◌, map, flat_map, length, Some}
use Rattle.std.specs.List.{AllByRecursion}
use Rattle.serde_json.specs.Data.{Data}
use Rattle.serde_json.specs.Read.{read}
use Rattle.serde_json.specs.Written.{compact_text}
use Rattle.tuple_text.specs.Grammar.{IsFact}
use Rattle.tuple_text.specs.Tuples.{FactValue}
use Rattle.evidence_check.specs.RecordData.{fact_data, step_data, record_data, HasFacts, HaveFacts}
use Rattle.evidence_check.specs.Steps.{StepValue}

-- items with a comma between, and no brackets
unfoldable pub with_commas : List Data → List ℕ
with_commas [] = []
with_commas (d ∷ ds) = compact_text d ++ flat_map (λ e. 44 ∷ compact_text e) ds

-- the text begins with a fact or a step, whose facts are such, and then has the rest
pub record BeginsWith {X : Type 0} (data_of : X → Data) (Has : X → Type 0) (text : List ℕ) (x : X) (rest : List ℕ)
    : Type 0 where
  pub spells : text ≡ compact_text (data_of x) ++ rest
  pub facts : Has x

-- or with several
pub record BeginsWithSome {X : Type 0} (data_of : X → Data) (Has : X → Type 0) (text : List ℕ) (xs : List X)
    (rest : List ℕ) : Type 0 where
  pub spells : text ≡ with_commas (map data_of xs) ++ rest
  pub some : 0 < length xs
  pub facts : AllByRecursion Has xs

abbrev pub BeginsWithFact : List ℕ → FactValue → List ℕ → Type 0
BeginsWithFact = BeginsWith fact_data IsFact

abbrev pub BeginsWithFacts : List ℕ → List FactValue → List ℕ → Type 0
BeginsWithFacts = BeginsWithSome fact_data IsFact

abbrev pub BeginsWithStep : List ℕ → StepValue → List ℕ → Type 0
BeginsWithStep = BeginsWith step_data HasFacts

abbrev pub BeginsWithSteps : List ℕ → List StepValue → List ℕ → Type 0
BeginsWithSteps = BeginsWithSome step_data HasFacts

-- the text is read as this record
pub record IsRecord (text : List ℕ) (line : ℕ) (steps : List StepValue) : Type 0 where
  pub record_read : read text ≡ Some (record_data line steps)
  pub facts : HaveFacts steps
