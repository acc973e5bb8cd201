-- The record of the steps for the entry on a line, as JSON.
use Rattle.std.specs.Prelude.{ℕ, List, map, codes}
use Rattle.std.specs.List.{AllByRecursion}
use Rattle.serde_json.specs.Data.{Data, unsigned, number, string, array, object, no_members, member}
use Rattle.serde_json.specs.View.{items_of}
use Rattle.tuple_text.specs.Grammar.{fact_text, IsFact}
use Rattle.tuple_text.specs.Tuples.{FactValue}
use Rattle.evidence_check.specs.Steps.{StepValue, yes_step, no_step}

abbrev pub fact_data : FactValue → Data
fact_data f = string (fact_text f)

abbrev pub facts_data : List FactValue → Data
facts_data facts = array (items_of (map fact_data facts))

-- `{"yes":FACT}` or `{"no":[FACT,..]}`
abbrev pub step_data : StepValue → Data
step_data (yes_step f) = object (member (codes "yes") (fact_data f) no_members)
step_data (no_step fs) = object (member (codes "no") (facts_data fs) no_members)

abbrev pub steps_data : List StepValue → Data
steps_data steps = array (items_of (map step_data steps))

-- `{"line":N,"steps":[STEP,..]}`
abbrev pub record_data : ℕ → List StepValue → Data
record_data line steps =
    object (member (codes "line") (number (unsigned line)) (member (codes "steps") (steps_data steps) no_members))

abbrev pub HasFacts : StepValue → Type 0
HasFacts (yes_step f) = IsFact f
HasFacts (no_step fs) = AllByRecursion IsFact fs

-- Each fact of the steps is one that has a text, which those of a `Step` are.
abbrev pub HaveFacts : List StepValue → Type 0
HaveFacts steps = AllByRecursion HasFacts steps
