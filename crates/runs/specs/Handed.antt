-- A carry of a log.
use Rattle.std.specs.Prelude.{◌≡◌, ℕ, ◌+◌, ◌≤◌, List, [], Some, Ok}
use Rattle.trace_lines.specs.Values.{TraceValue}
use Rattle.carry.specs.Values.{CarryValue}
use Rattle.carry_laws.specs.Carried.{StandsIn}
use Rattle.carry_laws.specs.Together.{StaysKnown}
use Rattle.carry_laws.specs.declared.known.Known.{Known}
use Rattle.runs.specs.Begins.{log_of}
use Rattle.runs.specs.DeclaredTexts.{declared_by}

-- how much of the log is known behind it
abbrev pub known_by : CarryValue → Known
known_by c = record { base = c.base; versions = c.versions }

-- What the carry begins stands in for the log, from a line on that is behind no further one.
pub record IsCarryOf (t : TraceValue) (c : CarryValue) : Type 0 where
  pub log : TraceValue
  pub begun : log_of c ≡ Ok log
  pub first : ℕ
  pub stands : StandsIn (known_by c) first t log
  pub behind : first ≤ c.lines + 1

-- A carry of a log of which so much was known: no more is known behind it, and of the versions that waiting entries name
-- as much.
pub record IsHandedOn (known : Known) (t : TraceValue) (c : CarryValue) : Type 0 where
  pub of : IsCarryOf t c
  pub base : known.base ≤ c.base
  pub versions : known.versions ≤ c.versions
  pub steady : StaysKnown t known.versions c.versions

-- these texts of lines make the declarations of a log
abbrev pub AreDeclarationsOf : TraceValue → List (List ℕ) → Type 0
AreDeclarationsOf t texts = declared_by [] texts ≡ Some t.declarations
