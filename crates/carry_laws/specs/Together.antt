-- The runs of a log, one behind the other, and what they tell together.
use Rattle.std.specs.Prelude.{◌≡◌, ◌⊎◌, ℕ, false, ◌+◌, ◌≤◌, nat_le, List, [], ◌∷◌, ◌++◌, filter, slice_get, Option, Some, if◌then◌else◌}
use Rattle.trace_lines.specs.Values.{EntryValue, TraceValue, next_line}
use Rattle.evidence_check.specs.Evidences.{steps_of}
use Rattle.evidence_check.specs.Steps.{StepValue}
use Rattle.findings.specs.declared.finding.Finding.{Finding}
use Rattle.windows.specs.Growth.{is_settled}
use Rattle.follow_laws.specs.Begun.{Begins}
use Rattle.follow_laws.specs.Told.{told_between}
use Rattle.carry_laws.specs.Asked.{all_known, asked, is_asked, knows_named}
use Rattle.carry_laws.specs.declared.known.Known.{Known}
use Rattle.carry_laws.specs.Carried.{GoesOnAlike, StandsIn, placeless}

-- A run of a log: up to which line it goes, and what the log says up to there; what it knows of the log in front of it,
-- the log that it ended with itself, and the steps that it had for the entries of that.
pub record Part : Type 0 where
  pub to : ℕ
  pub whole : TraceValue
  pub knows : Known
  pub log : TraceValue
  pub evidence : List (Option (List StepValue))

-- where a log is known from one line on or from another, the same unsettled entries name a known version
abbrev pub StaysKnown : TraceValue → ℕ → ℕ → Type 0
StaysKnown t from further = (i : ℕ) (e : EntryValue) → slice_get t.entries i ≡ Some e → is_settled t e ≡ false
    → knows_named further t.entries e ≡ knows_named from t.entries e

-- The run takes the lines behind line n of the log that u says, up to which it says `before`. It began with that, or
-- with what stands in for it. The run before it knew the versions from a line on; what this one knows of them is the
-- same for entries that wait.
pub record IsPart (u : TraceValue) (n : ℕ) (before : TraceValue) (from : ℕ) (r : Part) : Type 0 where
  pub within : n ≤ r.to
  pub goes : Begins n before r.whole
  pub onward : Begins r.to r.whole u
  pub begun : TraceValue
  pub shorter : Begins n begun r.log
  pub fits : next_line r.log ≤ r.to + 1
  pub alike : GoesOnAlike goes.goes begun r.log
  pub known : ((r.knows ≡ all_known) × (r.log ≡ r.whole)) ⊎ ((p : ℕ) × (p ≤ n + 1) × StandsIn r.knows p before begun)
  pub steady : StaysKnown before from r.knows.versions

-- runs take the lines behind line n, each those behind the one before it, and the last goes to the end
abbrev pub AreParts : TraceValue → ℕ → TraceValue → ℕ → List Part → Type 0
AreParts u n before from [] = before ≡ u
AreParts u n before from (r ∷ rs) = IsPart u n before from r × AreParts u r.to r.whole r.knows.versions rs

-- what a run tells at its lines, of entries that it audits, and what all tell
abbrev pub told_in : ℕ → Part → List Finding
told_in n r = asked r.knows r.log (told_between r.log r.evidence (n + 1) (r.to + 1))

abbrev pub told_in_all : ℕ → List Part → List Finding
told_in_all n [] = []
told_in_all n (r ∷ rs) = told_in n r ++ told_in_all r.to rs

-- what the run knows that takes a line
abbrev pub known_at : List Part → ℕ → Known
known_at [] line = all_known
known_at (r ∷ rs) line = if nat_le line r.to then r.knows else known_at rs line

-- the findings on entries that were audited by the run that took them
abbrev pub on_audited : List Part → TraceValue → List Finding → List Finding
on_audited rs u found = filter (λ f. is_asked (known_at rs f.line) u f.line) found

-- one of the runs had these steps for the entry
abbrev pub HadSteps : List Part → EntryValue → Option (List StepValue) → Type 0
HadSteps [] e steps = ⊥
HadSteps (r ∷ rs) e steps = ((j : ℕ) × (d : EntryValue) × (slice_get r.log.entries j ≡ Some d) × (placeless d ≡ e)
    × (steps ≡ steps_of r.evidence j)) ⊎ HadSteps rs e steps
