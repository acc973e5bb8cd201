-- What a watch tells of the reports that it is shown.
use Rattle.std.specs.Prelude.{◌≡◌, ℕ, Bool, true, List}
use Rattle.audit.specs.Early.{early_text}
use Rattle.findings.specs.Findings.{on_line}
use Rattle.audit.specs.declared.shared.Found.{Found}

-- the early line of a report
abbrev pub line_for : Found → List ℕ
line_for f = early_text (on_line f.line f.what)

-- the line is that of a report which may be given to an entry, and raises an alert
abbrev pub IsLineOf : (ℕ → Found → Type 0) → (Found → Bool) → List ℕ → Type 0
IsLineOf gives alerts l = (i : ℕ) × (found : Found) × gives i found × (alerts found ≡ true) × (l ≡ line_for found)
