-- The text of the report.
use Rattle.std.specs.Prelude.{ℕ, List, [], ◌∷◌, ◌++◌, length, codes}
use Rattle.std.specs.Fmt.{decimal}
use Rattle.std.specs.List.{flat_map}
use Rattle.findings.specs.declared.finding.What.{What}
use Rattle.findings.specs.declared.finding.What.TheVariants.{Stale, OldToken, NotLatest, OpenSnapshot, WrongToken, UnknownVersion, NoEvidence, BadEvidence, Silent, WrongReply}
use Rattle.findings.specs.declared.finding.Finding.{Finding}

abbrev pub what_text : What → List ℕ
what_text Stale = codes "F1 stale"
what_text (OldToken l) = codes "F2 old token, see line " ++ decimal l
what_text (NotLatest l) = codes "F3 not latest, see line " ++ decimal l
what_text (OpenSnapshot l) = codes "F4 open snapshot, see line " ++ decimal l
what_text WrongToken = codes "F5 wrong token"
what_text UnknownVersion = codes "F6 unknown version"
what_text NoEvidence = codes "F7 no evidence"
what_text (BadEvidence k) = codes "F8 bad evidence at step " ++ decimal k
what_text Silent = codes "F9 silent evidence"
what_text WrongReply = codes "F10 wrong reply"

-- `line N: `, what was found, and a newline
abbrev pub line_text : Finding → List ℕ
line_text f = codes "line " ++ decimal f.line ++ codes ": " ++ what_text f.what ++ (10 ∷ [])

abbrev pub verdict_text : List Finding → List ℕ
verdict_text [] = codes "verdict clean\n"
verdict_text (f ∷ fs) = codes "verdict dirty\n"

abbrev pub count_text : List ℕ → ℕ → List ℕ
count_text name n = name ++ decimal n ++ (10 ∷ [])

abbrev pub last_lines : List Finding → ℕ → List ℕ
last_lines findings entries = count_text (codes "entries ") entries
    ++ (count_text (codes "findings ") (length findings) ++ verdict_text findings)

-- a line for each finding, the two counts, and the verdict
abbrev pub report_text : List Finding → ℕ → List ℕ
report_text findings entries = flat_map line_text findings ++ last_lines findings entries
