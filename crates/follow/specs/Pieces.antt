-- What a follower writes: the lines of findings, and heartbeats between them.
use Rattle.std.specs.Prelude.{ℕ, List, [], ◌++◌, Option, None, Some, codes}
use Rattle.std.specs.Fmt.{decimal}
use Rattle.std.specs.List.{flat_map}
use Rattle.findings.specs.Report.{line_text}
use Rattle.findings.specs.declared.finding.Finding.{Finding}
use Rattle.follow.specs.declared.heartbeat.Heartbeat.{Heartbeat}

-- what was told after a read, and the heartbeat behind it, if there is one
pub record Piece : Type 0 where
  pub told : List Finding
  pub heartbeat : Option Heartbeat

-- a number, and words behind it
abbrev pub number_text : ℕ → List ℕ → List ℕ
number_text n words = decimal n ++ words

-- `through line N: E entries, F findings, O open`, and a newline
abbrev pub heartbeat_text : Heartbeat → List ℕ
heartbeat_text h = codes "through line " ++ (number_text h.line (codes ": ") ++ (number_text h.entries (codes " entries, ")
    ++ (number_text h.findings (codes " findings, ") ++ number_text h.open (codes " open\n"))))

abbrev pub beat_text : Option Heartbeat → List ℕ
beat_text None = []
beat_text (Some h) = heartbeat_text h

abbrev pub piece_text : Piece → List ℕ
piece_text p = flat_map line_text p.told ++ beat_text p.heartbeat

abbrev pub text_of : List Piece → List ℕ
text_of pieces = flat_map piece_text pieces

-- the findings, in the order of telling
abbrev pub told_in : List Piece → List Finding
told_in pieces = flat_map (λ p. p.told) pieces
