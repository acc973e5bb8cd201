-- How far a follower is, and what it tells of the lines that it takes.
use Rattle.std.specs.Prelude.{◌≡◌, ℕ, ◌≤◌, List, [], ◌++◌, length, IfSome, Option}
use Rattle.std.specs.List.{flat_map}
use Rattle.trace_lines.specs.Placed.{AreInPlace}
use Rattle.trace_lines.specs.Values.{TraceValue}
use Rattle.findings.specs.Report.{last_lines, line_text}
use Rattle.findings.specs.declared.finding.Finding.{Finding}
use Rattle.audit.specs.Made.{IsMade}
use Rattle.follow_laws.specs.Begun.{IsOfBytes}
use Rattle.monitor.specs.SoFar.{IsTold}
use Rattle.monitor.specs.Standing.{AreBehind, IsAtEnd, Stands}
use Rattle.monitor.specs.Telling.{TellsLeft}
use Rattle.follow.specs.Heartbeats.{AreSettledTo, Beats}
use Rattle.follow.specs.Pieces.{Piece, piece_text}
use Rattle.carry_laws.specs.Asked.{asked}
use Rattle.follow.specs.declared.follower.Follower.{Follower}

-- Some of the log's lines were taken, from the first on, and what is told there from the follower's first line on, and of
-- entries that are audited by what it knows, was told, by steps that are made for each entry.
pub record IsFollowed (t : TraceValue) (f : Follower) : Type 0 where
  pub stands : Stands t f.monitor
  pub all : List Finding
  pub told : IsTold IsMade f.first t f.monitor [] all
  pub asked_alone : f.told.items ≡ asked f.known t all
  pub within : f.settled ≤ length t.entries
  pub settled : AreSettledTo t f.settled

-- the line from which on it tells, and what it knows
abbrev pub TellsFromSame : Follower → Follower → Type 0
TellsFromSame old new = (new.first ≡ old.first) × (new.known ≡ old.known)

-- What is told at the lines that were not taken yet is told, on no entry that was settled before them, and perhaps a
-- heartbeat, where the number of the last line is given.
pub record TellsPiece (t : TraceValue) (line : Option ℕ) (old new : Follower) (text : List ℕ) : Type 0 where
  pub piece : Piece
  pub behind : new.told.items ≡ old.told.items ++ piece.told
  pub silent : AreBehind t old.monitor piece.told
  pub beats : IfSome piece.heartbeat (Beats t new.told.items line)
  pub is : text ≡ piece_text piece
  pub followed : IsFollowed t new
  pub all : IsAtEnd t new.monitor
  pub placed : AreInPlace t
  pub good : IsOfBytes t
  pub same : TellsFromSame old new

-- The rest is told of a log whose lines were all taken, and the last lines of the report; it is on no entry that is settled.
pub record TellsRest (t : TraceValue) (old new : Follower) (text : List ℕ) : Type 0 where
  pub rest : List Finding
  pub behind : new.told.items ≡ old.told.items ++ asked old.known t rest
  pub left : TellsLeft IsMade t [] rest
  pub placed : AreInPlace t
  pub good : IsOfBytes t
  pub silent : AreBehind t old.monitor rest
  pub is : text ≡ flat_map line_text (asked old.known t rest) ++ last_lines new.told.items (length t.entries)
