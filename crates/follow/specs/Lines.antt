-- What following the lines of a run comes to, before its end.
use Rattle.std.specs.Prelude.{◌≡◌, ℕ, true, List, ◌++◌, Ok}
use Rattle.userset_index.specs.Growth.{IsGrowing}
use Rattle.userset_index.specs.Index.{IndexValue}
use Rattle.json_lines.specs.Reading.{line_count}
use Rattle.trace_lines.specs.Placed.{AreInPlace}
use Rattle.trace_lines.specs.Values.{TraceValue}
use Rattle.follow_laws.specs.Begun.{IsOfBytes}
use Rattle.runs.specs.Kept.{KeptValue}
use Rattle.monitor.specs.Standing.{IsAtEnd}
use Rattle.audit.specs.Audit.{Says}
use Rattle.carry_laws.specs.declared.known.Known.{Known}
use Rattle.follow.specs.Heartbeats.{ArePast, AreSilent, AreThrough}
use Rattle.follow.specs.Pieces.{Piece, text_of, told_in}
use Rattle.follow.specs.Running.{GoesOnAs, WentOut}
use Rattle.follow.specs.SoFar.{IsFollowed}
use Rattle.follow.specs.Told.{IsToldFrom}
use Rattle.follow.specs.declared.follower.Follower.{Follower}

-- what went out is told of the lines that had come
abbrev pub IsSoFar : Says → ℕ → Known → List ℕ → List ℕ → List ℕ → Type 0
IsSoFar says first known = WentOut says (IsToldFrom says first known) (λ a pieces ending v. ⊥)

-- All of the bytes say a log, and what its lines let tell is told.
pub record TellsLines (says : Says) (f : Follower) (a old new : List ℕ) (read : KeptValue × IndexValue × ℕ)
    : Type 0 where
  pub said : says true a ≡ Ok read.0.log
  pub counted : read.2 ≡ line_count a
  pub pieces : List Piece
  pub went : new ≡ old ++ text_of pieces
  pub same : f.told.items ≡ told_in pieces
  pub followed : IsFollowed read.0.log f
  pub all : IsAtEnd read.0.log f.monitor
  pub placed : AreInPlace read.0.log
  pub good : IsOfBytes read.0.log
  pub silent : AreSilent pieces
  pub through : AreThrough read.0.log pieces
  pub longer : (u : TraceValue) → GoesOnAs says a u → AreThrough u pieces
  pub past : ArePast read.0.log f.monitor pieces
  pub indexed : IsGrowing read.0.log.declarations read.0.log.commits read.1
