use Rattle.std.proofs.Common.{◌+◌, ◌^◌, ◌≤◌, refl}
use Rattle.std.specs.Prelude.{IfErr, OnOk}
use Rattle.json_lines.specs.Joined.{ends_left}
use Rattle.json_lines.specs.Json.{taken_line}
use Rattle.json_lines.specs.Reading.{IsOfLine, IsOfSomeLine}
use Rattle.json_lines.proofs.RestLines.{Going}
use Rattle.json_lines.proofs.RestReads.{ReadSoFar}
use Rattle.json_lines.proofs.joined.Rest.part.Given as goal

abbrev pub invariant-loop-self : goal.invariant-loop-self
invariant-loop-self g l =
    let taken = taken_line g.T.Cause.LineCause.not_json g.T.TakeJson.taken in
    record {
      going : Going taken l.fn.value (λ n s. refl) (g.R.Source.given l.fn.reader) (g.R.Source.given l.reader) l.fn.self l.self l.marked l.number l.value l.read;
      within : l.fn.self.room ≤ 2 ^ 30;
      next : OnOk l.read (g.T.TakeJson.next l.value ≤ l.number);
      number : l.number + (l.self.room + ends_left l.self.ended) ≤ 2 ^ 30 + 2;
      refused : IfErr l.read (λ e. IsOfLine e.stop × IsOfSomeLine taken e);
      so_far : ReadSoFar g.R.Source.given g.R.Source.ends g.R.Source.failures g.R.Read.remaining
          (g.R.Source.ends l.fn.reader + 1) l.fn.reader l.reader l.self;
    }

abbrev pub decreases-loop-self : goal.decreases-loop-self
decreases-loop-self g l = l.self.room + ends_left l.self.ended
