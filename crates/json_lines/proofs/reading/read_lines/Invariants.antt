use Rattle.std.proofs.Common.{◌+◌, ◌^◌, ◌≤◌}
use Rattle.json_lines.specs.Json.{taken_line}
use Rattle.json_lines.specs.SoFar.{IsReadSoFar}
use Rattle.json_lines.proofs.reading.read_lines.Given as goal

abbrev pub invariant-loop-lines : goal.invariant-loop-lines
invariant-loop-lines g l = record {
  so_far : IsReadSoFar g.R.Source.given g.R.Source.ends g.R.Source.failures g.R.Read.remaining
      (taken_line g.T.Cause.LineCause.not_json g.T.TakeJson.taken) l.fn.reader l.reader l.fn.value l.value l.lines;
  next : g.T.TakeJson.next l.value ≤ l.lines.number;
  room : l.lines.number + l.lines.room ≤ 2 ^ 30 + 1;
}

abbrev pub decreases-loop-lines : goal.decreases-loop-lines
decreases-loop-lines g l = l.lines.room
