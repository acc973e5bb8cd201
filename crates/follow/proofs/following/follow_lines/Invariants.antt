use Rattle.std.proofs.Common.{◌+◌, ◌^◌, ◌≤◌}
use Rattle.audit.specs.Devices.{writer, StandsBehind, WriterNeverFailed}
use Rattle.runs.specs.Kept.{next_kept}
use Rattle.follow.specs.Reading.{IsKeptSoFar, IsSaidBehind}
use Rattle.follow.specs.SoFar.{TellsFromSame}
use Rattle.audit.specs.Audit.{Says}
use Rattle.follow.proofs.IndexLemmas.{IsIndexSoFar}
use Rattle.follow.proofs.RunLemmas.{IsRunSoFar}
use Rattle.follow.proofs.following.follow_lines.Given as goal

abbrev pub invariant-loop-usersets : goal.invariant-loop-usersets
invariant-loop-usersets g l = record {
  run : (so_far : IsKeptSoFar g.A.Source.given g.A.Source.ends g.A.Source.failures g.A.Read.remaining l.fn.trace l.trace
      l.fn.log l.log l.lines) × ((says : Says) → IsSaidBehind l.fn.log says → IsRunSoFar says l.fn.follower.first
      l.fn.follower.known so_far.used (g.W.Sink.taken l.fn.out) (g.W.Sink.taken l.out) l.follower
      × IsIndexSoFar says so_far.used l.usersets);
  from : TellsFromSame l.fn.follower l.follower;
  next : next_kept l.log ≤ l.lines.number;
  room : l.lines.number + l.lines.room ≤ 2 ^ 30 + 1;
  number : 1 ≤ l.lines.number;
  kept : WriterNeverFailed (record {
    before = writer g.W.Sink.taken g.W.Sink.flushes g.W.Sink.failures g.W.Sink.idle g.W.Write.contents l.fn.out;
    after = writer g.W.Sink.taken g.W.Sink.flushes g.W.Sink.failures g.W.Sink.idle g.W.Write.contents l.out;
  });
  held : StandsBehind (record {
    before = writer g.W.Sink.taken g.W.Sink.flushes g.W.Sink.failures g.W.Sink.idle g.W.Write.contents l.fn.out;
    after = writer g.W.Sink.taken g.W.Sink.flushes g.W.Sink.failures g.W.Sink.idle g.W.Write.contents l.out;
  });
}

abbrev pub decreases-loop-usersets : goal.decreases-loop-usersets
decreases-loop-usersets g l = l.lines.room
