use Rattle.std.proofs.Common.{◌≡◌, ◌≤◌, ◌++◌, length, take}
use Rattle.devices.specs.Given.{StandBehind}
use Rattle.devices.proofs.sending.send.Given as goal

abbrev pub invariant-loop-turn : goal.invariant-loop-turn
invariant-loop-turn g l = record {
  sent : g.W.Sink.taken l.out ≡ g.W.Sink.taken l.fn.out ++ take l.written l.bytes;
  within : l.written ≤ length l.bytes;
  turns : l._turn ≤ l.written;
  kept : g.W.Sink.failures l.out ≡ g.W.Sink.failures l.fn.out;
  busy : g.W.Sink.idle l.out ≡ g.W.Sink.idle l.fn.out;
  held : StandBehind g.W.Sink.taken g.W.Write.contents l.fn.out l.out;
  flushed : g.W.Sink.flushes l.out ≡ g.W.Sink.flushes l.fn.out;
}
