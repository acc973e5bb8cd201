use Rattle.std.proofs.Common.{◌≡◌, ◌+◌, ◌≤◌, ◌++◌, length, vec_len}
use Rattle.devices.specs.Given.{AreNext}
use Rattle.json_lines.specs.declared.lines.TheConstants.{CHUNK}
use Rattle.follow.proofs.whole.read_up_to.Given as goal

abbrev pub invariant-loop-turn : goal.invariant-loop-turn
invariant-loop-turn g l = record {
  came : g.R.Source.given l.reader ≡ g.R.Source.given l.fn.reader ++ l.bytes.items;
  turns : l._turn ≤ length l.bytes.items;
  few : length l.bytes.items ≤ l.max + CHUNK;
  chunk : vec_len l.chunk ≡ CHUNK;
  known : AreNext g.R.Source.given g.R.Source.ends g.R.Read.remaining l.fn.reader l.reader;
  going : g.R.Source.ends l.reader ≡ g.R.Source.ends l.fn.reader;
  kept : g.R.Source.failures l.reader ≡ g.R.Source.failures l.fn.reader;
}
