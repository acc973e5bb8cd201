use Rattle.std.proofs.Common.{◌≡◌, ◌^◌, ◌≤◌, false}
use Rattle.devices.specs.Given.{AreNext}
use Rattle.json_lines.proofs.NextLines.{Passed}
use Rattle.json_lines.proofs.joined.Rest.next.Given as goal

abbrev pub invariant-pieces : goal.invariant-pieces
invariant-pieces g l = record {
  passed : Passed (g.R.Source.given l.fn.reader) (g.R.Source.given l.reader) l.fn.self.at_hand l.fn.self.room l.self-inside.lines l.self-inside.room l.whole;
  within : l.self-inside.room ≤ 2 ^ 30;
  unended : l.self-inside.ended ≡ false;
  known : AreNext g.R.Source.given g.R.Source.ends g.R.Read.remaining l.fn.reader l.reader;
  going : g.R.Source.ends l.reader ≡ g.R.Source.ends l.fn.reader;
  kept : g.R.Source.failures l.reader ≡ g.R.Source.failures l.fn.reader;
}

abbrev pub decreases-pieces : goal.decreases-pieces
decreases-pieces g l = l.self-inside.room
