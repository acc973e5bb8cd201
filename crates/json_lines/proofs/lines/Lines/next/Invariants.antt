use Rattle.std.proofs.Common.{◌≡◌, ◌+◌, ◌≤◌, true, vec_len}
use Rattle.devices.specs.Given.{AreNext}
use Rattle.json_lines.specs.Lines.{lacks, line_len, Takes}
use Rattle.json_lines.proofs.lines.Lines.next.Given as goal

abbrev pub invariant-loop-turn : goal.invariant-loop-turn
invariant-loop-turn g l = record {
  taken : Takes (g.R.Source.given l.fn.reader) (g.R.Source.given l.reader) l.fn.self l.self l.line.items;
  no_newline : lacks l.line.items ≡ true;
  ahead : line_len l.fn.self ≤ vec_len l.line + line_len l.self;
  within : vec_len l.line ≤ l.max;
  turns : l._turn ≤ vec_len l.line;
  known : AreNext g.R.Source.given g.R.Source.ends g.R.Read.remaining l.fn.reader l.reader;
  going : g.R.Source.ends l.reader ≡ g.R.Source.ends l.fn.reader;
  kept : g.R.Source.failures l.reader ≡ g.R.Source.failures l.fn.reader;
}
