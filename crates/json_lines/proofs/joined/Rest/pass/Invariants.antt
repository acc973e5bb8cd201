use Rattle.std.proofs.Common.{◌≡◌, ◌+◌, true}
use Rattle.json_lines.specs.Joined.{ends_left}
use Rattle.json_lines.proofs.RestLines.{Used}
use Rattle.json_lines.proofs.RestReads.{ReadSoFar}
use Rattle.json_lines.proofs.joined.Rest.pass.Given as goal

abbrev pub invariant-loop-self : goal.invariant-loop-self
invariant-loop-self g l = record {
  used : Used (g.R.Source.given l.fn.reader) (g.R.Source.given l.reader) l.fn.self l.self;
  over : l.fn.self.ended ≡ true → (l.self.ended ≡ true) × (g.R.Source.given l.reader ≡ g.R.Source.given l.fn.reader);
  so_far : ReadSoFar g.R.Source.given g.R.Source.ends g.R.Source.failures g.R.Read.remaining
      (g.R.Source.ends l.fn.reader + ends_left l.fn.self.ended) l.fn.reader l.reader l.self;
}

abbrev pub decreases-loop-self : goal.decreases-loop-self
decreases-loop-self g l = l.self.room + ends_left l.self.ended
