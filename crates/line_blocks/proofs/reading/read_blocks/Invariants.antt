use Rattle.std.proofs.Common.{◌≤◌}
use Rattle.line_blocks.specs.Parts.{taken_by}
use Rattle.line_blocks.proofs.Exits.{Ahead}
use Rattle.line_blocks.proofs.reading.read_blocks.Given as goal

abbrev pub invariant-loop-turn : goal.invariant-loop-turn
invariant-loop-turn g l =
    Ahead g.R.Source.given g.R.Source.ends g.R.Source.failures g.R.Read.remaining
    (taken_by (g.J.TellLine.told l.fn.teller) g.P.PutTold.put) l.fn.reader l.fn.value
    l.reader l.value l.place l.bytes.items l._turn
    × (g.P.PutTold.next l.value ≤ l.place.number)
