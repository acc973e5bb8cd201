use Rattle.std.proofs.Common.{append-nil, sym}
use Rattle.json_lines.proofs.joined.read_front.Goals as goal

pub returns-clause-most : goal.returns-clause-most
returns-clause-most g c =
    let given = g.R.Source.given c.args.reader.now in
    c.part.ensures.asked.most given (rw c.in_ok-new.ensures (sym (append-nil given)))
