use Rattle.std.proofs.Common.{◌∙◌, ap}
use Rattle.userset_index.specs.Spans.{marks_of}
use Rattle.userset_index.proofs.SpanLemmas.{alive_newest, newest_of, of_mark}
use Rattle.userset_index.proofs.spans.Spans.alive.Goals as goal

pub invariant_of-result : goal.invariant_of-result
invariant_of-result c =
    of_mark c.args.mark c.args.self.now c.newest.result
    (newest_of c.args.mark c.self.inside.links c.args.self.now c.newest.result (c.self.invariant.0 ∙ ap marks_of c.self.view_is) c.newest.ensures)

pub returns : goal.returns
returns c =
    alive_newest c.args.mark c.args.at c.args.self.now c.newest.result
    (newest_of c.args.mark c.self.inside.links c.args.self.now c.newest.result (c.self.invariant.0 ∙ ap marks_of c.self.view_is) c.newest.ensures)
