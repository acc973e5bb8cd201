use Rattle.std.proofs.Common.{rules, ◌≡◌, true, Ok, Some, ◌∙◌}
use Rattle.rule_reads.proofs.Reading.{through_known, through_taken}
use Rattle.rule_reads.proofs.reads.Reads.take_through.Goals as goal

pub returns-then-has_through : goal.returns-then-has_through
returns-then-has_through c all =
    through_known c.args.scope.rules.now c.args.scope.tuples.now c.args.reader.namespace.now c.args.reader.relation.now c.args.tupleset.now c.args.computed.now c.args.reader.stratum c.args.strict c.args.self.now
    (rw c.ceiling-ceiling.ensures at (c.has_through.ensures c.if-has_through.true))

pub returns : goal.returns
returns c all =
    let is : c.of.result ≡ Ok (Some c.in-Some.through) = search rules in
    let low : c.fits_everywhere.result ≡ true = search rules in
    through_taken c.args.scope.rules.now c.args.scope.kinds.now c.args.scope.tuples.now c.requires.of_tuples c.args.reader.namespace.now c.args.reader.relation.now c.args.tupleset.now c.args.computed.now
    c.args.reader.stratum c.args.strict c.args.self.now c.push_through.new.self c.in-Some.through (c.of.ensures.names c.in-Some.through is) (c.of.ensures.ceiling c.in-Some.through is ∙ c.ceiling-ceiling.ensures)
    c.push_through.ensures.plain c.push_through.ensures.strict c.in_ok-push_through.ensures.through c.in_ok-push_through.ensures.marked (c.fits_everywhere.ensures low)
