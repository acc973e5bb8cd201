use Rattle.std.proofs.Common.{◌≡◌, ℕ, false, subst, rules}
use Rattle.rule_reads.specs.Reads.{HasMark, own}
use Rattle.rule_reads.proofs.Reading.{own_known, own_taken}
use Rattle.rule_reads.proofs.reads.Reads.take_own.Goals as goal

pub returns-then-not-branch : goal.returns-then-not-branch
returns-then-not-branch c all =
    let known : c.in_ok-take_mark.field-0 ≡ false = search rules in
    own_known c.args.scope.rules.now c.args.scope.kinds.now c.args.scope.tuples.now c.requires c.args.reader.namespace.now c.args.reader.relation.now c.args.reader.stratum c.args.strict c.in_ok-take_mark.field-0
    c.args.self.now c.take_mark.new.self
    (subst (λ (m : ℕ). HasMark m c.in_ok-take_mark.field-0 (own c.args.strict c.args.self.now) (own c.args.strict c.take_mark.new.self)) c.relation_mark-mark.ensures c.in_ok-take_mark.ensures.marks)
    c.take_mark.ensures.others c.take_mark.ensures.through c.take_mark.ensures.tuplesets c.take_mark.ensures.computed known

pub returns : goal.returns
returns c all =
    own_taken c.args.scope.rules.now c.args.scope.kinds.now c.args.scope.tuples.now c.requires c.args.reader.namespace.now c.args.reader.relation.now c.args.reader.stratum c.args.strict c.in_ok-take_mark.field-0
    c.args.self.now c.take_mark.new.self
    (subst (λ (m : ℕ). HasMark m c.in_ok-take_mark.field-0 (own c.args.strict c.args.self.now) (own c.args.strict c.take_mark.new.self)) c.relation_mark-mark.ensures c.in_ok-take_mark.ensures.marks)
    c.take_mark.ensures.others c.take_mark.ensures.through c.take_mark.ensures.tuplesets c.take_mark.ensures.computed
    (rw c.relation_mark-mark.ensures at (c.own_fits_along.ensures all))
