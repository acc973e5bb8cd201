use Rattle.std.proofs.Common.{◌∙◌, [], ap, sym}
use Rattle.marks.specs.Marks.{set_mark}
use Rattle.rule_reads.specs.Reads.{FitsOwn, IsLowWhereStored, mark_of_user, computed_mark, relation_mark}
use Rattle.rule_reads.proofs.Reading.{each_marked}
use Rattle.rule_reads.proofs.reads.Reads.relation_fits.Goals as goal

pub returns-then-own_fits_along : goal.returns-then-own_fits_along
returns-then-own_fits_along c all = record {
  own = λ t i user.
      each_marked (FitsOwn c.args.scope.rules.now c.args.self.now) mark_of_user c.args.scope.tuples.now c.args.scope.kinds.now.users c.requires.kinds.users c.relation_mark-user.result
      (c.own_fits_along.ensures c.if-own_fits_along.true) t i (c.relation_mark-user.ensures ∙ ap set_mark (sym user));
  through = λ e i name.
      each_marked (IsLowWhereStored c.args.scope.rules.now c.args.scope.kinds.now c.args.namespace.now) computed_mark c.args.self.now.through.items c.args.self.now.computed c.requires.marked.computed
      c.relation_mark-computed.result (c.through_fits_along.ensures all) e i (c.relation_mark-computed.ensures ∙ ap (relation_mark []) (sym name));
}
