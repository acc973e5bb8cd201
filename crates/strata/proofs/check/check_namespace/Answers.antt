use Rattle.std.proofs.Common.{sym, ◌∙◌, rules, arith}
use Rattle.strata.specs.Edges.{relation_edges}
use Rattle.strata.specs.Sights.{reads}
use Rattle.strata.proofs.Walks.{relations_next, relations_end, relation_within, few_relations}
use Rattle.strata.proofs.check.check_namespace.Goals as goal

pub returns-in_err-check_relation : goal.returns-in_err-check_relation
returns-in_err-check_relation c =
    rw (
      c.loop-number.invariant.left,
      relations_next (λ s. s.now) (λ x. x.name) c.args.rules.now (relation_edges c.args.rules.now (reads c.args.sight)) c.loop-number.number c.args.namespace c.loop-number.invariant.number c.relation.result c.relation.ensures.value (sym c.is_some.ensures ∙ c.loop-number-test.true),
      ← c.in_err-check_relation.ensures,
    ) (search rules)

pub overflow_add-number : goal.overflow_add-number
overflow_add-number c =
    let within = relation_within (λ s. s.now) (λ x. x.name) c.args.rules.now (relation_edges c.args.rules.now (reads c.args.sight)) c.loop-number.number c.args.namespace c.loop-number.invariant.number c.relation.result c.relation.ensures.value (sym c.is_some.ensures ∙ c.loop-number-test.true) in
    let few = few_relations c.args.rules.now c.args.namespace c.relation.ensures.well_formed in
    omega arith

pub loop-number-smaller : goal.loop-number-smaller
loop-number-smaller c =
    let within = relation_within (λ s. s.now) (λ x. x.name) c.args.rules.now (relation_edges c.args.rules.now (reads c.args.sight)) c.loop-number.number c.args.namespace c.loop-number.invariant.number c.relation.result c.relation.ensures.value (sym c.is_some.ensures ∙ c.loop-number-test.true) in
    omega arith

pub loop-number-preserved : goal.loop-number-preserved
loop-number-preserved c = record {
  number = c.loop-number.invariant.number;
  least = omega arith;
  left =
      c.loop-number.invariant.left
      ∙ relations_next (λ s. s.now) (λ x. x.name) c.args.rules.now (relation_edges c.args.rules.now (reads c.args.sight)) c.loop-number.number c.args.namespace c.loop-number.invariant.number c.relation.result c.relation.ensures.value (sym c.is_some.ensures ∙ c.loop-number-test.true)
      ∙ rw (← c.in_ok-check_relation.ensures) (search rules);
}

pub returns : goal.returns
returns c =
    sym (c.loop-number.invariant.left
    ∙ relations_end (λ s. s.now) (λ x. x.name) c.args.rules.now (relation_edges c.args.rules.now (reads c.args.sight)) c.loop-number.number c.args.namespace c.loop-number.invariant.number c.relation.result c.relation.ensures.value c.loop-number.invariant.least (sym c.is_some.ensures ∙ c.loop-number-test.false))
