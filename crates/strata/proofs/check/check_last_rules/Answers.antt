use Rattle.std.proofs.Common.{None, Some, refl, sym, ◌∙◌, rules, arith}
use Rattle.rewrites.specs.View.{expression_of}
use Rattle.strata.specs.Edges.{last_relation_edges}
use Rattle.strata.specs.Sights.{reads}
use Rattle.strata.proofs.Walks.{relations_next, relations_end, relation_within, few_relations, last_rule_edges}
use Rattle.strata.proofs.check.check_last_rules.Goals as goal

pub returns-in_err-check_rewrite-clause-edges : goal.returns-in_err-check_rewrite-clause-edges
returns-in_err-check_rewrite-clause-edges c =
    let rs = c.args.rules.now in
    let sees = reads c.args.sight in
    let number = c.loop-rewrite.number in
    let e = expression_of c.in-Some.rewrite.now in
    rw (
      c.loop-rewrite.invariant.left,
      relations_next (λ x. x) (λ x. x.expression) rs (last_relation_edges rs sees) number c.args.namespace c.loop-rewrite.invariant.number (Some e) c.in-Some.ensures.value refl,
      last_rule_edges rs sees number e c.in-Some.ensures.value,
      ← c.in_err-check_rewrite.ensures,
    ) (search rules)

pub overflow_add-number : goal.overflow_add-number
overflow_add-number c =
    let rs = c.args.rules.now in
    let within = relation_within (λ x. x) (λ x. x.expression) rs (last_relation_edges rs (reads c.args.sight)) c.loop-rewrite.number c.args.namespace c.loop-rewrite.invariant.number (Some (expression_of c.in-Some.rewrite.now)) c.in-Some.ensures.value refl in
    let few = few_relations rs c.args.namespace c.in-Some.ensures.well_formed in
    omega arith

pub loop-rewrite-smaller : goal.loop-rewrite-smaller
loop-rewrite-smaller c =
    let rs = c.args.rules.now in
    let within = relation_within (λ x. x) (λ x. x.expression) rs (last_relation_edges rs (reads c.args.sight)) c.loop-rewrite.number c.args.namespace c.loop-rewrite.invariant.number (Some (expression_of c.in-Some.rewrite.now)) c.in-Some.ensures.value refl in
    omega arith

pub loop-rewrite-preserved : goal.loop-rewrite-preserved
loop-rewrite-preserved c =
    let rs = c.args.rules.now in
    let sees = reads c.args.sight in
    let number = c.loop-rewrite.number in
    let e = expression_of c.in-Some.rewrite.now in
    record {
      number = c.loop-rewrite.invariant.number;
      least = omega arith;
      left =
          c.loop-rewrite.invariant.left
          ∙ relations_next (λ x. x) (λ x. x.expression) rs (last_relation_edges rs sees) number c.args.namespace c.loop-rewrite.invariant.number (Some e) c.in-Some.ensures.value refl
          ∙ rw (last_rule_edges rs sees number e c.in-Some.ensures.value, ← c.in_ok-check_rewrite.ensures) (search rules);
    }

pub returns-clause-edges : goal.returns-clause-edges
returns-clause-edges c =
    let rs = c.args.rules.now in
    sym (c.loop-rewrite.invariant.left
    ∙ relations_end (λ x. x) (λ x. x.expression) rs (last_relation_edges rs (reads c.args.sight)) c.loop-rewrite.number c.args.namespace c.loop-rewrite.invariant.number None c.in_default.ensures.value c.loop-rewrite.invariant.least refl)
