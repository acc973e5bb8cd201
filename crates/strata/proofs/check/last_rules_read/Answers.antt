use Rattle.std.proofs.Common.{[], None, Some, refl, sym, ◌∙◌, arith}
use Rattle.rewrites.specs.View.{expression_of}
use Rattle.strata.specs.Edges.{last_relation_edges, read_through}
use Rattle.strata.proofs.Walks.{relations_next, relations_end, relation_within, few_relations, rule_unread}
use Rattle.strata.proofs.check.last_rules_read.Goals as goal

pub overflow_add-number : goal.overflow_add-number
overflow_add-number c =
    let rs = c.args.rules.now in
    let within = relation_within (λ x. x) (λ x. x.expression) rs (λ n. []) c.loop-rewrite.number c.args.namespace c.loop-rewrite.invariant.number (Some (expression_of c.in-Some.rewrite.now)) c.in-Some.ensures.value refl in
    let few = few_relations rs c.args.namespace c.in-Some.ensures.well_formed in
    omega arith

pub loop-rewrite-smaller : goal.loop-rewrite-smaller
loop-rewrite-smaller c =
    let rs = c.args.rules.now in
    let within = relation_within (λ x. x) (λ x. x.expression) rs (λ n. []) c.loop-rewrite.number c.args.namespace c.loop-rewrite.invariant.number (Some (expression_of c.in-Some.rewrite.now)) c.in-Some.ensures.value refl in
    omega arith

pub loop-rewrite-preserved : goal.loop-rewrite-preserved
loop-rewrite-preserved c =
    let rs = c.args.rules.now in
    let number = c.loop-rewrite.number in
    let e = expression_of c.in-Some.rewrite.now in
    record {
      number = c.loop-rewrite.invariant.number;
      least = omega arith;
      left = λ r g.
          c.loop-rewrite.invariant.left r g
          ∙ relations_next (λ x. x) (λ x. x.expression) rs (last_relation_edges rs (read_through r g)) number c.args.namespace c.loop-rewrite.invariant.number (Some e) c.in-Some.ensures.value refl
          ∙ rw (rule_unread rs number r g e c.in-Some.ensures.value (sym c.reads_tupleset.ensures ∙ c.if-reads_tupleset.false)) refl;
    }

pub returns : goal.returns
returns c none r g =
    let rs = c.args.rules.now in
    c.loop-rewrite.invariant.left r g
    ∙ relations_end (λ x. x) (λ x. x.expression) rs (last_relation_edges rs (read_through r g)) c.loop-rewrite.number c.args.namespace c.loop-rewrite.invariant.number None c.in_default.ensures.value c.loop-rewrite.invariant.least refl
