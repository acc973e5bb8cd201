use Rattle.std.proofs.Common.{sym, ◌∙◌, rules, arith}
use Rattle.strata.proofs.Walks.{namespaces_next, namespaces_end, namespace_within}
use Rattle.strata.proofs.check.check_rules.Goals as goal

pub returns-in_err-check_namespace : goal.returns-in_err-check_namespace
returns-in_err-check_namespace c =
    rw (
      c.loop-namespace.invariant.left,
      namespaces_next c.args.rules.now c.loop-namespace.number c.in-Some.namespace.now (sym c.in-Some.ensures.value),
      ← c.in_err-check_namespace.ensures,
    ) (search rules)

pub overflow_add-number : goal.overflow_add-number
overflow_add-number c =
    let within = namespace_within c.args.rules.now c.loop-namespace.number c.in-Some.namespace.now (sym c.in-Some.ensures.value) in
    let few = c.in-Some.ensures.well_formed.namespaces in
    omega arith

pub loop-namespace-smaller : goal.loop-namespace-smaller
loop-namespace-smaller c =
    let within = namespace_within c.args.rules.now c.loop-namespace.number c.in-Some.namespace.now (sym c.in-Some.ensures.value) in
    omega arith

pub loop-namespace-preserved : goal.loop-namespace-preserved
loop-namespace-preserved c = record {
  least = omega arith;
  left =
      c.loop-namespace.invariant.left
      ∙ namespaces_next c.args.rules.now c.loop-namespace.number c.in-Some.namespace.now (sym c.in-Some.ensures.value)
      ∙ rw (← c.in_ok-check_namespace.ensures) (search rules);
}

pub returns : goal.returns
returns c =
    sym (c.loop-namespace.invariant.left
    ∙ namespaces_end c.args.rules.now c.loop-namespace.number c.loop-namespace.invariant.least (sym c.in_default.ensures.value))
