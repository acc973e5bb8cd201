use Rattle.std.proofs.Common.{◌≡◌, ℕ, true, Some, inl, inr, subst, rules, arith}
use Rattle.namespaces.specs.Lookup.{relation_numbered}
use Rattle.rule_reads.specs.Reads.{IsFitting, relation_number}
use Rattle.rule_reads.proofs.Reading.{number_below, count_within, below_or_at, name_of, no_name}
use Rattle.rule_reads.proofs.reads.Reads.relations_fit.Goals as goal
use Rattle.rule_reads.proofs.reads.Reads.relations_fit.Goals.{in-Some+else-not-relation_fits, in_default}

pub loop-relation-preserved : goal.loop-relation-preserved
loop-relation-preserved c r x above less is = elim (below_or_at r c.loop-relation.relation less) [
  | inl before ↦ c.loop-relation.invariant r x above before is
  | inr same ↦
      let here : relation_numbered (relation_number c.args.number c.loop-relation.relation) c.args.scope.rules.now ≡ Some x =
      subst (λ (k : ℕ). relation_numbered (relation_number c.args.number k) c.args.scope.rules.now ≡ Some x) same is in
      elim c.match-relation.branch [
        | in-Some+else-not-relation_fits w ↦
            let fits : w.relation_fits.result ≡ true = search rules in
            subst (IsFitting c.args.scope.rules.now c.args.self.now c.args.scope.kinds.now c.args.scope.tuples.now c.args.namespace.now)
            (name_of w.in-Some.relation.now _ x w.in-Some.ensures.value here) (w.relation_fits.ensures fits)
        | in_default w ↦ no_name _ x w.in_default.ensures.value here
      ]
]

pub returns-then-from-count : goal.returns-then-from-count
returns-then-from-count c all r x above is =
    let past = c.if-from-count.true in
    let count = c.relation_count-count.ensures.value in
    let from = c.from-in-loop-relation.ensures in
    let within = count_within c.args.scope.rules.now c.args.number r c.args.namespace.now x c.requires.named is in
    c.loop-relation.invariant r x above (omega (arith, past, within, count, from)) is

pub returns : goal.returns
returns c all r x above is =
    let past = c.loop-relation-test.false in
    let below = number_below c.args.scope.rules.now c.args.number r x c.requires.scope.well_formed is in
    c.loop-relation.invariant r x above (omega (arith, past, below)) is
