use Rattle.std.proofs.Common.{◌≡◌, ℕ, true, false, Some, inl, inr, subst, rules, arith}
use Rattle.std.proofs.lemmas.Result.{IfOk-from_err}
use Rattle.namespaces.specs.Lookup.{relation_numbered}
use Rattle.strata.specs.Edges.{places}
use Rattle.rule_reads.specs.Reads.{relation_number}
use Rattle.rule_reads.proofs.Reading.{number_below, below_or_at, grown_then, read_kept}
use Rattle.rule_reads.proofs.reads.Reads.take_namespace.Goals as goal

pub loop-relation-preserved : goal.loop-relation-preserved
loop-relation-preserved c =
    let fits : c.in_ok-take_relation.field-0 ≡ true = search rules in
    let taken = c.in_ok-take_relation.ensures fits in
    record {
      grown = grown_then c.args.scope.rules.now c.args.scope.tuples.now c.args.self.now c.loop-relation.self c.take_relation.new.self c.loop-relation.invariant.grown taken.grown;
      read = λ r x less is. elim (below_or_at r c.loop-relation.relation less) [
        | inl before ↦
            read_kept c.args.scope.rules.now c.args.scope.tuples.now c.args.namespace.now x.name x.stratum (places false x.expression) c.loop-relation.self c.take_relation.new.self taken.grown
            (c.loop-relation.invariant.read r x before is)
        | inr same ↦ taken.read x (subst (λ (k : ℕ). relation_numbered (relation_number c.args.number k) c.args.scope.rules.now ≡ Some x) same is)
      ];
    }

pub returns : goal.returns
returns c all =
    let past = c.loop-relation-test.false in
    record {
      grown = c.loop-relation.invariant.grown;
      read = λ r x is.
          let below = number_below c.args.scope.rules.now c.args.number r x c.requires.scope.well_formed is in
          c.loop-relation.invariant.read r x (omega (arith, past, below)) is;
    }

pub returns-in_err-take_relation : goal.returns-in_err-take_relation
returns-in_err-take_relation c = IfOk-from_err _ _ c.from_residual.ensures.0
