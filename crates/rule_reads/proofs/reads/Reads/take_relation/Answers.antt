use Rattle.std.proofs.Common.{◌≡◌, ℕ, false, List, subst}
use Rattle.rewrites.specs.Expression.{Expression}
use Rattle.rewrites.specs.View.{expression_of}
use Rattle.strata.specs.Edges.{places}
use Rattle.rule_reads.specs.Reads.{AreRead}
use Rattle.rule_reads.proofs.Reading.{fits_then, name_of, rule_of, stratum_at}
use Rattle.rule_reads.proofs.reads.Reads.take_relation.Goals as goal

pub returns : goal.returns
returns c =
    let ds = c.args.scope.rules.now in
    fits_then c.take_rewrite.result
    (λ wide. record {
      grown = wide.grown;
      read = λ x is.
          let name = name_of c.in-Some.relation.now _ x c.in-Some.ensures.value is in
          let rule = rule_of (expression_of c.in-Some-last_rule.rewrite.now) _ x c.in-Some-last_rule.ensures.value is in
          let stratum : c.in-Some-stratum.stratum ≡ x.stratum =
          stratum_at c.in-Some-stratum.stratum ds c.args.number c.args.namespace.now c.in-Some.relation.now x c.requires.scope.well_formed c.requires.named c.in-Some.ensures.value is c.in-Some-stratum.ensures in
          subst (λ (e : Expression). AreRead c.take_rewrite.new.self c.args.namespace.now x.name x.stratum (places false e)) rule
          (subst (λ (k : ℕ). AreRead c.take_rewrite.new.self c.args.namespace.now x.name k (places false (expression_of c.in-Some-last_rule.rewrite.now))) stratum
          (subst (λ (nm : List ℕ). AreRead c.take_rewrite.new.self c.args.namespace.now nm c.in-Some-stratum.stratum (places false (expression_of c.in-Some-last_rule.rewrite.now))) name wide.read));
    })
    c.take_rewrite.ensures
