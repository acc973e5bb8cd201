use Rattle.std.proofs.Common.{rules, ◌≡◌, true, refl}
use Rattle.rule_reads.specs.Reads.{Fits}
use Rattle.edge_checks.proofs.Indexing.{kinds_more, pair_fits, admitted}
use Rattle.rule_reads.proofs.Fitting.{tuple_unbroken}
use Rattle.edge_checks.proofs.edge_index.EdgeIndex.admit.Goals as goal

pub returns-then-is_known-clause-unbroken : goal.returns-then-is_known-clause-unbroken
returns-then-is_known-clause-unbroken c all =
    let whole : c.args.self.now.is_whole ≡ true = search rules in
    let was = c.requires whole in
    let fits : Fits c.args.rules.now c.args.self.now.reads c.args.tuple.now = record {
      own = c.own_fits.ensures c.if-own_fits.true;
      through = pair_fits c.args.rules.now c.args.self.now.reads.through.items c.args.tuples.now c.args.tuple.now (λ u i. (was.fit u i).through) (c.knows_pair-is_known.ensures c.if-is_known.true);
    } in
    tuple_unbroken c.args.rules.now c.args.self.now.reads c.args.tuple.now was.well_formed was.read fits

pub returns-then-is_known-clause-index : goal.returns-then-is_known-clause-index
returns-then-is_known-clause-index c all whole =
    let was = c.requires whole in
    let fits : Fits c.args.rules.now c.args.self.now.reads c.args.tuple.now = record {
      own = c.own_fits.ensures c.if-own_fits.true;
      through = pair_fits c.args.rules.now c.args.self.now.reads.through.items c.args.tuples.now c.args.tuple.now (λ u i. (was.fit u i).through) (c.knows_pair-is_known.ensures c.if-is_known.true);
    } in
    admitted c.args.rules.now c.args.self.now _ c.args.tuples.now c.args.tuple.now was refl
    (kinds_more c.args.self.now.kinds c.push.new.self c.args.tuples.now c.args.tuple.now was.kinds c.in_ok-push.ensures.sets c.in_ok-push.ensures.users c.in_ok-push.ensures.pairs) fits whole

pub returns-else-is_known-clause-unbroken : goal.returns-else-is_known-clause-unbroken
returns-else-is_known-clause-unbroken c all =
    let whole : c.args.self.now.is_whole ≡ true = search rules in
    let was = c.requires whole in
    tuple_unbroken c.args.rules.now c.args.self.now.reads c.args.tuple.now was.well_formed was.read (record { own = c.own_fits.ensures c.if-own_fits.true; through = c.through_fits.ensures all })

pub returns-else-is_known-clause-index : goal.returns-else-is_known-clause-index
returns-else-is_known-clause-index c all whole =
    let was = c.requires whole in
    admitted c.args.rules.now c.args.self.now _ c.args.tuples.now c.args.tuple.now was refl
    (kinds_more c.args.self.now.kinds c.push.new.self c.args.tuples.now c.args.tuple.now was.kinds c.in_ok-push.ensures.sets c.in_ok-push.ensures.users c.in_ok-push.ensures.pairs)
    (record { own = c.own_fits.ensures c.if-own_fits.true; through = c.through_fits.ensures all }) whole
