use Rattle.std.proofs.Common.{rules, ◌≡◌, sym, true}
use Rattle.namespaces.specs.Lookup.{namespace_names}
use Rattle.strata.proofs.LastTuple.{placed}
use Rattle.edge_checks.proofs.Indexing.{declared_whole}
use Rattle.rule_reads.proofs.Fitting.{all_unbroken}
use Rattle.rule_reads.proofs.Reading.{fits_then}
use Rattle.edge_checks.proofs.edge_index.EdgeIndex.take.Goals as goal

pub take_namespace-requires-clause-named : goal.take_namespace-requires-clause-named
take_namespace-requires-clause-named c = placed c.args.namespace.now (namespace_names c.args.rules.now) c.in-Some.number (sym c.in-Some.ensures)

pub relations_fit-requires-clause-named : goal.relations_fit-requires-clause-named
relations_fit-requires-clause-named c = placed c.args.namespace.now (namespace_names c.args.rules.now) c.in-Some.number (sym c.in-Some.ensures)

pub returns-clause-unbroken : goal.returns-clause-unbroken
returns-clause-unbroken c =
    let whole : c.args.self.now.is_whole ≡ true = search rules in
    let fine : c.relations_fit.result ≡ true = search rules in
    fits_then c.take_namespace.result
    (λ taken.
    let now = declared_whole c.args.rules.now c.args.namespace.now c.args.known c.args.self.now c.args.tuples.now c.requires whole c.in-Some.number (sym c.in-Some.ensures) (c.relations_fit.ensures fine) c.take_namespace.new.self taken in
    all_unbroken c.args.rules.now c.take_namespace.new.self c.args.tuples.now now.well_formed now.read now.fit)
    c.take_namespace.ensures

pub returns-clause-index : goal.returns-clause-index
returns-clause-index c =
    let fine : c.relations_fit.result ≡ true = search rules in
    fits_then c.take_namespace.result
    (λ taken whole. declared_whole c.args.rules.now c.args.namespace.now c.args.known c.args.self.now c.args.tuples.now c.requires whole c.in-Some.number (sym c.in-Some.ensures) (c.relations_fit.ensures fine) c.take_namespace.new.self taken)
    c.take_namespace.ensures
