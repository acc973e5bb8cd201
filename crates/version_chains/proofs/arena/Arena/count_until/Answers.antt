use Rattle.std.proofs.Common.{leb, rules, subst}
use Rattle.std.proofs.lemmas.List.Sorted.{IsPartitionPoint-from_clause}
use Rattle.version_chains.specs.Arena.{Held, latest_of, tuples_of}
use Rattle.version_chains.specs.Given.{AreLaterFrom}
use Rattle.version_chains.specs.declared.node.Node.{Node}
use Rattle.version_chains.proofs.BackLemmas.{parted_by_time, later_from}
use Rattle.version_chains.proofs.arena.Arena.count_until.Goals as goal

pub returns-clause-later : goal.returns-clause-later
returns-clause-later c =
    let inside = c.self.inside in
    let parted = parted_by_time (tuples_of inside.rows) (latest_of inside.rows) inside.named inside.held inside.nodes.items c.self.invariant.0 c.args.at c.deref.result.now c.deref.ensures.value in
    let point = IsPartitionPoint-from_clause (λ (n : Node). leb n.at c.args.at) c.deref.result.now c.partition_point.result c.partition_point.ensures.partitioned parted (λ a r q k. search rules) in
    subst (λ (h : Held). AreLaterFrom c.args.at h.touches c.partition_point.result) c.self.view_is
    (later_from (tuples_of inside.rows) (latest_of inside.rows) inside.named inside.held inside.nodes.items c.self.invariant.0 c.args.at c.partition_point.result c.deref.result.now c.deref.ensures.value point)
