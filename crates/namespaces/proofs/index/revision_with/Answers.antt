use Rattle.std.proofs.Common.{◌∙◌, ◌-◌, length, take, drop, nat_lt, not, leb, rules, refl}
use Rattle.std.proofs.lemmas.List.Sorted.{IsPartitionPoint-from_clause, IsPartitionedBy-leb}
use Rattle.std.proofs.lemmas.List.{take_rest}
use Rattle.namespaces.specs.declared.index.Revision.{Revision}
use Rattle.namespaces.proofs.Points.{filter-behind, filter-same, not-le, copied_get}
use Rattle.namespaces.proofs.index.revision_with.Goals as goal

pub returns : goal.returns
returns c =
    let parted = IsPartitionedBy-leb (λ (v : Revision). v.relations) _ c.args.index c.requires in
    let point = IsPartitionPoint-from_clause (λ (v : Revision). leb v.relations c.args.index) _ _ c.partition_point-first.ensures.partitioned parted (λ a r q k. search rules) in
    let behind = filter-same (λ (v : Revision). nat_lt c.args.index v.relations) (λ (v : Revision). not (leb v.relations c.args.index)) c.args.revisions.now (λ v. not-le v.relations c.args.index)
    ∙ filter-behind (λ (v : Revision). leb v.relations c.args.index) c.args.revisions.now c.partition_point-first.result c.partition_point-first.ensures.bound point in
    c.copied.ensures ∙ copied_get (take (length c.args.revisions.now - c.partition_point-first.result) (drop c.partition_point-first.result c.args.revisions.now)) c.args.k c.get.result c.get.ensures.lookup.0 c.get.ensures.lookup.1 ∙ rw (behind, take_rest c.args.revisions.now c.partition_point-first.result) refl
