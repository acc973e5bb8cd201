use Rattle.std.proofs.Common.{◌≡◌, ◌∙◌, ◌<◌, suc, length, None, leb, arith, rules, refl, sym}
use Rattle.std.proofs.lemmas.List.Sorted.{IsPartitionPoint-from_clause, IsPartitionedBy-leb}
use Rattle.namespaces.specs.declared.index.Revision.{Revision}
use Rattle.namespaces.proofs.Points.{filter-before, last-take, copied_get}
use Rattle.namespaces.proofs.index.revision_at.Goals as goal

pub returns-in_err-last : goal.returns-in_err-last
returns-in_err-last c =
    let parted = IsPartitionedBy-leb (λ (v : Revision). v.at) _ c.args.at c.requires in
    let point = IsPartitionPoint-from_clause (λ (v : Revision). leb v.at c.args.at) _ _ c.partition_point-count.ensures.partitioned parted (λ a r q k. search rules) in
    let none : c.partition_point-count.result ≡ 0 = omega (arith, c.in_err-last.ensures) in
    c.from_residual.ensures ∙ rw (filter-before (λ (v : Revision). leb v.at c.args.at) c.args.revisions.now c.partition_point-count.result c.partition_point-count.ensures.bound point, none) refl

pub returns : goal.returns
returns c =
    let parted = IsPartitionedBy-leb (λ (v : Revision). v.at) _ c.args.at c.requires in
    let point = IsPartitionPoint-from_clause (λ (v : Revision). leb v.at c.args.at) _ _ c.partition_point-count.ensures.partitioned parted (λ a r q k. search rules) in
    let before : c.partition_point-count.result ≡ suc c.in_ok-last.last = omega (arith, c.in_ok-last.ensures) in
    let within : c.in_ok-last.last < length c.args.revisions.now = omega (arith, c.partition_point-count.ensures.bound) in
    c.copied.ensures ∙ copied_get c.args.revisions.now c.in_ok-last.last c.get.result c.get.ensures.lookup.0 c.get.ensures.lookup.1
    ∙ rw (filter-before (λ (v : Revision). leb v.at c.args.at) c.args.revisions.now c.partition_point-count.result c.partition_point-count.ensures.bound point, before) (sym (last-take None c.args.revisions.now c.in_ok-last.last within))
