use Rattle.std.proofs.Common.{rules, ◌≡◌}
use Rattle.std.specs.Prelude.{string_bytes}
use Rattle.wide_rules.proofs.CoverLemmas.{through_covered}
use Rattle.wide_rules.proofs.covers.is_cover.Goals as goal

pub returns-in-Leaf : goal.returns-in-Leaf
returns-in-Leaf c reads = rw (c.in-Through.is, c.in-Leaf.is) (c.reads_leaf.ensures reads)

pub returns-then-eq : goal.returns-then-eq
returns-then-eq c reads =
    let cover = c.in-Through.cover in
    let through = c.in-Through-part.through in
    let same : string_bytes cover.tupleset ≡ string_bytes through.tupleset = search rules in
    rw (c.in-Through.is, c.in-Through-part.is) (through_covered cover through same (c.reads_all.ensures reads))
