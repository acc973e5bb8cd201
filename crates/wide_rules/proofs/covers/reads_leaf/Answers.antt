use Rattle.std.proofs.Common.{rules, ◌≡◌}
use Rattle.std.specs.Prelude.{Contains, string_bytes}
use Rattle.rewrites.specs.Expression.{tuple_to}
use Rattle.rewrites.specs.Parts.{computed_names}
use Rattle.rewrites.specs.View.{expression_of}
use Rattle.rewrites.specs.declared.rewrite.Rewrite.{the_lemmas}
use Rattle.wide_rules.proofs.CoverLemmas.{leaf_covered}
use Rattle.wide_rules.proofs.covers.reads_leaf.Goals as goal

pub returns-then-eq : goal.returns-then-eq
returns-then-eq c reads =
    let cover = c.args.cover.now in
    let leaf = c.in-TupleTo in
    let same : string_bytes cover.tupleset ≡ string_bytes leaf.tupleset = search rules in
    let there : Contains (computed_names cover) (string_bytes leaf.computed) = rw c.as_str.ensures.value at (c.reads.ensures.0 reads) in
    let is : expression_of c.args.leaf.now ≡ tuple_to (string_bytes leaf.tupleset) (string_bytes leaf.computed) = rw leaf.is (search (rules, the_lemmas)) in
    rw is (leaf_covered cover (string_bytes leaf.tupleset) (string_bytes leaf.computed) same there)
