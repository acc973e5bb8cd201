use Rattle.std.proofs.Common.{◌≡◌, length, string_bytes, arith}
use Rattle.std.proofs.lemmas.List.{length-map}
use Rattle.rewrites.specs.Parts.{computed_names}
use Rattle.wide_rules.proofs.DeclaringLemmas.{none_by_names}
use Rattle.wide_rules.proofs.declaring.declares_name.Goals as goal

pub returns : goal.returns
returns c _ =
    let entries = c.args.through.now.computed.entries in
    let count : c.len-k-end.result ≡ length entries = c.len-k-end.ensures.len in
    let named : length (computed_names c.args.through.now) ≡ length entries = length-map entries (λ e. string_bytes e.0) in
    none_by_names c.args.rules.now c.args.at (computed_names c.args.through.now) c.args.namespace.now
    (λ k relation within at. c.loop-k.invariant k relation (omega (arith, within, c.loop-k-test.false, count, named)) at)
