use Rattle.std.proofs.Common.{◌≡◌, length, string_bytes, arith}
use Rattle.std.proofs.lemmas.List.{length-map}
use Rattle.std.specs.Prelude.{Contains}
use Rattle.rewrites.specs.Parts.{computed_names}
use Rattle.judgement.proofs.PassLemmas.{each_element}
use Rattle.wide_rules.proofs.covers.reads_all.Goals as goal

pub returns : goal.returns
returns c _ =
    let entries = c.args.through.now.computed.entries in
    let count : c.len-k-end.result ≡ length entries = c.len-k-end.ensures.len in
    let named : length (computed_names c.args.through.now) ≡ length entries = length-map entries (λ e. string_bytes e.0) in
    each_element (Contains (computed_names c.args.cover.now)) (computed_names c.args.through.now)
    (λ k name within at. c.loop-k.invariant k name (omega (arith, within, c.loop-k-test.false, count, named)) at)
