use Rattle.std.proofs.Common.{◌≡◌, ◌∙◌, refl, sym, arith, Some, length, string_bytes}
use Rattle.std.proofs.lemmas.List.{length-map}
use Rattle.std.specs.Prelude.{slice_get}
use Rattle.rewrites.specs.Parts.{computed_names}
use Rattle.judgement.specs.AskedFact.{IsBarredFor}
use Rattle.judgement.proofs.PassLemmas.{each_element, element_at}
use Rattle.wide_rules.proofs.through.are_barred_one_by_one.Goals as goal

pub returns-then-not-is_barred : goal.returns-then-not-is_barred
returns-then-not-is_barred g c =
    let names = computed_names c.args.through.now in
    let name = c.in-Some.name.now in
    let at : slice_get names c.loop-k.k ≡ Some name = sym c.in-Some.ensures in
    (λ t. cc, λ all. sym c.if-not-is_barred.true ∙ c.is_barred.ensures.1 (all name (element_at names c.loop-k.k name at)))

pub returns : goal.returns
returns g c =
    let a = c.args.fact.now in
    let entries = c.args.through.now.computed.entries in
    let count : c.len-k-end.result ≡ length entries = c.len-k-end.ensures.len in
    let named : length (computed_names c.args.through.now) ≡ length entries = length-map entries (λ e. string_bytes e.0) in (
      λ t. each_element (λ n. IsBarredFor a (Some n)) (computed_names c.args.through.now)
          (λ k n within at. c.loop-k.invariant k n (omega (arith, within, c.loop-k-test.false, count, named)) at),
      λ all. refl,
    )
