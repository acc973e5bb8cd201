use Rattle.std.proofs.Common.{◌≡◌, ◌<◌, ℕ, suc, true, length, string_bytes, inl, inr, arith}
use Rattle.std.proofs.lemmas.List.{length-map}
use Rattle.namespaces.specs.Declaring.{declares}
use Rattle.namespaces.specs.Numbers.{Has}
use Rattle.rewrites.specs.Parts.{computed_names}
use Rattle.judgement.proofs.PassLemmas.{each_element, next_element}
use Rattle.wide_rules.proofs.declaring.declaring_one.Goals as goal

pub loop-k-preserved : goal.loop-k-preserved
loop-k-preserved c =
    next_element (λ relation. (n : ℕ) → n < 256 → declares (suc n) relation c.args.rules.now ≡ true → Has c.joined-all.result (suc n))
    (computed_names c.args.through.now) c.loop-k.k
    (λ i relation less at n small declared. (c.joined-all.ensures (suc n)).1 (inl (c.loop-k.invariant i relation less at n small declared)))
    (λ relation at n small declared. (c.joined-all.ensures (suc n)).1 (inr (c.declaring_at.ensures relation n at small declared)))

pub returns : goal.returns
returns c relation n named small declared =
    let entries = c.args.through.now.computed.entries in
    let count : c.len-k-end.result ≡ length entries = c.len-k-end.ensures.len in
    let all : length (computed_names c.args.through.now) ≡ length entries = length-map entries (λ e. string_bytes e.0) in
    each_element (λ r. (m : ℕ) → m < 256 → declares (suc m) r c.args.rules.now ≡ true → Has c.loop-k.all (suc m)) (computed_names c.args.through.now)
    (λ i r within at. c.loop-k.invariant i r (omega (arith, within, c.loop-k-test.false, count, all)) at) relation named n small declared
