use Rattle.std.proofs.Common.{◌≡◌, ◌↔◌, ◌∷◌, List, subst, None, rules}
use Rattle.rewrites.specs.Parts.{computed_names}
use Rattle.judgement.specs.AskedFact.{asked_set}
use Rattle.tuple_text.specs.Refs.{set_value}
use Rattle.tuple_text.specs.Sets.{SetValue}
use Rattle.judgement.specs.Passes.{EachSet}
use Rattle.wide_rules.specs.AskedFact.{BarsUnder, IsBarredBy}
use Rattle.judgement.proofs.PassLemmas.{each_by_sets}
use Rattle.wide_rules.proofs.through.are_barred_set_by_set.Goals as goal

pub loop-set-init : goal.loop-set-init
loop-set-init g c =
    let a = c.args.fact.now in
    let s = a.snapshot.now in
    let names = computed_names c.args.through.now in
    let sets = c.usersets-set-items in
    let both = each_by_sets s.timeline.commits s.at (asked_set a) sets.result sets.ensures.stored a.known.now None a.user
    (BarsUnder a names) in
    let same : sets.result ≡ c.into_iter-set-iterator.result = search rules in
    subst (λ (gs : List SetValue). EachSet (BarsUnder a names) gs ↔ IsBarredBy a names) same (
      λ h. λ name there g stored. both.0 h g stored name there,
      λ all. both.1 (λ g stored name there. all name there g stored),
    )

pub loop-set-preserved : goal.loop-set-preserved
loop-set-preserved g c =
    let set = set_value c.in-Some.set.set in
    let steps : c.loop-set.set-iterator ≡ set ∷ c.next.new.self = search rules in
    let here : BarsUnder c.args.fact.now (computed_names c.args.through.now) set =
    c.bars_names.ensures.0 c.if-not-bars_names.false in
    let left = rw steps at c.loop-set.invariant in
    (λ rest. left.0 (here, rest), λ all. (left.1 all).1)
