use Rattle.std.proofs.Common.{◌≡◌, ◌↔◌, List, rules, subst}
use Rattle.std.specs.Prelude.{None}
use Rattle.tuple_text.specs.Refs.{set_value}
use Rattle.tuple_text.specs.Sets.{SetValue}
use Rattle.judgement.specs.AskedFact.{asked_set, tuples_over}
use Rattle.judgement.specs.Passes.{AreOfOneObject, IsObjectStored, SomeSet}
use Rattle.judgement.proofs.PassLemmas.{some_by_sets}
use Rattle.judgement.proofs.leading.stores_object.Goals as goal

pub loop-stored-init : goal.loop-stored-init
loop-stored-init g c =
    let a = c.args.fact.now in
    let s = a.snapshot.now in
    let other = set_value c.args.other in
    let same : c.usersets-stored-items.result ≡ c.into_iter-stored-iterator.result = search rules in
    subst (λ (gs : List SetValue). SomeSet (λ (g : SetValue). AreOfOneObject g other) gs ↔ IsObjectStored (tuples_over a) (asked_set a) other) same
    (some_by_sets s.timeline.commits s.at (asked_set a) c.usersets-stored-items.result c.usersets-stored-items.ensures.stored a.known.now None
    a.user (λ (g : SetValue). AreOfOneObject g other))
