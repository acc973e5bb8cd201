use Rattle.std.proofs.Common.{List, ◌↔◌, sym, subst}
use Rattle.std.specs.Prelude.{option_map}
use Rattle.tuple_text.specs.Sets.{SetValue}
use Rattle.judgement.specs.AskedFact.{GivesFor, IsLedFor, asked_set, tuples_over}
use Rattle.judgement.specs.Passes.{IsTargetStored, SomeSet}
use Rattle.judgement.proofs.LedLemmas.{led_by_either, led_by_targets}
use Rattle.judgement.proofs.PassLemmas.{led_by_sets}
use Rattle.judgement.proofs.leading.is_led.Goals as goal

pub returns : goal.returns
returns g c =
    let a = c.args.fact.now in
    let set = asked_set a in
    let relation = option_map (λ s. s.now) c.args.relation in
    let led = IsLedFor a relation in
    let by_sets = led_by_sets a.snapshot.now.timeline.commits a.snapshot.now.at set c.usersets-stored.result c.usersets-stored.ensures.stored a.known.now relation a.user in
    let by_targets = subst (λ (ts : List SetValue). SomeSet (IsTargetStored (tuples_over a) set relation) ts ↔ led) (sym c.sets_of.ensures)
    (led_by_targets (tuples_over a) a.known.now set relation a.user) in
    led_by_either (SomeSet (GivesFor a relation) c.usersets-stored.result) (SomeSet (IsTargetStored (tuples_over a) set relation) c.sets_of.result) led
    c.leads_either.result by_sets by_targets c.leads_either.ensures.leads c.leads_either.ensures.none
