use Rattle.std.proofs.Common.{List, ℕ, Some, ◌↔◌, sym, subst}
use Rattle.tuple_text.specs.Sets.{SetValue}
use Rattle.rewrites.specs.Parts.{computed_names}
use Rattle.judgement.specs.Passes.{SomeSet}
use Rattle.judgement.proofs.LedLemmas.{led_by_either}
use Rattle.judgement.proofs.PassLemmas.{led_by_sets}
use Rattle.judgement.specs.AskedFact.{GivesFor, asked_set}
use Rattle.wide_rules.specs.AskedFact.{GivesUnder, IsLedBy, LeadsUnder}
use Rattle.wide_rules.proofs.ThroughLemmas.{led_by_targets, name_of_some, some_of_name}
use Rattle.wide_rules.proofs.through.is_led_by_name.Goals as goal

pub returns : goal.returns
returns g c =
    let a = c.args.fact.now in
    let s = a.snapshot.now in
    let names = computed_names c.args.through.now in
    let sets = c.usersets-stored.result in
    let led = λ (n : List ℕ). led_by_sets s.timeline.commits s.at (asked_set a) sets c.usersets-stored.ensures.stored a.known.now (Some n) a.user in
    let P : List ℕ → SetValue → Type 0 = λ n g. GivesFor a (Some n) g in
    let by_sets : SomeSet (GivesUnder a names) sets ↔ IsLedBy a names = (
      λ h. let w = name_of_some P names sets h in (w.0, w.1, (led w.0).0 w.2),
      λ l. some_of_name P names sets l.0 l.1 ((led l.0).1 l.2),
    ) in
    let by_targets = subst (λ (ts : List SetValue). SomeSet (LeadsUnder a names) ts ↔ IsLedBy a names) (sym c.sets_of.ensures)
    (led_by_targets a names) in
    led_by_either (SomeSet (GivesUnder a names) sets) (SomeSet (LeadsUnder a names) c.sets_of.result) (IsLedBy a names)
    c.leads_by_either.result by_sets by_targets c.leads_by_either.ensures.leads c.leads_by_either.ensures.none
