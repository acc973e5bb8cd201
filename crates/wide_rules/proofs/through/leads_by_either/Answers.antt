use Rattle.std.proofs.Common.{◌≡◌, ◌∙◌, Bool, Some, false, inr, ap}
use Rattle.tuple_text.specs.Refs.{set_value}
use Rattle.tuple_text.specs.Sets.{SetValue}
use Rattle.rewrites.specs.Parts.{computed_names}
use Rattle.judgement.specs.Passes.{SomeSet}
use Rattle.judgement.proofs.LedLemmas.{some_left}
use Rattle.wide_rules.specs.AskedFact.{LeadsUnder}
use Rattle.wide_rules.proofs.through.leads_by_either.Goals as goal

pub returns-in-Some-gives_either-clause-none : goal.returns-in-Some-gives_either-clause-none
returns-in-Some-gives_either-clause-none g c = λ gone.
    let Q : SetValue → Type 0 = LeadsUnder c.args.fact.now (computed_names c.args.through.now) in
    let said : c.gives_either.result ≡ Some false = c.in-Some-gives_either.is ∙ ap (λ (b : Bool). Some b) gone in
    let left =
    some_left Q c.loop-target.targets c.next.new.self (set_value c.in-Some.target.set) (SomeSet Q c.args.targets) c.in-Some.ensures.steps
    (λ p. let t = c.leads_by_target.ensures.1 p in cc) c.loop-target.invariant.targets in
    inr (λ q. c.gives_either.ensures.over said (left.1 q))
