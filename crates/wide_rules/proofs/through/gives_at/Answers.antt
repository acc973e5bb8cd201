use Rattle.std.proofs.Common.{◌≡◌, ℕ, List, Some, subst, sym}
use Rattle.tuple_text.specs.Refs.{set_value}
use Rattle.rewrites.specs.Parts.{computed_names}
use Rattle.judgement.specs.AskedFact.{GivesFor}
use Rattle.judgement.proofs.PassLemmas.{element_at}
use Rattle.wide_rules.proofs.through.gives_at.Goals as goal

pub returns-in-Some-clause-gives : goal.returns-in-Some-clause-gives
returns-in-Some-clause-gives g c = λ t.
    let name = c.in-Some.name.now in
    (name, element_at (computed_names c.args.through.now) c.args.k name (sym c.in-Some.ensures), c.is_in.ensures.0 t)

pub returns-in-Some-clause-none : goal.returns-in-Some-clause-none
returns-in-Some-clause-none g c = λ n at given.
    let a = c.args.fact.now in
    let here = c.in-Some.ensures in
    let same : n ≡ c.in-Some.name.now = cc in
    c.is_in.ensures.1 (subst (λ (m : List ℕ). GivesFor a (Some m) (set_value c.args.one.set)) same given)
