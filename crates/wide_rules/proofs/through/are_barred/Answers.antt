use Rattle.std.proofs.Common.{◌≡◌, ◌∙◌, [], length, sym, refl, eqb-true}
use Rattle.std.proofs.lemmas.List.{nil_from_length}
use Rattle.rewrites.specs.Parts.{computed_names}
use Rattle.judgement.specs.AskedFact.{asked_set}
use Rattle.wide_rules.proofs.LiveLemmas.{none_live}
use Rattle.wide_rules.proofs.through.are_barred.Goals as goal

pub returns-then-is_empty : goal.returns-then-is_empty
returns-then-is_empty g c =
    let s = c.args.fact.now.snapshot.now in
    let set = asked_set c.args.fact.now in
    let names = computed_names c.args.through.now in
    let none : c.args.live.now ≡ [] =
    nil_from_length c.args.live.now (eqb-true (length c.args.live.now) 0 (sym c.is_empty.ensures ∙ c.if-is_empty.true)) in
    (λ t. none_live s set names c.args.fact.now.known.now c.args.fact.now.user (rw none at c.requires.live), λ b. refl)
