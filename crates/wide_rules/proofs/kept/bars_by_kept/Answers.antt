use Rattle.std.proofs.Common.{refl}
use Rattle.tuple_text.specs.Refs.{set_value}
use Rattle.rewrites.specs.Parts.{computed_names}
use Rattle.wide_rules.proofs.LiveLemmas.{none_live}
use Rattle.wide_rules.proofs.kept.bars_by_kept.Goals as goal

pub returns-then-is_quiet : goal.returns-then-is_quiet
returns-then-is_quiet g c =
    let a = c.args.fact.now in
    let none = none_live a.snapshot.now (set_value a.set.set) (computed_names c.args.through.now) a.known.now a.user
    (c.is_quiet.ensures c.if-is_quiet.true) in
    (λ h. none, λ e. refl)
