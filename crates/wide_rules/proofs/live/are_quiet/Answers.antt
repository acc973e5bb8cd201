use Rattle.std.proofs.Common.{rules, ◌≡◌, ◌∷◌, sym, subst, refl}
use Rattle.tuple_text.specs.Refs.{set_value}
use Rattle.tuple_text.specs.Sets.{SetValue}
use Rattle.rewrites.specs.Parts.{computed_names}
use Rattle.snapshots.specs.Snapshots.{rules_in}
use Rattle.wide_rules.specs.Declaring.{DeclaresNone}
use Rattle.judgement.specs.Passes.{EachSet}
use Rattle.wide_rules.proofs.live.are_quiet.Goals as goal

pub loop-set-preserved : goal.loop-set-preserved
loop-set-preserved c rest =
    let steps : c.loop-set.set-iterator ≡ set_value c.in-Some.set.set ∷ c.next.new.self = search rules in
    c.loop-set.invariant
    (subst (EachSet (λ (g : SetValue). DeclaresNone (rules_in c.args.snapshot.now) (computed_names c.args.through.now) g.namespace)) (sym steps)
    (c.if-not-is_quiet.ensures refl, rest))
