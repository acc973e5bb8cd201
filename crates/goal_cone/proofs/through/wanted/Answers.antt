use Rattle.std.proofs.Common.{rules, ◌≡◌, ◌+◌, false, sym, subst}
use Rattle.tuple_text.specs.Refs.{set_value}
use Rattle.rewrites.specs.Parts.{computed_names}
use Rattle.goal_cone.specs.Targets.{AreWanted}
use Rattle.goal_cone.proofs.TargetLemmas.{next_wanted}
use Rattle.goal_cone.proofs.through.wanted.Goals.{then-branch, else-branch}
use Rattle.goal_cone.proofs.through.wanted.Goals as goal

pub loop-before-preserved : goal.loop-before-preserved
loop-before-preserved c = λ declaring.
    let s = c.args.snapshot.now in
    let tupleset = set_value c.args.tupleset.set in
    let names = computed_names c.args.through.now in
    let n = c.loop-before.before in
    let before = c.loop-before.invariant declaring in
    elim c.if-branch.branch [
      | then-branch w ↦
          subst (AreWanted s tupleset names (n + 1)) (sym w.wanted-is)
          (next_wanted s tupleset names n c.loop-before.wanted w.with-wanted.result before w.with-wanted.ensures.kept (λ g k is read matters. w.with-wanted.ensures.has))
      | else-branch w ↦
          let unwanted : c.in_ok-is_wanted.field-0 ≡ false = search rules in
          subst (AreWanted s tupleset names (n + 1)) (sym w.wanted-is)
          (next_wanted s tupleset names n c.loop-before.wanted c.loop-before.wanted before (λ k has. has)
          (λ g k is read matters. absurd (c.in_ok-is_wanted.ensures declaring unwanted g k is read matters)))
    ]
