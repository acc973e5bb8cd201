use Rattle.std.proofs.Common.{rules, ℕ, List, subst}
use Rattle.devices.specs.Devices.{moved_by}
use Rattle.new_enemy.specs.Outcomes.{HasSucceeded, HasFoundDirty}
use Rattle.new_enemy.specs.Run.{IsCleanRun, IsDirtyRun}
use Rattle.new_enemy.proofs.RunLemmas.{dirty_joined, of_joined}
use Rattle.new_enemy.proofs.run.run_on.Goals as goal

pub returns-clause-clean : goal.returns-clause-clean
returns-clause-clean g c = λ zero.
    let run = c.run_words-status in
    subst
    (λ (old : List ℕ). HasSucceeded (IsCleanRun run.new.input run.new.out) old (moved_by run.new.out)
    run.result.read) c.new-out.ensures.moved
    (of_joined (moved_by c.new-out.result) (moved_by run.new.out) run.result.read (λ is h. search rules)
    (run.ensures.says.clean zero))

pub returns-clause-dirty : goal.returns-clause-dirty
returns-clause-dirty g c = λ one.
    let run = c.run_words-status in
    subst
    (λ (old : List ℕ). HasFoundDirty (IsDirtyRun run.new.input run.new.out) old (moved_by run.new.out)
    run.result.read) c.new-out.ensures.moved
    (dirty_joined (moved_by c.new-out.result) (moved_by run.new.out) run.result.read (λ is h. search rules)
    (run.ensures.says.dirty one))
