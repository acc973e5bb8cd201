use Rattle.std.proofs.Common.{codes, refl}
use Rattle.devices.specs.Devices.{counted_inner}
use Rattle.audit.specs.History.{TellsHistory, BreaksHistory}
use Rattle.new_enemy.specs.declared.run.Ran.TheVariants as ran
use Rattle.new_enemy.specs.Opened.{file_of}
use Rattle.new_enemy.proofs.FileRuns.{runs_told, told_of_trace}
use Rattle.new_enemy.proofs.files.run_history.Goals as goal

pub returns-clause-ran : goal.returns-clause-ran
returns-clause-ran g c = (
  refl,
  λ zero.
      let answer = c.history-answer in
      told_of_trace (λ x. g.F.Read.remaining (counted_inner x)) (file_of c.args.trace)
      (record { path = c.args.trace.path; file = answer.new.trace })
      c.requires _ _
      (λ a. TellsHistory a c.args.tuple.now) (λ a. BreaksHistory a c.args.tuple.now) answer.result c.status_told.ensures
      answer.ensures.told zero,
)

pub returns-clause-runs : goal.returns-clause-runs
returns-clause-runs g c =
    let answer = c.history-answer in
    runs_told (λ x. g.F.Read.remaining (counted_inner x)) (file_of c.args.trace)
    (record { path = c.args.trace.path; file = answer.new.trace })
    c.requires _ _
    (λ a. TellsHistory a c.args.tuple.now) (λ a. BreaksHistory a c.args.tuple.now) answer.result (codes "history")
    (ran.Told (record { path = c.args.trace.path; file = answer.new.trace })) (λ is. absurd (cc (is))) refl (λ P p. p) (λ none. none) refl
    (λ zero. (c.args.tuple.now, (returns-clause-ran g c).1 zero)) c.status_told.ensures answer.ensures.kinds
    answer.ensures.told
