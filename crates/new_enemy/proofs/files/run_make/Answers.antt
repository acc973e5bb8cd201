use Rattle.std.proofs.Common.{codes, refl}
use Rattle.devices.specs.Devices.{counted_inner}
use Rattle.audit.specs.Made.{MakesRecords, BreaksMaking}
use Rattle.new_enemy.specs.declared.run.Ran.TheVariants as ran
use Rattle.new_enemy.specs.Opened.{file_of}
use Rattle.new_enemy.proofs.FileRuns.{runs_told, told_of_trace}
use Rattle.new_enemy.proofs.files.run_make.Goals as goal

pub returns-clause-runs : goal.returns-clause-runs
returns-clause-runs g c =
    let answer = c.make_records_listing-answer in
    runs_told (λ x. g.F.Read.remaining (counted_inner x)) (file_of c.args.trace)
    (record { path = c.args.trace.path; file = answer.new.trace })
    c.requires _ _
    (λ a old new v. MakesRecords a old new v.items) BreaksMaking answer.result (codes "make")
    (ran.Made (record { path = c.args.trace.path; file = answer.new.trace })) (λ is. absurd (cc (is))) refl (λ P p. p) (λ none. none) refl
    (λ zero.
    let told =
    told_of_trace (λ x. g.F.Read.remaining (counted_inner x)) (file_of c.args.trace)
    (record { path = c.args.trace.path; file = answer.new.trace })
    c.requires _ _
    (λ a old new v. MakesRecords a old new v.items) BreaksMaking answer.result c.status_made.ensures
    answer.ensures.told zero in
    (told.0, (told.1.0.items, told.1.1))) c.status_made.ensures answer.ensures.kinds answer.ensures.told
