use Rattle.std.proofs.Common.{◌≡◌, [], ◌+◌, ◌++◌, ◌∷◌, subst, sym, rules}
use Rattle.version_chains.specs.Commits.{changelog}
use Rattle.userset_index.specs.Building.{AreSetMarks}
use Rattle.userset_index.proofs.BuildLemmas.{set_mark_by, set_marks_next, set_marks_none}
use Rattle.userset_index.proofs.build.set_marks.Goals as goal

pub loop-index-init : goal.loop-index-init
loop-index-init c =
    let none : c.in_ok-marks.marks.items ≡ [] = search rules in
    subst (AreSetMarks (changelog c.args.chains.now.commits) 0) (sym none) (set_marks_none (changelog c.args.chains.now.commits))

pub loop-index-preserved : goal.loop-index-preserved
loop-index-preserved c =
    let touches = changelog c.args.chains.now.commits in
    let n = c.loop-index.index in
    let marks = c.loop-index.marks.items in
    let mark = c.unwrap_or.result in
    let pushed : c.push.new.self.items ≡ marks ++ mark ∷ [] = search rules in
    subst (AreSetMarks touches (n + 1)) (sym pushed)
    (set_marks_next touches n marks mark c.loop-index.invariant
    (set_mark_by touches n c.mark_at-mark.result mark c.unwrap_or.ensures c.mark_at-mark.ensures))
