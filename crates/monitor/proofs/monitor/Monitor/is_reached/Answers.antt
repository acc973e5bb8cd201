use Rattle.std.proofs.Common.{ℕ, List, length, ◌∙◌, ap, arith}
use Rattle.std.specs.Prelude.{map}
use Rattle.std.proofs.lemmas.Bool.{leb-false}
use Rattle.std.proofs.lemmas.List.{length-map}
use Rattle.version_chains.specs.Commits.{Commit}
use Rattle.monitor.proofs.CommitLemmas.{unreached_by}
use Rattle.monitor.proofs.monitor.Monitor.is_reached.Goals as goal

pub returns-clause-no : goal.returns-clause-no
returns-clause-no c = λ test.
    let t = c.args.trace.now in
    let are = c.commits.ensures.times ∙ ap (λ (xs : List Commit). map (λ (x : Commit). x.at) xs) c.chains.ensures in
    let long = length-map t.commits (λ (x : Commit). x.at) in
    let count = ap (λ (xs : List ℕ). length xs) are in
    let within = c.requires in
    let some = c.if-self-eq0.false in
    unreached_by t c.args.self.now.commits c.args.at c.commits.result.now are c.commits.ensures.rising (omega (arith, within, long, count))
    (omega (arith, some)) (leb-false _ _ test)
