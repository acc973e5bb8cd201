use Rattle.std.proofs.Common.{ℕ, List, length, get_or, ◌∙◌, ap, arith}
use Rattle.std.specs.Prelude.{map}
use Rattle.std.proofs.lemmas.Bool.{ltb-true}
use Rattle.std.proofs.lemmas.List.{length-map}
use Rattle.version_chains.specs.Commits.{Commit}
use Rattle.monitor.proofs.CommitLemmas.{unreached_by}
use Rattle.monitor.proofs.monitor.settles.Goals as goal

pub returns-else-c-eq0-clause-reaches : goal.returns-else-c-eq0-clause-reaches
returns-else-c-eq0-clause-reaches c = λ test.
    let t = c.args.trace.now in
    let are = c.commits-times.ensures.times ∙ ap (λ (xs : List Commit). map (λ (x : Commit). x.at) xs) c.chains.ensures in
    let long = length-map t.commits (λ (x : Commit). x.at) in
    let count = ap (λ (xs : List ℕ). length xs) are in
    let within = c.requires in
    let some = c.if-c-eq0.false in
    let le = c.if-at-times.true in
    let here = ap (λ (xs : List ℕ). get_or xs c.args.c 0) are in (
      omega (arith, le, here),
      unreached_by t c.args.c c.args.at c.commits-times.result.now are c.commits-times.ensures.rising (omega (arith, within, long, count))
          (omega (arith, some)) (ltb-true _ _ test),
    )
