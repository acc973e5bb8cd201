use Rattle.std.proofs.Common.{◌≡◌, ℕ, List, Some, ◌∙◌, sym, ap, arith, length, map}
use Rattle.std.specs.Prelude.{slice_get}
use Rattle.std.proofs.lemmas.List.{length-map}
use Rattle.std.proofs.lemmas.Option.{get_or_from_slice_get}
use Rattle.version_chains.specs.Commits.{Commit}
use Rattle.token_order.specs.Order.{CommitLine}
use Rattle.runs.proofs.LineLemmas.{line_there}
use Rattle.runs.proofs.standing.line_at.Goals as goal

abbrev placed : ℕ → ℕ → CommitLine
placed line at = record { line = line; at = at }

pub returns-then-times-k : goal.returns-then-times-k
returns-then-times-k c =
    let log = c.args.log.now in
    let k = c.loop-k.k in
    let same : c.commits-times.result.now ≡ map (λ (x : Commit). x.at) log.commits =
    c.commits-times.ensures.times ∙ ap (λ (cs : List Commit). map (λ (x : Commit). x.at) cs) c.chains.ensures in
    let long = ap length same in
    let counted = length-map log.commits (λ (x : Commit). x.at) in
    let turn = c.loop-k-test.true in
    let there = line_there log.commit_lines log.commits c.stand_in_order.ensures.commits.counted k (omega (arith, turn, long, counted)) in
    let time : there.0.at ≡ c.args.at =
    sym (get_or_from_slice_get c.commits-times.result.now k there.0.at 0
    (ap (λ (ts : List ℕ). slice_get ts k) same ∙ there.1.time)) ∙ c.if-times-k.true in
    let lines : Some there.0.line ≡ Some c.commit_line.result = sym there.1.line ∙ c.commit_line.ensures.line in
    let line : there.0.line ≡ c.commit_line.result = cc in (
      k,
      there.1.there
          ∙ ap (λ (x : CommitLine). Some x)
          (ap (λ (n : ℕ). placed n there.0.at) line ∙ ap (λ (n : ℕ). placed c.commit_line.result n) time),
    )
