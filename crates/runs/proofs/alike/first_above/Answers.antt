use Rattle.std.proofs.Common.{◌≡◌, ℕ, List, ◌∙◌, sym, ap, arith, length, map}
use Rattle.std.proofs.lemmas.List.{length-map}
use Rattle.std.specs.Prelude.{nat_lt, slice_get}
use Rattle.std.proofs.lemmas.Bool.{le-ltb}
use Rattle.std.proofs.lemmas.Option.{get_or_from_slice_get}
use Rattle.version_chains.specs.Commits.{Commit}
use Rattle.token_order.specs.Order.{CommitLine, commit_lines_of}
use Rattle.runs.proofs.LineLemmas.{line_there}
use Rattle.runs.proofs.WalkLemmas.{passed_at}
use Rattle.runs.proofs.alike.first_above.Goals as goal

pub loop-first-preserved : goal.loop-first-preserved
loop-first-preserved c =
    let log = c.args.log.now in
    let placed = c.stand_in_order.ensures.commits in
    let first = c.loop-first.first in
    let same : c.commits-times.result.now ≡ map (λ (x : Commit). x.at) log.commits =
    c.commits-times.ensures.times ∙ ap (λ (cs : List Commit). map (λ (x : Commit). x.at) cs) c.chains.ensures in
    let long = ap length same in
    let counted = length-map log.commits (λ (x : Commit). x.at) in
    let within = c.loop-first-test.true in
    let there = line_there log.commit_lines log.commits placed.counted first (omega (arith, within, long, counted)) in
    let time = get_or_from_slice_get c.commits-times.result.now first there.0.at 0
    (ap (λ (ts : List ℕ). slice_get ts first) same ∙ there.1.time) in
    let le = c.if-times-first.true in (
      omega (arith, within, long, counted),
      sym (passed_at (λ (x : CommitLine). nat_lt c.args.base x.at) (commit_lines_of log) first there.0 there.1.there
          (le-ltb c.args.base there.0.at (omega (arith, time, le))))
          ∙ c.loop-first.invariant.1,
    )
