use Rattle.std.proofs.Common.{◌≡◌, ◌+◌, ℕ, List, Some, ◌∙◌, sym, ap, arith, drop, length, map}
use Rattle.std.specs.Prelude.{nat_lt, slice_get}
use Rattle.std.proofs.Math.ListN.{drop_of_length-le}
use Rattle.std.proofs.lemmas.List.{length-map}
use Rattle.std.proofs.lemmas.Option.{get_or_from_slice_get}
use Rattle.version_chains.specs.Commits.{Commit}
use Rattle.token_order.specs.Order.{CommitLine, commit_lines_of}
use Rattle.runs.specs.Alike.{commits_above}
use Rattle.runs.proofs.LineLemmas.{line_there, lines_long}
use Rattle.runs.proofs.WalkLemmas.{alike_at}
use Rattle.runs.proofs.alike.are_lines_alike.Goals as goal

abbrev placed : ℕ → ℕ → CommitLine
placed line at = record { line = line; at = at }

pub loop-k-preserved : goal.loop-k-preserved
loop-k-preserved c rest =
    let log = c.args.log.now in
    let other = c.args.other.now in
    let i = c.first_above-i.result in
    let j = c.first_above-j.result in
    let k = c.loop-k.k in
    let own : c.commits-times.result.now ≡ map (λ (x : Commit). x.at) log.commits =
    c.commits-times.ensures.times ∙ ap (λ (cs : List Commit). map (λ (x : Commit). x.at) cs) c.chains.ensures in
    let others : c.commits-others.result.now ≡ map (λ (x : Commit). x.at) other.commits =
    c.commits-others.ensures.times ∙ ap (λ (cs : List Commit). map (λ (x : Commit). x.at) cs) c.chains-2.ensures in
    let long = ap length own in
    let other_long = ap length others in
    let counted = length-map log.commits (λ (x : Commit). x.at) in
    let other_counted = length-map other.commits (λ (x : Commit). x.at) in
    let same_long = c.if-times-i.false in
    let turn = c.loop-k-test.true in
    let there = line_there log.commit_lines log.commits c.stand_in_order.ensures.commits.counted (i + k)
    (omega (arith, turn, long, counted)) in
    let other_there = line_there other.commit_lines other.commits c.stand_in_order-2.ensures.commits.counted (j + k)
    (omega (arith, turn, same_long, other_long, other_counted)) in
    let time = get_or_from_slice_get c.commits-times.result.now (i + k) there.0.at 0
    (ap (λ (ts : List ℕ). slice_get ts (i + k)) own ∙ there.1.time) in
    let other_time = get_or_from_slice_get c.commits-others.result.now (j + k) other_there.0.at 0
    (ap (λ (ts : List ℕ). slice_get ts (j + k)) others ∙ other_there.1.time) in
    let same_time : there.0.at ≡ other_there.0.at = sym time ∙ c.if-times-i-2.false ∙ other_time in
    let line : Some c.commit_line.result ≡ Some there.0.line = sym c.commit_line.ensures.line ∙ there.1.line in
    let other_line : Some c.commit_line-else-times-i-2.result ≡ Some other_there.0.line =
    sym c.commit_line-else-times-i-2.ensures.line ∙ other_there.1.line in
    let same_line : there.0.line ≡ other_there.0.line = (let is = c.if-commit_line.false in cc) in
    let next : i + (k + 1) ≡ (i + k) + 1 = omega arith in
    let other_next : j + (k + 1) ≡ (j + k) + 1 = omega arith in
    c.loop-k.invariant
    (alike_at (λ (x : CommitLine). nat_lt c.args.base x.at) (commit_lines_of log) (commit_lines_of other) (i + k) (j + k)
    there.0 other_there.0 there.1.there other_there.1.there
    (ap (λ (n : ℕ). placed n there.0.at) same_line ∙ ap (λ (n : ℕ). placed other_there.0.line n) same_time)
    (ap (λ (n : ℕ). commits_above c.args.base (drop n (commit_lines_of log))) (sym next)
    ∙ rest
    ∙ ap (λ (n : ℕ). commits_above c.args.base (drop n (commit_lines_of other))) other_next))

pub returns : goal.returns
returns c yes' =
    let log = c.args.log.now in
    let other = c.args.other.now in
    let own = ap length c.commits-times.ensures.times in
    let others = ap length c.commits-others.ensures.times in
    let counted = length-map c.chains.result.now.commits (λ (x : Commit). x.at) in
    let other_counted = length-map c.chains-2.result.now.commits (λ (x : Commit). x.at) in
    let same = ap length c.chains.ensures in
    let other_same = ap length c.chains-2.ensures in
    let long = lines_long log.commit_lines log.commits c.stand_in_order.ensures.commits.counted in
    let other_long = lines_long other.commit_lines other.commits c.stand_in_order-2.ensures.commits.counted in
    let same_long = c.if-times-i.false in
    let end = c.loop-k-test.false in
    c.loop-k.invariant
    (ap (commits_above c.args.base) (drop_of_length-le (commit_lines_of log) (omega (arith, end, own, counted, same, long)))
    ∙ sym (ap (commits_above c.args.base) (drop_of_length-le (commit_lines_of other)
    (omega (arith, end, others, other_counted, other_same, other_long, same_long)))))
