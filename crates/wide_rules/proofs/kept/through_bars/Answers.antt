use Rattle.wide_rules.proofs.ThroughLemmas.{through_barred}
use Rattle.wide_rules.proofs.kept.through_bars.Goals as goal

pub returns-clause-bars : goal.returns-clause-bars
returns-clause-bars g c =
    let both = through_barred c.args.fact.now c.args.through.now _ c.tupleset_of-set.ensures in
    (λ h. both.0 (c.bars-is_barred.ensures.0 h), λ e. c.bars-is_barred.ensures.1 (both.1 e))

pub returns-in-Some-bars_by_kept-clause-bars : goal.returns-in-Some-bars_by_kept-clause-bars
returns-in-Some-bars_by_kept-clause-bars g c =
    let both = through_barred c.args.fact.now c.args.through.now _ c.tupleset_of-set.ensures in
    (λ h. both.0 (c.in-Some-bars_by_kept.ensures.0 h), λ e. c.in-Some-bars_by_kept.ensures.1 (both.1 e))
