use Rattle.wide_rules.proofs.ThroughLemmas.{through_led}
use Rattle.wide_rules.proofs.through.through_gives.Goals as goal

pub returns : goal.returns
returns g c =
    let both = through_led c.args.fact.now c.args.through.now _ c.tupleset_of-set.ensures in
    (λ h. both.0 (c.is_led_by_name.ensures.0 h), λ e. c.is_led_by_name.ensures.1 (both.1 e))
