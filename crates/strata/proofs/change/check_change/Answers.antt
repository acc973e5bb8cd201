use Rattle.std.proofs.Common.{◌∙◌, subst}
use Rattle.serde_json.specs.View.{view}
use Rattle.strata.specs.Changes.{Answers}
use Rattle.strata.proofs.Untimed.{same_at_any_time}
use Rattle.strata.proofs.change.check_change.Goals as goal

pub returns : goal.returns
returns c at ds h =
    subst (Answers c.answer.result)
    (c.check_rules.ensures ∙ same_at_any_time c.args.rules.now (view c.args.value.now) 18446744073709551615 at c.in-Ok.changed ds c.in-Ok.ensures h)
    c.answer.ensures
