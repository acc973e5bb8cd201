-- The codes of what is asked, which models ask for.
use Rattle.std.specs.Prelude.{List, refl}
use Rattle.std.specs.Coded.{Coded, code_by, coded×, coded_list}
use Rattle.rewrites.specs.Expression.{Expression}
use Rattle.rewrites.specs.ExpressionCode.{expression_code}
use Rattle.snapshots.specs.Codes.{timeline_code}
use Rattle.snapshots.specs.Timelines.{TimelineValue}
use Rattle.wide_rules.specs.Asked.{PartsValue, RuleValue}

abbrev pub parts_code : Coded PartsValue
parts_code =
    code_by (TimelineValue × (List Expression × List Expression))
    (coded× timeline_code (coded× (coded_list expression_code) (coded_list expression_code)))
    (λ p. (p.timeline, (p.questions.parts, p.questions.covers)))
    (λ p. record { timeline = p.0; questions = record { parts = p.1.0; covers = p.1.1 } }) (λ _. refl)

abbrev pub rule_code : Coded RuleValue
rule_code =
    code_by (TimelineValue × Expression) (coded× timeline_code expression_code)
    (λ r. (r.timeline, r.expression)) (λ p. record { timeline = p.0; expression = p.1 }) (λ _. refl)
