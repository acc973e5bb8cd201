-- The code of leaves, which their model asks for.
use Rattle.std.specs.Prelude.{List, refl}
use Rattle.std.specs.Coded.{Coded, code_by, coded×, coded_list}
use Rattle.namespaces.specs.DeclarationCode.{declaration_code}
use Rattle.namespaces.specs.Declaration.{Declaration}
use Rattle.rewrites.specs.Expression.{Expression}
use Rattle.rewrites.specs.ExpressionCode.{expression_code}
use Rattle.goal_cone.specs.Leaves.{LeavesValue}

abbrev pub leaves_code : Coded LeavesValue
leaves_code =
    code_by (List Declaration × List (List Expression))
    (coded× (coded_list declaration_code) (coded_list (coded_list expression_code)))
    (λ l. (l.declarations, l.found)) (λ p. record { declarations = p.0; found = p.1 }) (λ _. refl)
