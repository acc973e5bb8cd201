-- How the logic stores a declaration: as its parts, which give it back.
use Rattle.std.specs.Prelude.{ℕ, Bool, List, refl}
use Rattle.std.specs.Coded.{Coded, code_by, coded×, coded_ℕ, coded_bool, coded_list}
use Rattle.rewrites.specs.Expression.{Expression}
use Rattle.rewrites.specs.ExpressionCode.{expression_code}
use Rattle.namespaces.specs.Declaration.{Declaration, Relation}

abbrev pub relation_code : Coded Relation
relation_code =
    code_by (List ℕ × (ℕ × Expression)) (coded× (coded_list coded_ℕ) (coded× coded_ℕ expression_code))
    (λ r. (r.name, (r.stratum, r.expression))) (λ p. record { name = p.0; stratum = p.1.0; expression = p.1.1 }) (λ _. refl)

abbrev pub declaration_code : Coded Declaration
declaration_code =
    code_by (ℕ × (Bool × (List ℕ × List Relation))) (coded× coded_ℕ (coded× coded_bool (coded× (coded_list coded_ℕ) (coded_list relation_code))))
    (λ d. (d.at, (d.is_change, (d.name, d.relations)))) (λ p. record { at = p.0; is_change = p.1.0; name = p.1.1.0; relations = p.1.1.1 }) (λ _. refl)
