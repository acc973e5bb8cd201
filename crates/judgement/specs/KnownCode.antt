-- The codes of what is known, which models ask for.
use Rattle.std.specs.Prelude.{List, refl}
use Rattle.std.specs.Coded.{Coded, code_by, coded×, coded_list}
use Rattle.tuple_text.specs.Tuples.{FactValue}
use Rattle.snapshots.specs.Codes.{fact_code}
use Rattle.judgement.specs.Judgement.{KnownValue}

abbrev pub facts_code : Coded (List FactValue)
facts_code = coded_list fact_code

abbrev pub known_code : Coded KnownValue
known_code =
    code_by (List FactValue × List FactValue) (coded× facts_code facts_code)
    (λ k. (k.yes, k.no)) (λ p. record { yes = p.0; no = p.1 }) (λ _. refl)
