-- The declarations that the texts of lines make, one behind the other.
use Rattle.std.specs.Prelude.{ℕ, List, [], ◌∷◌, Option, None, Some, option_and_then, codes, map, string_bytes}
use Rattle.std.specs.Result.{result_ok}
use Rattle.serde_json.specs.Data.{Data}
use Rattle.serde_json.specs.Read.{read}
use Rattle.namespaces.specs.Adding.{rules_add}
use Rattle.namespaces.specs.Changing.{rules_change}
use Rattle.namespaces.specs.Declaration.{Declaration}
use Rattle.json_lines.specs.Fields.{optional_number_at}
use Rattle.carry.specs.Values.{ItemValue, SaidValue, declares, commits, records}
use Rattle.runs.specs.declared.declared.DeclaredLine.{DeclaredLine}

-- with a timestamp it changes the rules, and without one they are in force from the start on
abbrev pub rules_from : Option (Option ℕ) → List Declaration → Data → Option (List Declaration)
rules_from None ds d = None
rules_from (Some None) ds d = result_ok (rules_add ds d)
rules_from (Some (Some at)) ds d = result_ok (rules_change ds at d)

abbrev pub rules_said : List Declaration → Data → Option (List Declaration)
rules_said ds d = rules_from (optional_number_at (codes "at") d) ds d

abbrev pub declared_by : List Declaration → List (List ℕ) → Option (List Declaration)
declared_by ds [] = Some ds
declared_by ds (text ∷ texts) =
    option_and_then (λ es. declared_by es texts) (option_and_then (rules_said ds) (read text))

-- the texts of those items that declare namespaces
abbrev pub with_declared : SaidValue → List (List ℕ) → List (List ℕ)
with_declared (declares text) texts = text ∷ texts
with_declared (commits c) texts = texts
with_declared (records e) texts = texts

abbrev pub declared_in : List ItemValue → List (List ℕ)
declared_in [] = []
declared_in (i ∷ is) = with_declared i.said (declared_in is)

abbrev pub texts_of : List DeclaredLine → List (List ℕ)
texts_of ds = map (λ d. string_bytes d.text) ds
