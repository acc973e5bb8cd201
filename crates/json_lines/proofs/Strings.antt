-- Each value of a list is a text.
use Rattle.std.proofs.Common.{◌≡◌, ◌&&◌, List, [], ◌∷◌, refl, ap}
use Rattle.std.specs.List.{list_all}
use Rattle.serde_json.specs.View.{view, items_view}
use Rattle.serde_json.specs.declared.value.Value.{Value}
use Rattle.json_lines.specs.Fields.{is_string, are_strings}

pub each_is_string : (vs : List Value) → list_all (λ (v : Value). is_string (view v)) vs ≡ are_strings (items_view vs)
each_is_string [] = refl
each_is_string (v ∷ vs) = ap (λ b. is_string (view v) && b) (each_is_string vs)
