-- Names, with what is kept under each.
use Rattle.std.specs.Prelude.{◌≡◌, ℕ, zero, suc, Bool, List, [], ◌∷◌, position, slice_get, Option, Some, String, string_bytes}
use Rattle.std.specs.BTreeMap.{BTreeMap, get_by_text}
use Rattle.std.specs.Map.{lookup}
use Rattle.std.specs.Str.{bytes_eq}
use Rattle.std.specs.declared.alloc.Global.{Global}

pub record NamesValue (V : Type 0) : Type 0 where
  pub entries : List (String Global × V)

-- whether it is this name
abbrev pub is_named : List ℕ → String Global → Bool
is_named name k = bytes_eq name (string_bytes k)

module _ {V : Type 0} where
  -- where a name stands, from 0
  abbrev pub place_of : List ℕ → List (String Global × V) → Option ℕ
  place_of name es = position (λ e. is_named name e.0) es

  -- what is kept under it
  abbrev pub value_of : List ℕ → List (String Global × V) → Option V
  value_of name es = lookup (is_named name) es

  -- with another value at a place
  abbrev pub with_value : ℕ → V → List (String Global × V) → List (String Global × V)
  with_value i w [] = []
  with_value zero w (e ∷ es) = (e.0, w) ∷ es
  with_value (suc i) w (e ∷ es) = e ∷ with_value i w es

  -- each name is led to where it stands
  abbrev pub ArePlaces : BTreeMap (String Global) ℕ → List (String Global × V) → Type 0
  ArePlaces places es = (name : List ℕ) → get_by_text places name ≡ place_of name es

  -- each name stands once
  abbrev pub StandOnce : List (String Global × V) → Type 0
  StandOnce es = (i : ℕ) (e : String Global × V) → slice_get es i ≡ Some e → place_of (string_bytes e.0) es ≡ Some i
