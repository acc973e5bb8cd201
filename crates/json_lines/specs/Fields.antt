-- The fields of an object of JSON, by their types. None is a wrong shape. What a field is, goes by the value that a
-- key has, if it has one.
use Rattle.std.specs.Prelude.{ℕ, Bool, true, List, ◌&&◌, Option, Some, None, is_some, option_map, option_and_then, if◌then◌else◌}
use Rattle.serde_json.specs.Data.{Data, null, boolean, number, string, array, object, Items, no_items, item}
use Rattle.serde_json.specs.Find.{get, as_number, as_u64, as_bool, as_str}

abbrev pub number_of : Option Data → Option ℕ
number_of field = option_and_then as_u64 (option_and_then as_number field)

abbrev pub number_at : List ℕ → Data → Option ℕ
number_at name d = number_of (get name d)

abbrev pub flag_of : Option Data → Option Bool
flag_of field = option_and_then as_bool field

abbrev pub flag_at : List ℕ → Data → Option Bool
flag_at name d = flag_of (get name d)

abbrev pub text_of : Option Data → Option (List ℕ)
text_of field = option_and_then as_str field

abbrev pub text_at : List ℕ → Data → Option (List ℕ)
text_at name d = text_of (get name d)

abbrev pub if_there : {A : Type 0} → A → (Data → Option A) → Option Data → Option A
if_there absent f None = Some absent
if_there absent f (Some d) = f d

abbrev pub text_or_null : Data → Option (Option (List ℕ))
text_or_null null = Some None
text_or_null (boolean b) = None
text_or_null (number n) = None
text_or_null (string s) = Some (Some s)
text_or_null (array ds) = None
text_or_null (object ms) = None

unfoldable pub optional_text_of : Option Data → Option (Option (List ℕ))
optional_text_of field = if_there None text_or_null field

abbrev pub optional_text_at : List ℕ → Data → Option (Option (List ℕ))
optional_text_at name d = optional_text_of (get name d)

abbrev pub number_or_null : Data → Option (Option ℕ)
number_or_null null = Some None
number_or_null (boolean b) = None
number_or_null (number n) = option_map (λ k. Some k) (as_u64 n)
number_or_null (string s) = None
number_or_null (array ds) = None
number_or_null (object ms) = None

unfoldable pub optional_number_at : List ℕ → Data → Option (Option ℕ)
optional_number_at name d = if_there None number_or_null (get name d)

abbrev pub is_string : Data → Bool
is_string d = is_some (as_str d)

abbrev pub are_strings : Items → Bool
are_strings no_items = true
are_strings (item d ds) = is_string d && are_strings ds

abbrev pub strings_or_null : Data → Option Items
strings_or_null null = Some no_items
strings_or_null (boolean b) = None
strings_or_null (number n) = None
strings_or_null (string s) = None
strings_or_null (array ds) = if are_strings ds then Some ds else None
strings_or_null (object ms) = None

-- a list of texts
unfoldable pub strings_of : Option Data → Option Items
strings_of field = if_there no_items strings_or_null field

abbrev pub strings_at : List ℕ → Data → Option Items
strings_at name d = strings_of (get name d)
