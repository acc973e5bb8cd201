-- Three texts that stand one behind the other in one.
use Rattle.std.specs.Prelude.{ℕ, List, take, drop}
use Rattle.std.specs.Str.{IsCharBoundary}
use Rattle.tuple_text.specs.Sets.{SetValue}

-- the parts of a userset, where the namespace has n bytes and the object id m
abbrev pub split_set : List ℕ → ℕ → ℕ → SetValue
split_set text n m = record { namespace = take n text; id = take m (drop n text); relation = drop m (drop n text) }

-- each part is a text
abbrev pub IsSplit : List ℕ → ℕ → ℕ → Type 0
IsSplit text n m = IsCharBoundary text n × IsCharBoundary (drop n text) m
