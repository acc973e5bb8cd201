-- What a borrowed tuple stands for.
use Rattle.std.specs.Prelude.{List, map}
use Rattle.tuple_text.specs.Refs.{set_value, user_value}
use Rattle.tuple_text.specs.Tuples.{TupleValue, tuple_of}
use Rattle.tuple_text.specs.declared.tuple_refs.TupleRef.{TupleRef}

abbrev pub tuple_value : TupleRef → TupleValue
tuple_value t = tuple_of (set_value t.set) (user_value t.user)

-- and what a list of them does
abbrev pub tuple_values : List TupleRef → List TupleValue
tuple_values ts = map tuple_value ts
