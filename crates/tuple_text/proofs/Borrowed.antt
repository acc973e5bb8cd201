-- Lists of borrowed tuples, as lists of tuples.
use Rattle.std.proofs.Common.{◌≡◌, ℕ, ◌<◌, List, length, get_or, ap, sym, ◌∙◌, arith}
use Rattle.std.proofs.lemmas.List.{length-map, get_or-map}
use Rattle.tuple_text.specs.TupleRefs.{tuple_value, tuple_values}
use Rattle.tuple_text.specs.declared.tuple_refs.TupleRef.{TupleRef}

-- the tuple at a place
module _ (ts : List TupleRef) (i : ℕ) (t : TupleRef) (before : i < length ts) (is : t ≡ get_or ts i t) where
  pub tuple_within : i < length (tuple_values ts)
  tuple_within = omega (arith, before, length-map ts tuple_value)

  pub tuple_there : tuple_value t ≡ get_or (tuple_values ts) i (tuple_value t)
  tuple_there = ap tuple_value is ∙ sym (get_or-map tuple_value ts i t (tuple_value t) before)
