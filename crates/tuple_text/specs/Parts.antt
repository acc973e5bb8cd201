-- The value of given parts, or the leftmost part that is not in form, at its offset in the written text.
use Rattle.std.specs.Prelude.{Bool, ℕ, ◌+◌, length, Result, Ok, Err, if◌then◌else◌}
use Rattle.tuple_text.specs.Sets.{SetValue}
use Rattle.tuple_text.specs.Tuples.{FactValue, fact_of}
use Rattle.tuple_text.specs.Forms.{is_name, is_object_id, is_user_relation}
use Rattle.tuple_text.specs.declared.fault.TupleFault.{TupleFault}
use Rattle.tuple_text.specs.declared.fault.TupleFault.TheVariants.{Namespace, ObjectId, Relation}

-- whether the relation is in form, who asks says
abbrev pub checked_parts : SetValue → Bool → Result (Unit {0}) TupleFault
checked_parts s is_relation =
    if is_name s.namespace then (if is_object_id s.id then (if is_relation then Ok (tt {0})
    else Err (Relation (length s.namespace + 1 + length s.id + 1)))
    else Err (ObjectId (length s.namespace + 1)))
    else Err (Namespace 0)

abbrev pub checked_userset : SetValue → Result SetValue TupleFault
checked_userset s =
    if is_name s.namespace then (if is_object_id s.id then (if is_user_relation s.relation then Ok s
    else Err (Relation (length s.namespace + 1 + length s.id + 1)))
    else Err (ObjectId (length s.namespace + 1)))
    else Err (Namespace 0)

abbrev pub checked_fact : SetValue → ℕ → Result FactValue TupleFault
checked_fact s user =
    if is_name s.namespace then (if is_object_id s.id then (if is_name s.relation then Ok (fact_of s user)
    else Err (Relation (length s.namespace + 1 + length s.id + 1)))
    else Err (ObjectId (length s.namespace + 1)))
    else Err (Namespace 0)
