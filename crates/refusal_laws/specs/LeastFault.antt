-- Why a namespace is refused, in the words of a user.
use Rattle.std.specs.Prelude.{◌&&◌, not, Bool, false, List, [], ◌∷◌, filter, slice_get, Option, None, Some, Result, Ok, Err}
use Rattle.std.specs.List.{list_all, list_any}
use Rattle.tuple_text.specs.Forms.{is_name}
use Rattle.namespaces.specs.Adding.{is_well_named, is_declared, has_repeats, reads_declared, is_too_deep, is_over_limits, is_full}
use Rattle.namespaces.specs.Changing.{keeps_names, keeps_strata, is_full_for}
use Rattle.namespaces.specs.Declaration.{Relation, Namespace, Declaration}
use Rattle.namespaces.specs.Lookup.{relations_of, relation_names}
use Rattle.namespaces.specs.declared.fault.RulesFault.{RulesFault}
use Rattle.namespaces.specs.declared.fault.RulesFault.TheVariants.{Name, RepeatedNamespace, RepeatedRelation, UndeclaredRelation, TooDeep, TooMany, RelationsChanged, StratumChanged}

-- the faults of a namespace that is declared for the first time, by their numbers
abbrev pub of_addition : List RulesFault
of_addition = Name ∷ RepeatedNamespace ∷ RepeatedRelation ∷ UndeclaredRelation ∷ TooDeep ∷ TooMany ∷ []

-- those of one whose rules change
abbrev pub of_change : List RulesFault
of_change =
    Name ∷ RepeatedRelation ∷ UndeclaredRelation ∷ TooDeep ∷ TooMany ∷ RelationsChanged ∷ StratumChanged ∷ []

-- The fault applies to a namespace that is to be declared, whether or not others do. There is room, or not.
abbrev pub applies : (repeated full : Bool) → Option (List Relation) → Namespace → RulesFault → Bool
applies repeated full old n Name = not (is_name n.name && list_all is_well_named n.relations)
applies repeated full old n RepeatedNamespace = repeated
applies repeated full old n RepeatedRelation = has_repeats (relation_names n.relations)
applies repeated full old n UndeclaredRelation = not (list_all (reads_declared n.relations) n.relations)
applies repeated full old n TooDeep = list_any is_too_deep n.relations
applies repeated full old n TooMany = is_over_limits full n.relations
applies repeated full None n RelationsChanged = false
applies repeated full (Some rs) n RelationsChanged = not (keeps_names rs n.relations)
applies repeated full None n StratumChanged = false
applies repeated full (Some rs) n StratumChanged = not (keeps_strata rs n.relations)
applies repeated full old n _ = false

abbrev pub applies_to_addition : List Declaration → Namespace → RulesFault → Bool
applies_to_addition ds n = applies (is_declared n.name ds) (is_full ds) None n

abbrev pub applies_to_change : List Declaration → Namespace → RulesFault → Bool
applies_to_change ds n = applies false (is_full_for n.name ds) (relations_of n.name ds) n

-- the first of some faults that applies
abbrev pub first_of : (RulesFault → Bool) → List RulesFault → Option RulesFault
first_of test faults = slice_get (filter test faults) 0

-- the declarations, unless there is a fault
abbrev pub unless : Option RulesFault → List Declaration → Result (List Declaration) RulesFault
unless None ds = Ok ds
unless (Some f) ds = Err f
