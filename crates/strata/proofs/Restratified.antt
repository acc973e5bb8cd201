-- Rules that differ in strata alone have the same expressions in force.
use Rattle.std.proofs.Common.{◌≡◌, ℕ, nat_le, List, [], ◌∷◌, map, Bool, true, false, Option, None, Some, option_map, if◌then◌else◌, refl, sym, ap, ◌∙◌}
use Rattle.std.specs.Option.{option_or}
use Rattle.std.specs.Str.{bytes_eq}
use Rattle.namespaces.specs.Declaration.{Relation, Declaration}
use Rattle.namespaces.specs.Lookup.{Rule, as_rule, relation_named, declared_in, in_force, relation_at, rule_at}
use Rattle.strata.specs.Strata.{HaveSameExpressions, on_stratum_0, without_strata}

find_mapped : (b : Bool) (x : Relation) (o p : Option Relation) → p ≡ option_map on_stratum_0 o
    → (if b then Some (on_stratum_0 x) else p) ≡ option_map on_stratum_0 (if b then Some x else o)
find_mapped true x o p h = refl
find_mapped false x o p h = h

named_stripped : (r : List ℕ) (rs : List Relation) → relation_named r (map on_stratum_0 rs) ≡ option_map on_stratum_0 (relation_named r rs)
named_stripped r [] = refl
named_stripped r (x ∷ xs) = find_mapped (bytes_eq r x.name) x (relation_named r xs) (relation_named r (map on_stratum_0 xs)) (named_stripped r xs)

where_stripped : (b : Bool) (o p : Option Relation) → p ≡ option_map on_stratum_0 o → (if b then p else None) ≡ option_map on_stratum_0 (if b then o else None)
where_stripped true o p h = h
where_stripped false o p h = refl

in_force_stripped : (at : ℕ) (q r : List ℕ) (d : Declaration) → in_force at q r (without_strata d) ≡ option_map on_stratum_0 (in_force at q r d)
in_force_stripped at q r d =
    where_stripped (nat_le d.at at) (declared_in q r d) (declared_in q r (without_strata d))
    (where_stripped (bytes_eq q d.name) (relation_named r d.relations) (relation_named r (map on_stratum_0 d.relations)) (named_stripped r d.relations))

or_stripped : (o p : Option Relation) → option_or (option_map on_stratum_0 o) (option_map on_stratum_0 p) ≡ option_map on_stratum_0 (option_or o p)
or_stripped None p = refl
or_stripped (Some x) p = refl

relation_stripped : (ds : List Declaration) (at : ℕ) (q r : List ℕ) → relation_at (map without_strata ds) at q r ≡ option_map on_stratum_0 (relation_at ds at q r)
relation_stripped [] at q r = refl
relation_stripped (d ∷ ds) at q r =
    rw (relation_stripped ds at q r, in_force_stripped at q r d) (or_stripped (relation_at ds at q r) (in_force at q r d))

expression_kept : (o : Option Relation) → option_map (λ (x : Rule). x.expression) (option_map as_rule (option_map on_stratum_0 o)) ≡ option_map (λ (x : Rule). x.expression) (option_map as_rule o)
expression_kept None = refl
expression_kept (Some r) = refl

expressions_stripped : (ds : List Declaration) (at : ℕ) → HaveSameExpressions (rule_at (map without_strata ds) at) (rule_at ds at)
expressions_stripped ds at q r = rw (relation_stripped ds at q r) (expression_kept (relation_at ds at q r))

pub same_expressions_in_force : (old new : List Declaration) → map without_strata old ≡ map without_strata new → (at : ℕ) → HaveSameExpressions (rule_at old at) (rule_at new at)
same_expressions_in_force old new same at q r =
    sym (expressions_stripped old at q r)
    ∙ ap (λ ds. option_map (λ (x : Rule). x.expression) (rule_at ds at q r)) same
    ∙ expressions_stripped new at q r
