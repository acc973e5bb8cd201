-- The relations of a namespace that are declared at a timestamp.
use Rattle.std.proofs.Common.{◌≡◌, ℕ, suc, List, [], ◌∷◌, Option, None, Some, option_map, refl, sym, ◌∙◌, ap, map, arith}
use Rattle.std.proofs.lemmas.Option.{slice_get-map}
use Rattle.std.specs.Option.{option_and_then}
use Rattle.std.specs.Prelude.{Contains, slice_get, string_bytes, unwrap_or}
use Rattle.std.specs.Str.{bytes_eq}
use Rattle.namespaces.specs.Declaration.{Relation, Declaration}
use Rattle.namespaces.specs.InForce.{names_in_force}
use Rattle.namespaces.specs.Index.{relations_at}
use Rattle.namespaces.specs.Lookup.{as_rule, relation_named, relation_names, rule_at}
use Rattle.namespaces.specs.Shown.{show_relations}
use Rattle.namespaces.specs.WellFormed.{IsWellFormed}
use Rattle.rewrites.proofs.Names.{by_bool, one_name}
use Rattle.namespaces.proofs.Tables.{Entry}
use Rattle.namespaces.proofs.Times.{relation_at-relations_at}

-- ---- whatever is declared is named

pub named_in : (r : List ℕ) (rs : List Relation) (x : Relation) → relation_named r rs ≡ Some x → Contains (relation_names rs) r
named_in r [] x h = absurd cc
named_in r (y ∷ ys) x h = by_bool (bytes_eq r y.name)
    (λ t. (0, omega arith, sym (one_name r y.name t)))
    (λ n. let rest = named_in r ys x (rw n at h) in (suc rest.0, omega (arith, rest.1), rest.2))

declared_in : (o : Option (List Relation)) (r : List ℕ) → ¬ (option_map as_rule (option_and_then (relation_named r) o) ≡ None)
    → Contains (relation_names (unwrap_or o [])) r
declared_in None r h = absurd (h refl)
declared_in (Some rs) r h = by (relation_named r rs) refl
  where
    by : (p : Option Relation) → relation_named r rs ≡ p → Contains (relation_names rs) r
    by None e = absurd (h (ap (option_map as_rule) e))
    by (Some x) e = named_in r rs x e

pub whole_in_force : (ds : List Declaration) (at : ℕ) (q r : List ℕ) → IsWellFormed ds → ¬ (rule_at ds at q r ≡ None)
    → Contains (names_in_force at q ds) r
whole_in_force ds at q r well h =
    declared_in (relations_at at q ds) r (λ none. h (ap (option_map as_rule) (relation_at-relations_at ds at q r well.continued) ∙ none))

-- ---- the names of a table

names_shown : (es : List Entry) → relation_names (show_relations es) ≡ map (λ e. string_bytes e.0) es
names_shown [] = refl
names_shown (e ∷ es) = ap (λ ns. string_bytes e.0 ∷ ns) (names_shown es)

pub name_shown : (at : ℕ) (q : List ℕ) (ds : List Declaration) (es : List Entry) (k : ℕ) → Some (show_relations es) ≡ relations_at at q ds
    → slice_get (names_in_force at q ds) k ≡ option_map (λ e. string_bytes e.0) (slice_get es k)
name_shown at q ds es k h = rw (← h, names_shown es) (slice_get-map (λ e. string_bytes e.0) es k)
