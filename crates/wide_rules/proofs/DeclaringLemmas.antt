-- Which namespaces declare a relation that is read.
use Rattle.std.proofs.Common.{◌≡◌, ◌<◌, ◌+◌, ◌^◌, ℕ, suc, inl, inr, arith, List, None, Some, Option, option_map, ap, sym, subst, true, refl, eq-eqb}
use Rattle.std.proofs.lemmas.Bool.{cases_eq}
use Rattle.std.proofs.lemmas.List.Folds.{list_any_at}
use Rattle.std.specs.List.{list_any}
use Rattle.std.specs.Prelude.{Contains, slice_get, length, nat_eq}
use Rattle.namespaces.specs.Declaration.{Declaration, Relation}
use Rattle.namespaces.specs.Declaring.{declares}
use Rattle.namespaces.specs.InForce.{names_in_force}
use Rattle.namespaces.specs.Lookup.{as_rule, namespace_names, namespace_numbered, place_of, relation_at, rule_at}
use Rattle.namespaces.specs.Numbers.{Has}
use Rattle.namespaces.specs.WellFormed.{IsWellFormed}
use Rattle.namespaces.specs.declared.number_set.Numbers.{Numbers}
use Rattle.namespaces.proofs.Declared.{in_force_placed, stays_declared}
use Rattle.judgement.specs.Decided.{dec_undeclared}
use Rattle.wide_rules.specs.Declaring.{AreDeclaring, DeclaresNone}
use Rattle.judgement.proofs.IndexLemmas.{numbered}
use Rattle.judgement.proofs.PassLemmas.{each_element}

-- what is declared at some time is what the last declaration has
pub declared_ever : (ds : List Declaration) (n at : ℕ) (namespace relation : List ℕ) → IsWellFormed ds
    → namespace_numbered (suc n) ds ≡ Some namespace → ¬ (rule_at ds at namespace relation ≡ None) → declares (suc n) relation ds ≡ true
declared_ever ds n at namespace relation well numbered_so declared = by (relation_at ds at namespace relation) refl
  where
    by : (o : Option Relation) → relation_at ds at namespace relation ≡ o → declares (suc n) relation ds ≡ true
    by None none = absurd (declared (ap (option_map as_rule) none))
    by (Some x) found =
        let last = stays_declared ds namespace relation x well (in_force_placed ds at namespace relation x found) in
        rw (numbered_so, last.1) refl

-- one number more, which is there where it is among them
pub next_number : (numbers more : List ℕ) (all : Numbers) (before : ℕ) → ((n : ℕ) → n < before → Has all (suc n) → Contains numbers (suc n))
    → ((n : ℕ) → Contains numbers n → Contains more n) → (Has all (before + 1) → Contains more (before + 1))
    → (n : ℕ) → n < before + 1 → Has all (suc n) → Contains more (suc n)
next_number numbers more all before were kept new n less has = elim (cases_eq n before) [
  | inl same ↦ (let last : before + 1 ≡ suc n = omega (arith, same) in subst (Contains more) last (new (subst (Has all) (sym last) has)))
  | inr other ↦ kept (suc n) (were n (omega (arith, less, other)) has)
]

-- asked for each relation that is read
pub none_by_names : (ds : List Declaration) (at : ℕ) (names : List (List ℕ)) (namespace : List ℕ)
    → ((k : ℕ) (relation : List ℕ) → k < length names → slice_get names k ≡ Some relation → rule_at ds at namespace relation ≡ None)
    → DeclaresNone (rule_at ds at) names namespace
none_by_names ds at names namespace each relation named = each_element (λ r. rule_at ds at namespace r ≡ None) names each relation named

-- asked for each that is declared
pub none_by_declared : (ds : List Declaration) (at : ℕ) (names : List (List ℕ)) (namespace : List ℕ)
    → ((relation : List ℕ) → ¬ (rule_at ds at namespace relation ≡ None) → Contains (names_in_force at namespace ds) relation)
    → ((k : ℕ) (relation : List ℕ) → k < length (names_in_force at namespace ds) → slice_get (names_in_force at namespace ds) k ≡ Some relation
    → ¬ Contains names relation)
    → DeclaresNone (rule_at ds at) names namespace
none_by_declared ds at names namespace whole each relation named = by (dec_undeclared (rule_at ds at namespace relation))
  where
    by : Dec (rule_at ds at namespace relation ≡ None) → rule_at ds at namespace relation ≡ None
    by (yes none) = none
    by (no declared) = absurd (each_element (λ r. ¬ Contains names r) (names_in_force at namespace ds) each relation (whole relation declared) named)

-- a namespace whose number is not among them
pub none_apart : (ds : List Declaration) (names : List (List ℕ)) (numbers : List ℕ) (namespace : List ℕ) (at : ℕ) → at < 2 ^ 64
    → AreDeclaring ds names numbers → ((n : ℕ) → place_of namespace (namespace_names ds) ≡ Some n → ¬ Contains numbers n)
    → DeclaresNone (rule_at ds at) names namespace
none_apart ds names numbers namespace at small are apart relation named = by (dec_undeclared (rule_at ds at namespace relation))
  where
    by : Dec (rule_at ds at namespace relation ≡ None) → rule_at ds at namespace relation ≡ None
    by (yes none) = none
    by (no declared) =
        let n = numbered ds at namespace relation declared are.few in
        absurd (apart (suc n.0) n.2 (are.all n.0 at namespace relation n.1 small n.3 named declared))

-- a number that stands there is found
pub number_found : (numbers : List ℕ) (n : ℕ) → Contains numbers n → list_any (λ y. nat_eq y n) numbers ≡ true
number_found numbers n there =
    list_any_at (λ y. nat_eq y n) numbers there.0 n there.1 (subst (λ y. nat_eq y n ≡ true) (sym there.2) (eq-eqb n n refl))
