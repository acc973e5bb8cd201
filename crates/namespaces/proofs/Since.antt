-- From which timestamp on a relation is declared.
use Rattle.std.proofs.Common.{◌≡◌, ℕ, zero, suc, ◌+◌, ◌<◌, ◌≤◌, nat_lt, nat_le, Bool, true, false, List, [], ◌∷◌, length, get_or, slice_get, filter, position, Option, None, Some, option_map, is_some, refl, sym, ap, ◌∙◌, arith}
use Rattle.std.proofs.lemmas.Bool.Decides.{nat_tests}
use Rattle.std.proofs.lemmas.Option.{slice_get_within, get_or_from_slice_get}
use Rattle.std.specs.Prelude.{◌↔◌}
use Rattle.std.specs.Str.{bytes_eq}
use Rattle.std.specs.Option.{option_or}
use Rattle.std.specs.List.{AllByRecursion}
use Rattle.std.specs.List.Sorted.{IsNonDecreasingBy}
use Rattle.names.proofs.NamesLemmas.{position_cons}
use Rattle.namespaces.specs.Declaration.{Relation, Declaration}
use Rattle.namespaces.specs.Changing.{keeps_names}
use Rattle.namespaces.specs.Index.{revision, revisions_from, revisions_of}
use Rattle.namespaces.specs.Lookup.{as_rule, in_force, relation_at, relation_named, relation_names, relation_of, relations_of, rule_at}
use Rattle.namespaces.specs.WellFormed.{IsWellFormed}
use Rattle.namespaces.specs.declared.index.Revision.{Revision}
use Rattle.namespaces.proofs.Declared.{in_force_placed, one_of, stays_declared}
use Rattle.namespaces.proofs.Times.{IsKeptIn, newest_keeps, revisions_rise_in_time}
use Rattle.rewrites.proofs.Names.{and_true, by_bool, one_name}

-- ---- where nothing is declared at last

pub never : (ds : List Declaration) (q r : List ℕ) → IsWellFormed ds → relation_of q r ds ≡ None → (at : ℕ) → rule_at ds at q r ≡ None
never ds q r well none at = by (relation_at ds at q r) refl
  where
    by : (o : Option Relation) → relation_at ds at q r ≡ o → rule_at ds at q r ≡ None
    by None is = ap (option_map as_rule) is
    by (Some x) is =
        let last = stays_declared ds q r x well (in_force_placed ds at q r x is) in
        let no : None ≡ Some last.0 = sym none ∙ last.1 in cc

-- ---- a relation stands at its place from its first declaration on

module _ (r : List ℕ) where
  place_step : (s : Relation) (ss : List Relation) (i : ℕ) (A : ℕ → Type 0) → bytes_eq r s.name ≡ false → position (bytes_eq r) (relation_names (s ∷ ss)) ≡ Some i
      → ((j : ℕ) → position (bytes_eq r) (relation_names ss) ≡ Some j → A (suc j)) → A i
  place_step s ss i A other place further =
      by (position (bytes_eq r) (relation_names ss)) refl (sym (position_cons (bytes_eq r) s.name (relation_names ss) ∙ rw other refl) ∙ place)
    where
      by : (o : Option ℕ) → position (bytes_eq r) (relation_names ss) ≡ o → option_map suc (position (bytes_eq r) (relation_names ss)) ≡ Some i → A i
      by None is h = let c : option_map suc None ≡ Some i = rw is at h in cc
      by (Some j) is h = let same : suc j ≡ i = let c : option_map suc (Some j) ≡ Some i = rw is at h in cc in rw (← same) (further j is)

  -- a list that is kept and has it reaches so far
  reaches : (es rs : List Relation) (x : Relation) (i : ℕ) → keeps_names es rs ≡ true → relation_named r es ≡ Some x → position (bytes_eq r) (relation_names rs) ≡ Some i → i < length es
  reaches [] rs x i keeps named place = cc
  reaches (e ∷ es) [] x i keeps named place = cc
  reaches (e ∷ es) (s ∷ ss) x i keeps named place =
      let parts = and_true (bytes_eq e.name s.name) (keeps_names es ss) keeps in
      by_bool (bytes_eq r e.name)
      (λ t.
      let here : bytes_eq r s.name ≡ true = rw (← one_name e.name s.name parts.0) t in
      let first : Some 0 ≡ Some i = sym (position_cons (bytes_eq r) s.name (relation_names ss) ∙ rw here refl) ∙ place in
      let is : 0 ≡ i = cc in omega (arith, is))
      (λ f.
      let other : bytes_eq r s.name ≡ false = rw (← one_name e.name s.name parts.0) f in
      place_step s ss i (λ n. n < suc (length es)) other place (λ j h. let less = reaches es ss x j parts.1 (rw f at named) h in omega (arith, less)))

  -- and one that reaches so far has it
  has_it : (es rs : List Relation) (i : ℕ) → keeps_names es rs ≡ true → position (bytes_eq r) (relation_names rs) ≡ Some i → i < length es → is_some (relation_named r es) ≡ true
  has_it [] rs i keeps place less = absurd (omega (arith, less))
  has_it (e ∷ es) [] i keeps place less = cc
  has_it (e ∷ es) (s ∷ ss) i keeps place less =
      let parts = and_true (bytes_eq e.name s.name) (keeps_names es ss) keeps in
      by_bool (bytes_eq r e.name)
      (λ t. rw t refl)
      (λ f.
      let other : bytes_eq r s.name ≡ false = rw (← one_name e.name s.name parts.0) f in
      place_step s ss i (λ n. n < suc (length es) → is_some (relation_named r (e ∷ es)) ≡ true) other place
      (λ j h within. rw f (has_it es ss j parts.1 h (omega (arith, within)))) less)

-- ---- revisions

-- a revision that is in force by a timestamp, and reaches so far
record Reaches (vs : List Revision) (at i : ℕ) : Type 0 where
  place : ℕ
  which : Revision
  there : slice_get vs place ≡ Some which
  before : which.at ≤ at
  far : nat_lt i which.relations ≡ true

later_one : (v : Revision) (vs : List Revision) (at i : ℕ) → Reaches vs at i → Reaches (v ∷ vs) at i
later_one v vs at i w = record { place = suc w.place; which = w.which; there = w.there; before = w.before; far = w.far }

module _ (q r : List ℕ) (rs : List Relation) (i at : ℕ) (place : position (bytes_eq r) (relation_names rs) ≡ Some i) where
  reaching : (ds : List Declaration) (line : ℕ) (x : Relation) → AllByRecursion (λ e. bytes_eq q e.name ≡ true → IsKeptIn rs e) ds
      → relation_at ds at q r ≡ Some x → Reaches (revisions_from line q ds) at i
  reaching [] line x kept found = cc
  reaching (d ∷ ds) line x kept found =
      one_of (relation_at ds at q r) (in_force at q r d) x (Reaches (revisions_from line q (d ∷ ds)) at i) found
      (λ later.
      let w = reaching ds (line + 1) x kept.1 later in
      by_bool (bytes_eq q d.name)
      (λ t. rw t (later_one (revision line d) (revisions_from (line + 1) q ds) at i w))
      (λ f. rw f w))
      (λ here. by_bool (nat_le d.at at)
      (λ u. by_bool (bytes_eq q d.name)
      (λ t.
      let named : relation_named r d.relations ≡ Some x = rw (u, t) at here in
      let less = reaches r d.relations rs x i (kept.0 t).names named place in
      rw t (record { place = 0; which = revision line d; there = refl; before = grind (arith, nat_tests); far = grind (arith, nat_tests) }))
      (λ f. let no : None ≡ Some x = rw (u, f) at here in cc))
      (λ g. let no : None ≡ Some x = rw g at here in cc))

  some_first : (o p : Option Relation) → is_some o ≡ true → is_some (option_or o p) ≡ true
  some_first None p h = cc
  some_first (Some x) p h = refl

  some_second : (o p : Option Relation) → is_some p ≡ true → is_some (option_or o p) ≡ true
  some_second None p h = h
  some_second (Some x) p h = refl

  at_its_place : (line : ℕ) (d : Declaration) (ds : List Declaration) (v : Revision) (n : ℕ) → (bytes_eq q d.name ≡ true → IsKeptIn rs d) → bytes_eq q d.name ≡ true
      → nat_lt i v.relations ≡ true → v.at ≤ at → ((m : ℕ) → slice_get (revisions_from (line + 1) q ds) m ≡ Some v → is_some (relation_at ds at q r) ≡ true)
      → slice_get (revision line d ∷ revisions_from (line + 1) q ds) n ≡ Some v → is_some (relation_at (d ∷ ds) at q r) ≡ true
  at_its_place line d ds v (suc n) kept t far before further there = some_first (relation_at ds at q r) (in_force at q r d) (further n there)
  at_its_place line d ds v zero kept t far before further there =
      let same : revision line d ≡ v = cc in
      let less : nat_lt i (length d.relations) ≡ true = rw (← same) at far in
      let early : d.at ≤ at = rw (← same) at before in
      let u : nat_le d.at at ≡ true = grind (arith, nat_tests) in
      let within : i < length d.relations = grind (arith, nat_tests) in
      some_second (relation_at ds at q r) (in_force at q r d) (rw (u, t) (has_it r d.relations rs i (kept t).names place within))

  reached : (ds : List Declaration) (line k : ℕ) (v : Revision) → AllByRecursion (λ e. bytes_eq q e.name ≡ true → IsKeptIn rs e) ds
      → slice_get (revisions_from line q ds) k ≡ Some v → nat_lt i v.relations ≡ true → v.at ≤ at → is_some (relation_at ds at q r) ≡ true
  reached [] line k v kept there far before = cc
  reached (d ∷ ds) line k v kept there far before = by_bool (bytes_eq q d.name)
      (λ t. at_its_place line d ds v k kept.0 t far before (λ m h. reached ds (line + 1) m v kept.1 h far before) (rw t at there))
      (λ f. some_first (relation_at ds at q r) (in_force at q r d) (reached ds (line + 1) k v kept.1 (rw f at there) far before))

-- ---- the first that passes a test

module _ (p : Revision → Bool) where
  first_no_later : (vs : List Revision) (k : ℕ) (v : Revision) → IsNonDecreasingBy (λ (x : Revision). x.at) vs → slice_get vs k ≡ Some v → p v ≡ true
      → (w : Revision) × (slice_get (filter p vs) 0 ≡ Some w) × (w.at ≤ v.at)
  first_no_later [] k v rise there passes = cc
  first_no_later (x ∷ xs) zero v rise there passes =
      let same : x ≡ v = cc in
      let here : p x ≡ true = rw same passes in
      (x, rw here refl, rw same (omega arith))
  first_no_later (x ∷ xs) (suc k) v rise there passes = by_bool (p x)
      (λ t.
      let within = slice_get_within xs k v there in
      let below = rise 0 (suc k) v (omega arith) (omega (arith, within)) in
      let is : get_or xs k v ≡ v = get_or_from_slice_get xs k v v there in
      (x, rw t refl, rw is at below))
      (λ f.
      let w = first_no_later xs k v (λ i j d h less. rise (suc i) (suc j) d (omega (arith, h)) (omega (arith, less))) there passes in
      (w.0, rw f w.1, w.2))

  stands_there : (vs : List Revision) (w : Revision) → slice_get (filter p vs) 0 ≡ Some w → (k : ℕ) × (slice_get vs k ≡ Some w) × (p w ≡ true)
  stands_there [] w h = cc
  stands_there (x ∷ xs) w h = by_bool (p x)
      (λ t. let same : x ≡ w = (let both : Some x ≡ Some w = rw t at h in cc) in (0, ap Some same, rw (← same) t))
      (λ f. let rest = stands_there xs w (rw f at h) in (suc rest.0, rest.1, rest.2))

-- ---- from the first revision that has it

module _ (ds : List Declaration) (q r : List ℕ) (rs : List Relation) (i : ℕ) (well : IsWellFormed ds) (last : relations_of q ds ≡ Some rs)
    (place : position (bytes_eq r) (relation_names rs) ≡ Some i) where
  kept : AllByRecursion (λ e. bytes_eq q e.name ≡ true → IsKeptIn rs e) ds
  kept = newest_keeps q rs ds well.continued last

  first_by : (at : ℕ) (x : Relation) → relation_at ds at q r ≡ Some x
      → (w : Revision) × (slice_get (filter (λ (v : Revision). nat_lt i v.relations) (revisions_of q ds)) 0 ≡ Some w) × (w.at ≤ at)
  first_by at x found =
      let v = reaching q r rs i at place ds 0 x kept found in
      let w = first_no_later (λ (v : Revision). nat_lt i v.relations) (revisions_of q ds) v.place v.which (revisions_rise_in_time q ds well.continued) v.there v.far in
      let early = v.before in
      let before = w.2 in
      (w.0, w.1, omega (arith, early, before))

  pub since_none : slice_get (filter (λ (v : Revision). nat_lt i v.relations) (revisions_of q ds)) 0 ≡ None → (at : ℕ) → rule_at ds at q r ≡ None
  since_none none at = by (relation_at ds at q r) refl
    where
      by : (o : Option Relation) → relation_at ds at q r ≡ o → rule_at ds at q r ≡ None
      by None is = ap (option_map as_rule) is
      by (Some x) is = let w = first_by at x is in let no : None ≡ Some w.0 = sym none ∙ w.1 in cc

  pub since_some : (w : Revision) → slice_get (filter (λ (v : Revision). nat_lt i v.relations) (revisions_of q ds)) 0 ≡ Some w
      → (at : ℕ) → (rule_at ds at q r ≡ None) ↔ (at < w.at)
  since_some w is at = (λ none. by_bool (nat_lt at w.at) (λ t. grind (arith, nat_tests)) (λ f. absurd (declared none f)), λ less. before less (relation_at ds at q r) refl)
    where
      no_rule : (o : Option Relation) → is_some o ≡ true → option_map as_rule o ≡ None → ⊥
      no_rule None some none = cc
      no_rule (Some x) some none = cc

      declared : rule_at ds at q r ≡ None → nat_lt at w.at ≡ false → ⊥
      declared none f =
          let v = stands_there (λ (v : Revision). nat_lt i v.relations) (revisions_of q ds) w is in
          let early : w.at ≤ at = grind (arith, nat_tests) in
          no_rule (relation_at ds at q r) (reached q r rs i at place ds 0 v.0 w kept v.1 v.2 early) none

      before : at < w.at → (o : Option Relation) → relation_at ds at q r ≡ o → rule_at ds at q r ≡ None
      before less None none = ap (option_map as_rule) none
      before less (Some x) found =
          let v = first_by at x found in
          let same : v.0 ≡ w = (let both : Some v.0 ≡ Some w = sym v.1 ∙ is in cc) in
          let late : w.at ≤ at = rw same at v.2 in
          absurd (omega (arith, less, late))
