-- What an index of usersets finds at a snapshot.
use Rattle.std.proofs.Common.{◌≡◌, ℕ, zero, suc, ◌+◌, ◌-◌, ◌<◌, ◌≤◌, ◌^◌, Bool, true, false, List, ◌∷◌, [], length, refl, sym, ◌∙◌, ap, subst, Option, None, Some, arith, leb, ne_eqb}
use Rattle.std.specs.Prelude.{slice_get, option_map, position, is_some, if◌then◌else◌}
use Rattle.std.specs.List.{list_any}
use Rattle.std.specs.Option.{option_or}
use Rattle.std.specs.Str.{bytes_eq}
use Rattle.std.proofs.lemmas.Option.{slice_get_within}
use Rattle.tuple_text.specs.Sets.{SetValue}
use Rattle.tuple_text.specs.Tuples.{TupleValue, tuple_of}
use Rattle.tuple_text.specs.declared.users.User.TheVariants.{Set}
use Rattle.namespaces.specs.Declaration.{Declaration, Relation}
use Rattle.namespaces.specs.Lookup.{as_rule, in_force, item_at, namespace_names, namespace_numbered, place_of, relation_at, relation_named, relations_of, rule_at}
use Rattle.namespaces.proofs.Growth.{is_declared-names}
use Rattle.rewrites.proofs.Names.{one_name}
use Rattle.strata.proofs.Newest.{position_item, position_none}
use Rattle.strata.specs.Meaning.{IsStored}
use Rattle.version_chains.specs.Commits.{Touch, changelog}
use Rattle.version_chains.proofs.StoreLemmas.{store_at-iff}
use Rattle.marks.specs.Marks.{pair_mark, set_mark}
use Rattle.userset_index.specs.Index.{IndexValue, IsFoundThrough, IsLastTouch, IsWhole, is_crowded}
use Rattle.userset_index.proofs.CallerLemmas.{stored_by_touch}
use Rattle.snapshots.specs.Snapshots.{tuples_in}
use Rattle.snapshots.specs.declared.snapshot.Snapshot.{Snapshot}

-- ---- a declared relation has a namespace with a number

or_none : {X : Type 0} (a b : Option X) → option_or a b ≡ None → (a ≡ None) × (b ≡ None)
or_none None b h = (refl, h)
or_none (Some x) b h = absurd cc

undeclared_there : (ds : List Declaration) (at : ℕ) (q r : List ℕ) → relations_of q ds ≡ None → relation_at ds at q r ≡ None
undeclared_there [] at q r none = refl
undeclared_there (d ∷ ds) at q r none =
    let both = or_none (relations_of q ds) (if bytes_eq q d.name then Some d.relations else None) none in
    let rest = undeclared_there ds at q r both.0 in
    let first : in_force at q r d ≡ None = by_tests (leb d.at at) (bytes_eq q d.name) both.1 in
    rw (rest, first) refl
  where
    by_tests : (s t : Bool) → (if t then Some d.relations else None) ≡ None → (if s then (if t then relation_named r d.relations else None) else None) ≡ None
    by_tests s true h = absurd cc
    by_tests true false h = refl
    by_tests false false h = refl

none_passes : {X : Type 0} (p : X → Bool) (xs : List X) → ((k : ℕ) (x : X) → slice_get xs k ≡ Some x → p x ≡ false) → list_any p xs ≡ false
none_passes p [] none = refl
none_passes p (x ∷ xs) none = rw (none zero x refl, none_passes p xs (λ k y e. none (suc k) y e)) refl

pub item_next : (xs : List (List ℕ)) (i : ℕ) → item_at (suc i) xs ≡ slice_get xs i
item_next xs i =
    ap (λ (b : Bool). if b then None else slice_get xs (suc i - 1)) (ne_eqb (suc i) 0 (λ e. omega (arith, e)))
    ∙ ap (slice_get xs) (let e : suc i - 1 ≡ i = omega arith in e)

-- the number of a namespace, and its name
pub numbered : (ds : List Declaration) (at : ℕ) (q r : List ℕ) → ¬ (rule_at ds at q r ≡ None) → length (namespace_names ds) ≤ 256
    → (k : ℕ) × (k < 256) × (place_of q (namespace_names ds) ≡ Some (suc k)) × (namespace_numbered (suc k) ds ≡ Some q)
numbered ds at q r declared few = by_position (position (bytes_eq q) (namespace_names ds)) refl
  where
    no_relations : (o : Option (List Relation)) → relations_of q ds ≡ o → is_some o ≡ false → ⊥
    no_relations None e h = declared (ap (option_map as_rule) (undeclared_there ds at q r e))
    no_relations (Some rs) e h = cc

    by_position : (o : Option ℕ) → position (bytes_eq q) (namespace_names ds) ≡ o
        → (k : ℕ) × (k < 256) × (place_of q (namespace_names ds) ≡ Some (suc k)) × (namespace_numbered (suc k) ds ≡ Some q)
    by_position None e =
        absurd (no_relations (relations_of q ds) refl (sym (is_declared-names q ds) ∙ none_passes (bytes_eq q) (namespace_names ds) (position_none (bytes_eq q) (namespace_names ds) e)))
    by_position (Some i) e =
        let w = position_item (bytes_eq q) (namespace_names ds) i e in
        let within = slice_get_within (namespace_names ds) i w.0 w.1 in
        let next : i + 1 ≡ suc i = omega arith in
        (i, omega (arith, within, few), ap (option_map (λ j. j + 1)) e ∙ ap (λ (n : ℕ). Some n) next, item_next (namespace_names ds) i ∙ w.1 ∙ ap (λ (x : List ℕ). Some x) (sym (one_name q w.0 w.2)))

-- ---- what is stored is found

module _ (s : Snapshot) (small : s.at < 2 ^ 64) (v : IndexValue) (is : IsWhole s.timeline.declarations s.timeline.commits v) (set : SetValue) (crowded : is_crowded v.crowds (set_mark set) ≡ true) where
  -- the touch of a stored userset
  pub of_stored : (g : SetValue) → IsStored (tuples_in s) set (Set g) → (i : ℕ) × (x : Touch) × IsLastTouch (changelog s.timeline.commits) s.at i x × (x.tuple ≡ tuple_of set (Set g))
  of_stored g stored = stored_by_touch s.timeline.commits s.at (tuple_of set (Set g)) ((store_at-iff s.timeline.commits s.at (tuple_of set (Set g))).0 stored)

  pub crowded_there : (x : Touch) (g : SetValue) → x.tuple ≡ tuple_of set (Set g) → is_crowded v.crowds (set_mark x.tuple.set) ≡ true
  crowded_there x g same = ap (λ (t : TupleValue). is_crowded v.crowds (set_mark t.set)) same ∙ crowded

  -- one of its object is found by the number of its namespace
  pub through_there : (g : SetValue) (n : ℕ) → place_of g.namespace (namespace_names s.timeline.declarations) ≡ Some n → IsStored (tuples_in s) set (Set g)
      → IsFoundThrough (changelog s.timeline.commits) v.through (pair_mark (set_mark set) n) s.at set g
  through_there g n place stored =
      let w = of_stored g stored in
      subst (λ (x : SetValue). IsFoundThrough (changelog s.timeline.commits) v.through (pair_mark (set_mark x) n) s.at x g) (ap (λ (t : TupleValue). t.set) w.3)
      (is.through w.0 s.at n w.1 g w.2 (ap (λ (t : TupleValue). t.user) w.3) (crowded_there w.1 g w.3) small place)
