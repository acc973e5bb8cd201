-- What passes over the touches of an index show.
use Rattle.std.proofs.Common.{◌≡◌, ℕ, suc, ◌<◌, ◌≤◌, ◌^◌, true, List, [], length, sym, ◌∙◌, ap, subst, Option, None, Some, inl, arith}
use Rattle.std.specs.Prelude.{All}
use Rattle.tuple_text.specs.Sets.{SetValue}
use Rattle.tuple_text.specs.Tuples.{TupleValue, fact_of, tuple_of}
use Rattle.tuple_text.specs.declared.users.User.TheVariants.{Set}
use Rattle.namespaces.specs.Lookup.{namespace_names, place_of, rule_of}
use Rattle.strata.specs.Meaning.{with_relation, IsStored}
use Rattle.version_chains.specs.Commits.{Touch, changelog, is_stored}
use Rattle.marks.specs.Marks.{pair_mark, set_mark}
use Rattle.version_chains.proofs.StoreLemmas.{store_at-iff}
use Rattle.userset_index.specs.Index.{IndexValue, IsLastTouch, IsWhole, is_crowded, object_mark}
use Rattle.userset_index.specs.Lives.{touches_alive}
use Rattle.userset_index.proofs.CallerLemmas.{each_found, touch_stored}
pub use Rattle.snapshots.proofs.FoundLemmas.{numbered}
use Rattle.snapshots.proofs.FoundLemmas.{crowded_there, of_stored, through_there}
use Rattle.snapshots.specs.Snapshots.{rules_in, tuples_in}
use Rattle.snapshots.specs.declared.snapshot.Snapshot.{Snapshot}
use Rattle.judgement.specs.Decided.{dec_undeclared}
use Rattle.judgement.specs.Judgement.{KnownValue, IsOut}
use Rattle.judgement.specs.Passes.{AreThroughOut, IsBarred, IsObjectStored, IsTouchApart, IsTouchOut, target}

-- ---- passes

-- a stored userset whose tuple a touch has is stored as the touch says it
pub stored_as_said : (store : List TupleValue) (set g said : SetValue) (x y : Touch) → Some x ≡ Some y → x.tuple ≡ tuple_of set (Set g) → y.tuple.user ≡ Set said
    → IsStored store set (Set g) → IsStored store set (Set said)
stored_as_said store set g said x y both same user there =
    let is : x ≡ y = cc in
    let users : Set g ≡ Set said = sym (ap (λ (t : TupleValue). t.user) same) ∙ ap (λ (z : Touch). z.tuple.user) is ∙ user in
    let one : g ≡ said = cc in
    subst (λ (z : SetValue). IsStored store set (Set z)) one there

module _ (s : Snapshot) (small : s.at < 2 ^ 64) (v : IndexValue) (is : IsWhole s.timeline.declarations s.timeline.commits v) (set : SetValue) (crowded : is_crowded v.crowds (set_mark set) ≡ true) where
  -- where nothing is found, none is stored
  pub none_through : (g : SetValue) (n : ℕ) → place_of g.namespace (namespace_names s.timeline.declarations) ≡ Some n
      → touches_alive (pair_mark (set_mark set) n) s.at v.through (length v.through) ≡ [] → ¬ IsStored (tuples_in s) set (Set g)
  none_through g n place none stored =
      let f = through_there s small v is set crowded g n place stored in
      each_found (λ (i : ℕ). ⊥) v.through (pair_mark (set_mark set) n) s.at f.touch f.found
      (rw none (λ k d less. absurd (omega (arith, less))))

  pub apart_by_objects : (other : SetValue) → All (IsTouchApart s set other) (touches_alive (object_mark set other) s.at v.objects (length v.objects))
      → ¬ IsObjectStored (tuples_in s) set other
  apart_by_objects other all o =
      let g = o.0 in
      let w = of_stored s small v is set crowded g o.1 in
      let object : record other { relation = [] } ≡ record g { relation = [] } = λ i. record { namespace = sym o.2.0 i; id = sym o.2.1 i; relation = [] } in
      let mark : object_mark set other ≡ object_mark w.1.tuple.set g =
      ap (λ (h : SetValue). pair_mark (set_mark set) (set_mark h)) object ∙ ap (λ (t : TupleValue). object_mark t.set g) (sym w.3) in
      let found = is.objects w.0 s.at (object_mark set other) w.1 g w.2 (ap (λ (t : TupleValue). t.user) w.3) (crowded_there s small v is set crowded w.1 g w.3) small mark in
      each_found (IsTouchApart s set other) v.objects (object_mark set other) s.at w.0 found all w.1 g w.2.here w.3 o.1 o.2

  module _ (known : KnownValue) (id : ℕ) where
    of_touch : (relation : Option (List ℕ)) (g : SetValue) → IsStored (tuples_in s) set (Set g)
        → (i : ℕ) (x : Touch) → IsLastTouch (changelog s.timeline.commits) s.at i x → x.tuple ≡ tuple_of set (Set g) → IsTouchOut s known set relation id i
        → IsOut (rules_in s) known (fact_of (target g relation) id)
    of_touch relation g stored i x last same out = out x g last.here same stored

    pub barred_by_own : All (IsTouchOut s known set None id) (touches_alive (set_mark set) s.at v.own (length v.own))
        → IsBarred (rules_in s) (tuples_in s) known set None id
    barred_by_own all g stored = by_rule (dec_undeclared (rule_of (rules_in s) g))
      where
        by_rule : Dec (rule_of (rules_in s) g ≡ None) → IsOut (rules_in s) known (fact_of g id)
        by_rule (yes none) = inl none
        by_rule (no declared) =
            let w = of_stored s small v is set crowded g stored in
            let found = is.own w.0 s.at (set_mark set) w.1 g w.2 (ap (λ (t : TupleValue). t.user) w.3) (crowded_there s small v is set crowded w.1 g w.3) small (ap (λ (t : TupleValue). set_mark t.set) (sym w.3), declared) in
            of_touch None g stored w.0 w.1 w.2 w.3 (each_found (IsTouchOut s known set None id) v.own (set_mark set) s.at w.0 found all)

    pub barred_by_through : length (namespace_names s.timeline.declarations) ≤ 256 → (relation : List ℕ)
        → ((n : ℕ) (g : SetValue) → n < 256 → IsStored (tuples_in s) set (Set g) → place_of g.namespace (namespace_names s.timeline.declarations) ≡ Some (suc n)
        → ¬ (rules_in s g.namespace relation ≡ None) → AreThroughOut s v.through known set relation id (suc n))
        → IsBarred (rules_in s) (tuples_in s) known set (Some relation) id
    barred_by_through few relation all g stored = by_rule (dec_undeclared (rules_in s g.namespace relation))
      where
        by_rule : Dec (rules_in s g.namespace relation ≡ None) → IsOut (rules_in s) known (fact_of (with_relation g relation) id)
        by_rule (yes none) = inl none
        by_rule (no declared) =
            let n = numbered s.timeline.declarations s.at g.namespace relation declared few in
            let f = through_there s small v is set crowded g (suc n.0) n.2 stored in
            let there = ap (is_stored s.timeline.commits s.at) (sym f.stored) ∙ touch_stored s.timeline.commits s.at f.touch f.is f.last in
            let target : with_relation f.of relation ≡ with_relation g relation =
            λ i. record { namespace = f.one_namespace i; id = f.one_id i; relation = relation } in
            subst (λ (t : SetValue). IsOut (rules_in s) known (fact_of t id)) target
            (of_touch (Some relation) f.of ((store_at-iff s.timeline.commits s.at (tuple_of set (Set f.of))).1 there) f.touch f.is f.last f.stored
            (each_found (IsTouchOut s known set (Some relation) id) v.through (pair_mark (set_mark set) (suc n.0)) s.at f.touch f.found
            (all n.0 g n.1 stored n.2 declared g.namespace n.3 declared)))
