-- The rules in force read declared relations of their own namespaces.
use Rattle.std.proofs.Common.{◌≡◌, ℕ, List, [], ◌∷◌, Bool, true, false, Option, None, Some, option_map, find, if◌then◌else◌, nat_le, ◌⊎◌, inl, inr, refl, subst, sym, ◌∙◌}
use Rattle.std.specs.Prelude.{Contains}
use Rattle.std.specs.List.{AllByRecursion, list_all, list_any}
use Rattle.std.specs.Option.{option_or}
use Rattle.std.specs.Str.{bytes_eq}
use Rattle.rewrites.specs.Expression.{own_relations}
use Rattle.namespaces.specs.Declaration.{Relation, Declaration}
use Rattle.namespaces.specs.Adding.{reads_declared}
use Rattle.namespaces.specs.Lookup.{Rule, relation_named, declared_in, in_force, relation_at, as_rule, rule_at}
use Rattle.namespaces.specs.WellFormed.{IsFit, IsWellFormed}
use Rattle.rewrites.proofs.Names.{by_bool, and_true}
use Rattle.strata.proofs.Lists.{Contains-cons_cases, Contains-here, Contains-there, not_in_nil}
use Rattle.evidence_maker.specs.Own.{HasOwnRelations}

-- ---- lists

passes : {X : Type 0} (p : X → Bool) (xs : List X) → list_all p xs ≡ true → (x : X) → Contains xs x → p x ≡ true
passes p [] all x c = absurd (not_in_nil x c)
passes {X} p (y ∷ ys) all x c =
    let parts = and_true (p y) (list_all p ys) all in
    by_cases parts.0 (passes p ys parts.1 x) (Contains-cons_cases y ys x c)
  where
    by_cases : p y ≡ true → (Contains ys x → p x ≡ true) → (y ≡ x) ⊎ Contains ys x → p x ≡ true
    by_cases first later (inl e) = subst (λ (z : X). p z ≡ true) e first
    by_cases first later (inr d) = later d

found_there : {X : Type 0} (p : X → Bool) (xs : List X) (x : X) → find p xs ≡ Some x → Contains xs x
found_there p [] x e = absurd (cc)
found_there {X} p (y ∷ ys) x e = by_bool (p y)
    (λ t. let same : y ≡ x = (let d : Some y ≡ Some x = rw t at e in cc) in subst (Contains (y ∷ ys)) same (Contains-here y ys))
    (λ f. Contains-there y ys x (found_there p ys x (rw f at e)))

finds : {X : Type 0} (p : X → Bool) (xs : List X) → list_any p xs ≡ true → ¬ (find p xs ≡ None)
finds p [] any none = absurd (cc)
finds p (y ∷ ys) any none = by_bool (p y)
    (λ t. let d : Some y ≡ None = rw t at none in absurd (cc))
    (λ f. finds p ys (rw f at any) (rw f at none))

-- ---- declarations

given : {X : Type 0} (b : Bool) (o : Option X) (x : X) → (if b then o else None) ≡ Some x → (b ≡ true) × (o ≡ Some x)
given true o x e = (refl, e)
given false o x e = absurd (cc)

neither : {X : Type 0} (o p : Option X) → option_or o p ≡ None → (o ≡ None) × (p ≡ None)
neither None p e = (refl, e)
neither (Some x) p e = absurd (cc)

-- where a declaration in force has the relation, it has those that the relation's rule names
in_one : (d : Declaration) (at : ℕ) (namespace relation : List ℕ) (r : Relation) → list_all (reads_declared d.relations) d.relations ≡ true
    → in_force at namespace relation d ≡ Some r → (q : List ℕ) → Contains (own_relations r.expression) q → ¬ (in_force at namespace q d ≡ None)
in_one d at namespace relation r all e q c none =
    let outer = given (nat_le d.at at) (declared_in namespace relation d) r e in
    let inner = given (bytes_eq namespace d.name) (relation_named relation d.relations) r outer.1 in
    let reads : reads_declared d.relations r ≡ true =
    passes (reads_declared d.relations) d.relations all r (found_there (λ (s : Relation). bytes_eq relation s.name) d.relations r inner.1) in
    finds (λ (s : Relation). bytes_eq q s.name) d.relations
    (passes (λ (p : List ℕ). list_any (λ (s : Relation). bytes_eq p s.name) d.relations) (own_relations r.expression) reads q c)
    (rw (outer.0, inner.0) at none)

in_some : (ds : List Declaration) (at : ℕ) (namespace relation : List ℕ) (r : Relation) → AllByRecursion IsFit ds
    → relation_at ds at namespace relation ≡ Some r → (q : List ℕ) → Contains (own_relations r.expression) q → ¬ (relation_at ds at namespace q ≡ None)
in_some [] at namespace relation r all e q c none = absurd (cc)
in_some (d ∷ ds) at namespace relation r all e q c none =
    let parts = neither (relation_at ds at namespace q) (in_force at namespace q d) none in
    by_cases (relation_at ds at namespace relation) (λ h. in_some ds at namespace relation r all.1 h q c parts.0) parts.1 refl e
  where
    by_cases : (o : Option Relation) → (relation_at ds at namespace relation ≡ Some r → ⊥) → in_force at namespace q d ≡ None
        → relation_at ds at namespace relation ≡ o → option_or o (in_force at namespace relation d) ≡ Some r → ⊥
    by_cases None further none same e = in_one d at namespace relation r all.0.reads e q c none
    by_cases (Some s) further none same e = further (same ∙ e)

pub own_relations_law : (ds : List Declaration) → IsWellFormed ds → (at : ℕ) → HasOwnRelations (rule_at ds at)
own_relations_law ds formed at g r e q c none = by_cases (relation_at ds at g.namespace g.relation) refl e
  where
    absent : (o : Option Relation) → option_map as_rule o ≡ None → o ≡ None
    absent None e = refl
    absent (Some s) e = absurd (cc)

    by_cases : (o : Option Relation) → relation_at ds at g.namespace g.relation ≡ o → option_map as_rule o ≡ Some r → ⊥
    by_cases None same e = absurd (cc)
    by_cases (Some s) same e =
        let rule : as_rule s ≡ r = cc in
        in_some ds at g.namespace g.relation s formed.fit same q
        (subst (λ (t : Rule). Contains (own_relations t.expression) q) (sym rule) c)
        (absent (relation_at ds at g.namespace q) none)
