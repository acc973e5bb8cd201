-- The least round of a member. Over finitely many relations whether a fact holds at a stratum can be decided, since
-- a round that adds nothing is followed by none that does.
use Rattle.std.proofs.Common.{◌≡◌, ℕ, zero, suc, ◌≤◌, ◌<◌, List, [], ◌∷◌, ◌++◌, length, Option, Some, None, ◌⊎◌, inl, inr, ◌↔◌, refl, subst, ap, sym, ◌∙◌, arith, add-one}
use Rattle.std.specs.Prelude.{Contains}
use Rattle.std.proofs.lemmas.List.Elements.{Contains-append_left, Contains-append_right}
use Rattle.std.proofs.Math.Decide.{ℕ_discrete, dec_le}
use Rattle.tuple_text.specs.Sets.{SetValue}
use Rattle.tuple_text.specs.Tuples.{TupleValue, FactValue}
use Rattle.tuple_text.specs.declared.users.User.{User}
use Rattle.tuple_text.specs.declared.users.User.TheVariants.{Id, Set}
use Rattle.rewrites.specs.Expression.{Expression, this, computed, tuple_to, union, inter, minus, Expressions, no_child, child}
use Rattle.namespaces.specs.Lookup.{Rule, Lookup, rule_of}
use Rattle.strata.specs.Meaning.{with_relation, IsStored, Body, Below, At, In, Member, HasLeastRound}
use Rattle.strata.specs.Strata.{EachPremise, EachPremises, HasValidStrata, HasNames}
use Rattle.strata.proofs.Lists.{Contains-cons_cases, Contains-here, Contains-there, not_in_nil, without, dec_same, dec_both, dec_some, dec_contains, least_of}
use Rattle.strata.proofs.Premises.{each_premise-map, body-map, kept_up_to}
use Rattle.strata.proofs.Rounds.{same_rule, lower_from_below, settled_and_rising}
use Rattle.strata.proofs.Decided.{same_bytes, dec_body}

abbrev Object : Type 0
Object = List ℕ × List ℕ

abbrev object_of : SetValue → Object
object_of g = (g.namespace, g.id)

same_object : Discrete Object
same_object a b = parts (same_bytes a.0 b.0) (same_bytes a.1 b.1)
  where
    parts : Dec (a.0 ≡ b.0) → Dec (a.1 ≡ b.1) → Dec (a ≡ b)
    parts (yes p) (yes q) = yes (λ i. (p i, q i))
    parts (yes p) (no n) = no (λ e. n (ap (λ (x : Object). x.1) e))
    parts (no n) d = no (λ e. n (ap (λ (x : Object). x.0) e))

-- the objects of the usersets that stand as users in the tuples
abbrev objects_of : List TupleValue → List Object
objects_of [] = []
objects_of (t ∷ ts) = elim t.user [ Id n ↦ objects_of ts | Set g ↦ object_of g ∷ objects_of ts ]

stored_object : (store : List TupleValue) (s g : SetValue) → IsStored store s (Set g) → Contains (objects_of store) (object_of g)
stored_object [] s g c = absurd (not_in_nil (record { set = s; user = Set g }) c)
stored_object (t ∷ ts) s g c =
    by_cases t.user refl (λ h. stored_object ts s g h) (Contains-cons_cases t ts (record { set = s; user = Set g }) c)
  where
    by_cases : (u : User) → t.user ≡ u → (IsStored ts s (Set g) → Contains (objects_of ts) (object_of g))
        → (t ≡ record { set = s; user = Set g }) ⊎ IsStored ts s (Set g)
        → Contains (elim u [ Id n ↦ objects_of ts | Set h ↦ object_of h ∷ objects_of ts ]) (object_of g)
    by_cases (Id n) e step (inl p) = absurd (let k : Id n ≡ Set g = sym e ∙ ap (λ (x : TupleValue). x.user) p in cc)
    by_cases (Id n) e step (inr h) = step h
    by_cases (Set h) e step (inl p) =
        let k : Set h ≡ Set g = sym e ∙ ap (λ (x : TupleValue). x.user) p in
        let l : h ≡ g = cc in
        subst (λ (x : SetValue). Contains (object_of h ∷ objects_of ts) (object_of x)) l (Contains-here (object_of h) (objects_of ts))
    by_cases (Set h) e step (inr c) = Contains-there (object_of h) (objects_of ts) (object_of g) (step c)

-- one fact for each relation of the object
abbrev facts_of : Object → ℕ → List (List ℕ) → List FactValue
facts_of o u [] = []
facts_of o u (q ∷ qs) = record { set = record { namespace = o.0; id = o.1; relation = q }; user = u } ∷ facts_of o u qs

abbrev all_facts : List Object → ℕ → List (List ℕ) → List FactValue
all_facts [] u qs = []
all_facts (o ∷ os) u qs = facts_of o u qs ++ all_facts os u qs

facts_of_has : (o : Object) (u : ℕ) (qs : List (List ℕ)) (q : List ℕ) → Contains qs q
    → Contains (facts_of o u qs) (record { set = record { namespace = o.0; id = o.1; relation = q }; user = u })
facts_of_has o u [] q c = absurd (not_in_nil q c)
facts_of_has o u (p ∷ ps) q c = by_cases (facts_of_has o u ps q) (Contains-cons_cases p ps q c)
  where
    fact : List ℕ → FactValue
    fact x = record { set = record { namespace = o.0; id = o.1; relation = x }; user = u }

    by_cases : (Contains ps q → Contains (facts_of o u ps) (record { set = record { namespace = o.0; id = o.1; relation = q }; user = u }))
        → (p ≡ q) ⊎ Contains ps q
        → Contains (facts_of o u (p ∷ ps)) (record { set = record { namespace = o.0; id = o.1; relation = q }; user = u })
    by_cases step (inl e) =
        subst (λ x. Contains (facts_of o u (p ∷ ps)) (record { set = record { namespace = o.0; id = o.1; relation = x }; user = u })) e
        (Contains-here (record { set = record { namespace = o.0; id = o.1; relation = p }; user = u }) (facts_of o u ps))
    by_cases step (inr h) =
        Contains-there (record { set = record { namespace = o.0; id = o.1; relation = p }; user = u }) (facts_of o u ps)
        (record { set = record { namespace = o.0; id = o.1; relation = q }; user = u }) (step h)

all_facts_has : (os : List Object) (u : ℕ) (qs : List (List ℕ)) (o : Object) (q : List ℕ) → Contains os o → Contains qs q
    → Contains (all_facts os u qs) (record { set = record { namespace = o.0; id = o.1; relation = q }; user = u })
all_facts_has [] u qs o q c d = absurd (not_in_nil o c)
all_facts_has (p ∷ ps) u qs o q c d = by_cases (λ h. all_facts_has ps u qs o q h d) (Contains-cons_cases p ps o c)
  where
    by_cases : (Contains ps o → Contains (all_facts ps u qs) (record { set = record { namespace = o.0; id = o.1; relation = q }; user = u }))
        → (p ≡ o) ⊎ Contains ps o
        → Contains (facts_of p u qs ++ all_facts ps u qs) (record { set = record { namespace = o.0; id = o.1; relation = q }; user = u })
    by_cases step (inl e) =
        subst (λ (x : Object). Contains (facts_of p u qs ++ all_facts ps u qs) (record { set = record { namespace = x.0; id = x.1; relation = q }; user = u })) e
        (Contains-append_left (facts_of p u qs) (all_facts ps u qs) (record { set = record { namespace = p.0; id = p.1; relation = q }; user = u })
        (facts_of_has p u qs q d))
    by_cases step (inr h) =
        Contains-append_right (facts_of p u qs) (all_facts ps u qs) (record { set = record { namespace = o.0; id = o.1; relation = q }; user = u }) (step h)

module _ (lookup : Lookup) (store : List TupleValue) (valid : HasValidStrata lookup store) (names : List (List ℕ)) (named : HasNames lookup names)
    (start : FactValue) where
  -- the objects that can matter to `start`
  abbrev scope : List Object
  scope = object_of start.set ∷ objects_of store

  -- a fact in scope, or one of an undeclared relation
  abbrev IsScoped : FactValue → Type 0
  IsScoped g = Contains scope (object_of g.set) × (g.user ≡ start.user)

  mutual
    scoped : (f : FactValue) (e : Expression) → IsScoped f → EachPremise store IsScoped IsScoped f e
    scoped f this s = λ g c. (Contains-there (object_of start.set) (objects_of store) (object_of g) (stored_object store f.set g c), s.1)
    scoped f (computed q) s = s
    scoped f (tuple_to q c) s = λ g h.
        (Contains-there (object_of start.set) (objects_of store) (object_of g) (stored_object store (with_relation f.set q) g h), s.1)
    scoped f (union es) s = all_scoped f es s
    scoped f (inter es) s = all_scoped f es s
    scoped f (minus a b) s = (scoped f a s, scoped f b s)

    all_scoped : (f : FactValue) (es : Expressions) → IsScoped f → EachPremises store IsScoped IsScoped f es
    all_scoped f no_child s = tt
    all_scoped f (child e es) s = (scoped f e s, all_scoped f es s)

  candidates : List FactValue
  candidates = all_facts scope start.user names

  is_candidate : (g : FactValue) → IsScoped g → (r : Rule) → rule_of lookup g.set ≡ Some r → Contains candidates g
  unfolding candidates
  is_candidate g s r e =
      subst (λ x. Contains candidates (record { set = g.set; user = x })) (sym s.1)
      (all_facts_has scope start.user names (object_of g.set) g.set.relation s.0 (named g.set.namespace g.set.relation r e))

  dec_scoped : (g : FactValue) → Dec (IsScoped g)
  dec_scoped g = dec_both (dec_contains same_object scope (object_of g.set)) (ℕ_discrete g.user start.user)

  module _ (k : ℕ) (dec_below : (g : FactValue) → IsScoped g → Dec (Below lookup store k g)) where
    dec_at : (n : ℕ) (g : FactValue) → IsScoped g → Dec (At lookup store k n g)
    dec_at zero g s = dec_below g s
    dec_at (suc n) g s = by_rule (λ h t. dec_at n h t) (rule_of lookup g.set) refl
      where
        with_rule : ((h : FactValue) → IsScoped h → Dec (At lookup store k n h)) → (r : Rule) → rule_of lookup g.set ≡ Some r
            → Dec (r.stratum ≤ k) → Dec (At lookup store k (suc n) g)
        with_rule step r e (no m) = no (λ a. let same : a.0 ≡ r = (let d : Some a.0 ≡ Some r = sym a.1 ∙ e in cc) in
            m (subst (λ (x : Rule). x.stratum ≤ k) same a.2))
        with_rule step r e (yes le) =
            dec_same (λ b. (r, e, le, b))
            (λ a. let same : a.0 ≡ r = (let d : Some a.0 ≡ Some r = sym a.1 ∙ e in cc) in
            subst (λ (x : Rule). Body store (At lookup store k n) (Below lookup store k) g x.expression) same a.3)
            (dec_body store (At lookup store k n) (Below lookup store k) g r.expression
            (each_premise-map store IsScoped IsScoped (λ h. Dec (At lookup store k n h)) (λ h. Dec (Below lookup store k h))
            step dec_below g r.expression (scoped g r.expression s)))

        by_rule : ((h : FactValue) → IsScoped h → Dec (At lookup store k n h)) → (o : Option Rule) → rule_of lookup g.set ≡ o
            → Dec (At lookup store k (suc n) g)
        by_rule step None e = no (λ a. let d : Some a.0 ≡ None = sym a.1 ∙ e in cc)
        by_rule step (Some r) e = with_rule step r e (dec_le r.stratum k)

    -- round n + 1 adds nothing
    abbrev IsLast : ℕ → Type 0
    IsLast n = (g : FactValue) → IsScoped g → At lookup store k (suc n) g → At lookup store k n g

    nothing_after : (n : ℕ) → IsLast n → (m : ℕ) (g : FactValue) → IsScoped g → At lookup store k m g → At lookup store k n g
    nothing_after n last zero g s a = kept_up_to (λ i. At lookup store k i g) (λ i. (settled_and_rising lookup store valid k).1 i g) 0 n (omega arith) a
    nothing_after n last (suc m) g s a =
        last g s (
          a.0,
          a.1,
          a.2,
          body-map store (At lookup store k m) (Below lookup store k) (At lookup store k n) (Below lookup store k) g a.0.expression
              (each_premise-map store IsScoped IsScoped (λ h. At lookup store k m h → At lookup store k n h) (λ h. Below lookup store k h ↔ Below lookup store k h)
              (λ h t. nothing_after n last m h t) (λ h t. ((λ b. b), (λ b. b))) g a.0.expression (scoped g a.0.expression s))
              a.3,
        )

    dec_scoped_at : (n : ℕ) (g : FactValue) → Dec (IsScoped g × At lookup store k n g)
    dec_scoped_at n g = by_cases (dec_scoped g)
      where
        by_cases : Dec (IsScoped g) → Dec (IsScoped g × At lookup store k n g)
        by_cases (yes s) = dec_same (λ a. (s, a)) (λ t. t.1) (dec_at n g s)
        by_cases (no m) = no (λ t. m t.0)

    -- each round adds one of the facts that are left, or is the last
    last_round : (d : ℕ) (n : ℕ) (left : List FactValue) → length left ≤ d
        → ((g : FactValue) → IsScoped g → (r : Rule) → rule_of lookup g.set ≡ Some r → At lookup store k n g ⊎ Contains left g)
        → (m : ℕ) × IsLast m
    last_round zero n left short cover =
        (n, λ g s a. elim (cover g s a.0 a.1) [ inl h ↦ h | inr c ↦ absurd (let lt : c.0 < length left = c.1 in omega arith) ])
    last_round (suc d) n left short cover =
        by_cases (λ ys le c. last_round d (suc n) ys le c)
        (dec_some (λ g. IsScoped g × At lookup store k (suc n) g) left (λ g _. dec_scoped_at (suc n) g))
      where
        up : (g : FactValue) → At lookup store k n g → At lookup store k (suc n) g
        up g = (settled_and_rising lookup store valid k).1 n g

        by_cases : ((ys : List FactValue) → length ys ≤ d
            → ((g : FactValue) → IsScoped g → (r : Rule) → rule_of lookup g.set ≡ Some r → At lookup store k (suc n) g ⊎ Contains ys g)
            → (m : ℕ) × IsLast m)
            → Dec ((g : FactValue) × Contains left g × (IsScoped g × At lookup store k (suc n) g)) → (m : ℕ) × IsLast m
        by_cases step (no none) =
            (n, λ g s a. elim (cover g s a.0 a.1) [ inl h ↦ h | inr c ↦ absurd (none (g, c, (s, a))) ])
        by_cases step (yes t) =
            let w = without left t.0 t.1 in
            step w.0 (omega (arith, w.1))
            (λ g s r e. elim (cover g s r e) [
              | inl h ↦ inl (up g h)
              | inr c ↦ elim (w.2 g c) [ inl same ↦ inl (subst (At lookup store k (suc n)) same t.2.1) | inr h ↦ inr h ]
            ])

    dec_next : (g : FactValue) → IsScoped g → Dec (Below lookup store (suc k) g)
    dec_next g s =
        let l = last_round (length candidates) 0 candidates (omega arith) (λ h t r e. inr (is_candidate h t r e)) in
        dec_same (λ a. (l.0, a)) (λ b. nothing_after l.0 l.1 b.0 g s b.1) (dec_at l.0 g s)

  dec_below_at : (k : ℕ) (g : FactValue) → IsScoped g → Dec (Below lookup store k g)
  dec_below_at zero g s = no (λ b. b)
  dec_below_at (suc k) g s = dec_next k (dec_below_at k) g s

-- whether f holds after n rounds at k
pub dec_holds_at : (lookup : Lookup) (store : List TupleValue) → HasValidStrata lookup store → (names : List (List ℕ)) → HasNames lookup names
    → (k n : ℕ) (f : FactValue) → Dec (At lookup store k n f)
dec_holds_at lookup store valid names named k n f =
    let s : IsScoped lookup store valid names named f f = (Contains-here (object_of f.set) (objects_of store), refl) in
    dec_at lookup store valid names named f k (dec_below_at lookup store valid names named f k) n f s

pub supported_law : (lookup : Lookup) (store : List TupleValue) → HasValidStrata lookup store → (names : List (List ℕ)) → HasNames lookup names
    → (f : FactValue) (r : Rule) → rule_of lookup f.set ≡ Some r → Member lookup store f → HasLeastRound lookup store f r
supported_law lookup store valid names named f r e m =
    by_least (least_of (λ n. At lookup store r.stratum n f) (λ n. dec_holds_at lookup store valid names named r.stratum n f) held.0 held.1)
  where
    held : In lookup store r.stratum f
    held = let d : m.0 ≡ r = same_rule lookup f m.0 r m.1 e in subst (λ (x : Rule). In lookup store x.stratum f) d m.2

    by_least : (n : ℕ) × At lookup store r.stratum n f × ((i : ℕ) → At lookup store r.stratum i f → n ≤ i) → HasLeastRound lookup store f r
    by_least (zero, a, least) = absurd (let lt : r.stratum < r.stratum = lower_from_below lookup store valid r.stratum f a r e in omega arith)
    by_least (suc n, a, least) = record {
      round = n;
      holds = subst (λ i. At lookup store r.stratum i f) (sym (add-one n)) a;
      least = λ i h. let le : suc n ≤ i = least i h in omega arith;
      body = let d : a.0 ≡ r = same_rule lookup f a.0 r a.1 e in
          subst (λ (x : Rule). Body store (At lookup store r.stratum n) (Below lookup store r.stratum) f x.expression) d a.3;
    }
