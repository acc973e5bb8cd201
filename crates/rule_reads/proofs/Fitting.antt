-- Where a tuple fits what the rules read, none of its edges is broken.
use Rattle.std.proofs.Common.{◌≡◌, ℕ, ◌≤◌, List, [], ◌∷◌, length, Bool, true, false, Option, None, Some, option_map, option_and_then, Ok, ◌⊎◌, inl, inr, refl, sym, ap, ◌∙◌, subst, arith}
use Rattle.std.specs.Prelude.{Contains}
use Rattle.std.specs.List.{AllByRecursion, filter_map, flat_map, cons_option, range_with_len}
use Rattle.std.specs.Str.{bytes_eq}
use Rattle.std.proofs.lemmas.Bool.Decides.{nat_tests}
use Rattle.tuple_text.specs.Sets.{SetValue}
use Rattle.tuple_text.specs.Tuples.{TupleValue}
use Rattle.tuple_text.specs.declared.users.User.{User}
use Rattle.tuple_text.specs.declared.users.User.TheVariants.{Id, Set}
use Rattle.namespaces.specs.declared.number.RelNo.{RelNo}
use Rattle.namespaces.specs.Declaration.{Relation, Declaration}
use Rattle.namespaces.specs.Lookup as lookup
use Rattle.namespaces.specs.Lookup.{declared_in, history, relations_of, relation_of, namespace_names, namespace_numbered, relation_numbered, history_numbered, number_of, place_of}
use Rattle.namespaces.specs.WellFormed.{IsWellFormed}
use Rattle.namespaces.proofs.Declared.{numbered, history_of_number, one_stratum, stays_declared}
use Rattle.rewrites.proofs.Names.{by_bool, one_name}
use Rattle.strata.specs.declared.edge.Edge.{Edge}
use Rattle.strata.specs.Edges.{RelationName, Place, at_this, at_computed, at_tuple_to, places, read_in_userset, read_through, edge_at, edges_in, relation_edges, relations_in, this_edges, tuple_to_edges, user_edges, tuple_edges, edges_of_tuples, stratum_numbered, is_broken_between, first_broken}
use Rattle.strata.proofs.LastTuple.{absent, placed}
use Rattle.strata.proofs.Lists.{Contains-cons_cases, Contains-here, Contains-there, not_in_nil}
use Rattle.strata.proofs.Walks.{edges_joined, stratum_by_names}
use Rattle.rule_reads.specs.Reads.{stratum_of, relation_named, relation_mark, own, ceiling, HasRead, is_below, Fits, AllFit}
use Rattle.rule_reads.specs.declared.reads.Reads.{Reads}
use Rattle.rule_reads.specs.declared.reads.Through.{Through}
use Rattle.rule_reads.proofs.Chains.{place_in}

-- ---- strata by name and by number

abbrev at_number : ℕ → ℕ → RelNo
at_number n r = record { namespace = n; relation = r }

no_item : (o : Option ℕ) → option_and_then (λ (n : ℕ). option_map (at_number n) None) o ≡ None
no_item None = refl
no_item (Some n) = refl

no_number : (ds : List Declaration) (q r : List ℕ) → relation_of q r ds ≡ None → number_of q r ds ≡ None
no_number ds q r none = by (relations_of q ds) refl none
  where
    by : (o : Option (List Relation)) → relations_of q ds ≡ o → option_and_then (lookup.relation_named r) o ≡ None → number_of q r ds ≡ None
    by None is h = rw is (no_item (place_of q (namespace_names ds)))
    by (Some rs) is h = rw (is, absent r rs h) (no_item (place_of q (namespace_names ds)))

pub stratum_of_numbered : (ds : List Declaration) (g : SetValue) → option_and_then (stratum_numbered ds) (number_of g.namespace g.relation ds) ≡ stratum_of ds g
stratum_of_numbered ds g = by (relation_of g.namespace g.relation ds) refl
  where
    by : (o : Option Relation) → relation_of g.namespace g.relation ds ≡ o → option_and_then (stratum_numbered ds) (number_of g.namespace g.relation ds) ≡ option_map (λ (r : Relation). r.stratum) o
    by None is = ap (option_and_then (stratum_numbered ds)) (no_number ds g.namespace g.relation is)
    by (Some x) is =
        let n = numbered ds g.namespace g.relation x is in
        ap (option_and_then (stratum_numbered ds)) n.is ∙ ap (option_map (λ (r : Relation). r.stratum)) n.relation

-- ---- what was declared

pub named_there : (r : List ℕ) (rs : List Relation) (y : Relation) → lookup.relation_named r rs ≡ Some y → Contains rs y × (y.name ≡ r)
named_there r [] y h = cc
named_there r (x ∷ xs) y h = by_bool (bytes_eq r x.name)
    (λ t.
    let e : Some x ≡ Some y = rw t at h in
    let same : x ≡ y = cc in
    (subst (Contains (x ∷ xs)) same (Contains-here x xs), ap (λ (z : Relation). z.name) (sym same) ∙ sym (one_name r x.name t)))
    (λ f. let further = named_there r xs y (rw f at h) in (Contains-there x xs y further.0, further.1))

-- a declaration that says something of a relation
pub record IsDeclaredBy (ds : List Declaration) (q r : List ℕ) (y : Relation) : Type 0 where
  pub declaration : Declaration
  pub among : Contains ds declaration
  pub namespace : declaration.name ≡ q
  pub there : Contains declaration.relations y
  pub relation : y.name ≡ r

further : (d : Declaration) (ds : List Declaration) (q r : List ℕ) (y : Relation) → IsDeclaredBy ds q r y → IsDeclaredBy (d ∷ ds) q r y
further d ds q r y h = record { declaration = h.declaration; among = Contains-there d ds h.declaration h.among; namespace = h.namespace; there = h.there; relation = h.relation }

declared_there : (d : Declaration) (ds : List Declaration) (q r : List ℕ) (y : Relation) → declared_in q r d ≡ Some y → IsDeclaredBy (d ∷ ds) q r y
declared_there d ds q r y h = by_bool (bytes_eq q d.name)
    (λ t.
    let there = named_there r d.relations y (rw t at h) in
    record { declaration = d; among = Contains-here d ds; namespace = sym (one_name q d.name t); there = there.0; relation = there.1 })
    (λ f. let none : None ≡ Some y = rw f at h in cc)

pub from_history : (q r : List ℕ) (ds : List Declaration) (y : Relation) → Contains (history q r ds) y → IsDeclaredBy ds q r y
from_history q r [] y c = absurd (not_in_nil y c)
from_history q r (d ∷ ds) y c = by (λ k. further d ds q r y (from_history q r ds y k)) (declared_in q r d) refl c
  where
    by_cases : (Contains (history q r ds) y → IsDeclaredBy (d ∷ ds) q r y) → (z : Relation) → declared_in q r d ≡ Some z → (z ≡ y) ⊎ Contains (history q r ds) y → IsDeclaredBy (d ∷ ds) q r y
    by_cases step z is (inl e) = declared_there d ds q r y (is ∙ ap (λ (x : Relation). Some x) e)
    by_cases step z is (inr k) = step k

    by : (Contains (history q r ds) y → IsDeclaredBy (d ∷ ds) q r y) → (o : Option Relation) → declared_in q r d ≡ o → Contains (cons_option o (history q r ds)) y → IsDeclaredBy (d ∷ ds) q r y
    by step None is k = step k
    by step (Some z) is k = by_cases step z is (Contains-cons_cases z (history q r ds) y k)

all_in : {X : Type 0} (P : X → Type 0) (xs : List X) (x : X) → AllByRecursion P xs → Contains xs x → P x
all_in P [] x all c = absurd (not_in_nil x c)
all_in {X} P (y ∷ ys) x all c = by (λ k. all_in P ys x all.1 k) (Contains-cons_cases y ys x c)
  where
    by : (Contains ys x → P x) → (y ≡ x) ⊎ Contains ys x → P x
    by step (inl e) = subst P e all.0
    by step (inr k) = step k

-- each rule of a relation has the stratum of its name
pub its_stratum : (ds : List Declaration) (q r : List ℕ) (y : Relation) → IsWellFormed ds → Contains (history q r ds) y → Some y.stratum ≡ option_map (λ (x : Relation). x.stratum) (relation_of q r ds)
its_stratum ds q r y w c =
    let at = place_in (history q r ds) y c in
    let last = stays_declared ds q r y w (record { place = at.0; there = at.1 }) in
    let same = all_in (λ (z : Relation). z.stratum ≡ last.0.stratum) (history q r ds) y (one_stratum ds q r last.0 w last.1) c in
    ap (λ (k : ℕ). Some k) same ∙ ap (option_map (λ (x : Relation). x.stratum)) (sym last.1)

-- ---- edges, place by place

pub low_unbroken : (r k : ℕ) (o : Option ℕ) (strict : Bool) → is_below o k ≡ true → k ≤ ceiling r strict → is_broken_between (Some r) o strict ≡ false
low_unbroken r k None strict low top = refl
low_unbroken r k (Some x) true low top = grind (arith, nat_tests)
low_unbroken r k (Some x) false low top = grind (arith, nat_tests)

flat_unbroken : {X : Type 0} (ds : List Declaration) (f : X → List Edge) (xs : List X) → ((x : X) → Contains xs x → first_broken ds (f x) ≡ Ok (tt {0})) → first_broken ds (flat_map f xs) ≡ Ok (tt {0})
flat_unbroken ds f [] h = refl
flat_unbroken ds f (x ∷ xs) h =
    edges_joined ds (f x) (flat_map f xs) ∙ rw (h x (Contains-here x xs), flat_unbroken ds f xs (λ y c. h y (Contains-there x xs y c))) refl

module _ (ds : List Declaration) (reader : RelNo) (f : Place → Option RelationName) where
  -- the edge from a place to what it reads is not broken
  abbrev IsPlaceFine : Bool → Place → Type 0
  IsPlaceFine strict place = (p : RelationName) → f place ≡ Some p → is_broken_between (stratum_numbered ds reader) (stratum_of ds (relation_named p.namespace p.relation)) strict ≡ false

  joined : (strict : Bool) (m : Option RelNo) (es : List Edge) → is_broken_between (stratum_numbered ds reader) (option_and_then (stratum_numbered ds) m) strict ≡ false
      → first_broken ds es ≡ Ok (tt {0}) → first_broken ds (cons_option (option_map (λ n. record { reader = reader; premise = n; strict = strict }) m) es) ≡ Ok (tt {0})
  joined strict None es fine rest = rest
  joined strict (Some n) es fine rest = rw fine rest

  places_unbroken : (ps : List (Bool × Place)) → ((strict : Bool) (place : Place) → Contains ps (strict, place) → IsPlaceFine strict place)
      → first_broken ds (filter_map (edge_at ds reader f) ps) ≡ Ok (tt {0})
  places_unbroken [] h = refl
  places_unbroken ((strict, place) ∷ ps) h =
      by (f place) refl (h strict place (Contains-here (strict, place) ps)) (places_unbroken ps (λ s p c. h s p (Contains-there (strict, place) ps (s, p) c)))
    where
      by : (o : Option RelationName) → f place ≡ o → IsPlaceFine strict place → first_broken ds (filter_map (edge_at ds reader f) ps) ≡ Ok (tt {0})
          → first_broken ds (cons_option (option_and_then (λ (p : RelationName). option_map (λ n. record { reader = reader; premise = n; strict = strict }) (number_of p.namespace p.relation ds)) o) (filter_map (edge_at ds reader f) ps)) ≡ Ok (tt {0})
      by None is fine rest = rest
      by (Some p) is fine rest =
          joined strict (number_of p.namespace p.relation ds) (filter_map (edge_at ds reader f) ps)
          (ap (λ (o : Option ℕ). is_broken_between (stratum_numbered ds reader) o strict) (stratum_of_numbered ds (relation_named p.namespace p.relation)) ∙ fine p is) rest

  pub rules_unbroken : ((y : Relation) (strict : Bool) (place : Place) → Contains (history_numbered reader ds) y → Contains (places false y.expression) (strict, place) → IsPlaceFine strict place)
      → first_broken ds (relation_edges ds f reader) ≡ Ok (tt {0})
  rules_unbroken h =
      flat_unbroken ds (λ (y : Relation). edges_in ds reader f y.expression) (history_numbered reader ds)
      (λ y c. places_unbroken (places false y.expression) (λ strict place i. h y strict place c i))

-- ---- a tuple that fits

module _ (ds : List Declaration) (reads : Reads) (w : IsWellFormed ds) (read : HasRead reads ds) (s g : SetValue) where
  module _ (own_fits : (strict : Bool) → Contains (own strict reads) (relation_mark s.namespace s.relation) → is_broken_between (stratum_of ds s) (stratum_of ds g) strict ≡ false) where
    this_unbroken : first_broken ds (this_edges ds s g) ≡ Ok (tt {0})
    this_unbroken = by (relation_of s.namespace s.relation ds) refl
      where
        at_place : (y : Relation) (strict : Bool) (place : Place) (p : RelationName) → Contains (history s.namespace s.relation ds) y → Contains (places false y.expression) (strict, place)
            → read_in_userset g place ≡ Some p → is_broken_between (stratum_of ds s) (stratum_of ds (relation_named p.namespace p.relation)) strict ≡ false
        at_place y strict at_this p c i sees =
            let d = from_history s.namespace s.relation ds y c in
            let marked = read d.declaration y d.among d.there strict at_this i in
            let there = subst (Contains (own strict reads)) (λ j. relation_mark (d.namespace j) (d.relation j)) marked in
            let name : record { namespace = g.namespace; relation = g.relation } ≡ p = cc in
            subst (λ (x : RelationName). is_broken_between (stratum_of ds s) (stratum_of ds (relation_named x.namespace x.relation)) strict ≡ false) name (own_fits strict there)
        at_place y strict (at_computed q) p c i sees = cc
        at_place y strict (at_tuple_to t q) p c i sees = cc

        by : (o : Option Relation) → relation_of s.namespace s.relation ds ≡ o → first_broken ds (this_edges ds s g) ≡ Ok (tt {0})
        by None is = rw (no_number ds s.namespace s.relation is) refl
        by (Some x) is =
            let n = numbered ds s.namespace s.relation x is in
            let rules = history_of_number ds s.namespace s.relation x n.number is n.namespace n.relation in
            let stratum : stratum_of ds s ≡ stratum_numbered ds n.number = ap (option_map (λ (r : Relation). r.stratum)) (is ∙ sym n.relation) in
            rw n.is (rules_unbroken ds n.number (read_in_userset g)
            (λ y strict place c i p sees.
            subst (λ (o : Option ℕ). is_broken_between o (stratum_of ds (relation_named p.namespace p.relation)) strict ≡ false) stratum
            (at_place y strict place p (subst (λ (ys : List Relation). Contains ys y) rules c) i sees)))

  module _ (through_fits : (e : Through) → Contains reads.through.items e → e.names.namespace ≡ s.namespace → e.names.relation ≡ s.relation → is_below (stratum_of ds (relation_named g.namespace e.names.id)) e.ceiling ≡ true) where
    through_place : (nm : List ℕ) (y : Relation) (strict : Bool) (place : Place) (p : RelationName) → Contains (history s.namespace nm ds) y → Contains (places false y.expression) (strict, place)
        → read_through s.relation g place ≡ Some p → is_broken_between (Some y.stratum) (stratum_of ds (relation_named p.namespace p.relation)) strict ≡ false
    through_place nm y strict at_this p c i sees = cc
    through_place nm y strict (at_computed q) p c i sees = cc
    through_place nm y strict (at_tuple_to t q) p c i sees = by_bool (bytes_eq t s.relation)
        (λ is.
        let d = from_history s.namespace nm ds y c in
        let e = read d.declaration y d.among d.there strict (at_tuple_to t q) i in
        let id : e.0.names.id ≡ q = ap (λ (x : SetValue). x.id) e.2 in
        let low = through_fits e.0 e.1 (ap (λ (x : SetValue). x.namespace) e.2 ∙ d.namespace) (ap (λ (x : SetValue). x.relation) e.2 ∙ one_name t s.relation is) in
        let seen : Some (record { namespace = g.namespace; relation = q }) ≡ Some p = rw is at sees in
        let name : record { namespace = g.namespace; relation = q } ≡ p = cc in
        subst (λ (x : RelationName). is_broken_between (Some y.stratum) (stratum_of ds (relation_named x.namespace x.relation)) strict ≡ false) name
        (low_unbroken y.stratum e.0.ceiling (stratum_of ds (relation_named g.namespace q)) strict
        (subst (λ (r : List ℕ). is_below (stratum_of ds (relation_named g.namespace r)) e.0.ceiling ≡ true) id low) e.3))
        (λ is. let none : None ≡ Some p = rw is at sees in cc)

    through_unbroken : first_broken ds (tuple_to_edges ds s g) ≡ Ok (tt {0})
    through_unbroken = by (place_of s.namespace (namespace_names ds)) refl
      where
        by_relation : (n r : ℕ) → namespace_numbered n ds ≡ Some s.namespace → first_broken ds (relation_edges ds (read_through s.relation g) (at_number n r)) ≡ Ok (tt {0})
        by_relation n r named = rules_unbroken ds (at_number n r) (read_through s.relation g) (λ y strict place c i p sees. at_rule y strict place p c i sees (relation_numbered (at_number n r) ds) refl)
          where
            at_rule : (y : Relation) (strict : Bool) (place : Place) (p : RelationName) → Contains (history_numbered (at_number n r) ds) y → Contains (places false y.expression) (strict, place)
                → read_through s.relation g place ≡ Some p → (o : Option Relation) → relation_numbered (at_number n r) ds ≡ o
                → is_broken_between (stratum_numbered ds (at_number n r)) (stratum_of ds (relation_named p.namespace p.relation)) strict ≡ false
            at_rule y strict place p c i sees None is = absurd (not_in_nil y (rw (is, named) at c))
            at_rule y strict place p c i sees (Some x) is =
                let had : Contains (history s.namespace x.name ds) y = rw (is, named) at c in
                let stratum : Some y.stratum ≡ stratum_numbered ds (at_number n r) =
                its_stratum ds s.namespace x.name y w had ∙ stratum_by_names ds (at_number n r) s.namespace x.name w (sym named) (ap (option_map (λ (z : Relation). z.name)) (sym is)) in
                subst (λ (k : Option ℕ). is_broken_between k (stratum_of ds (relation_named p.namespace p.relation)) strict ≡ false) stratum (through_place x.name y strict place p had i sees)

        by : (o : Option ℕ) → place_of s.namespace (namespace_names ds) ≡ o → first_broken ds (tuple_to_edges ds s g) ≡ Ok (tt {0})
        by None is = rw is refl
        by (Some n) is =
            rw is (flat_unbroken ds (λ (r : ℕ). relation_edges ds (read_through s.relation g) (at_number n r)) (range_with_len 1 (length (relations_in ds n)))
            (λ r c. by_relation n r (placed s.namespace (namespace_names ds) n is)))

pub tuple_unbroken : (ds : List Declaration) (reads : Reads) (t : TupleValue) → IsWellFormed ds → HasRead reads ds → Fits ds reads t → first_broken ds (tuple_edges ds t) ≡ Ok (tt {0})
tuple_unbroken ds reads t w read fits = by t.user refl
  where
    by : (u : User) → t.user ≡ u → first_broken ds (user_edges ds t.set u) ≡ Ok (tt {0})
    by (Id n) user = refl
    by (Set g) user =
        edges_joined ds (this_edges ds t.set g) (tuple_to_edges ds t.set g)
        ∙ rw (
          this_unbroken ds reads w read t.set g (fits.own g user).1,
          through_unbroken ds reads w read t.set g (λ e i n m. fits.through g e user i n m),
        ) refl

pub all_unbroken : (ds : List Declaration) (reads : Reads) (ts : List TupleValue) → IsWellFormed ds → HasRead reads ds → AllFit ds reads ts → first_broken ds (edges_of_tuples ds ts) ≡ Ok (tt {0})
all_unbroken ds reads ts w read fit = flat_unbroken ds (tuple_edges ds) ts (λ t c. tuple_unbroken ds reads t w read (fit t c))
