-- A sample has the edges of all the tuples that it stands for.
use Rattle.std.proofs.Common.{◌≡◌, ℕ, zero, suc, ◌+◌, ◌<◌, ◌≤◌, List, [], ◌∷◌, ◌++◌, length, take, drop, get_or, add-one, true, Result, Ok, Err, ◌⊎◌, inl, inr, refl, subst, sym, ap, ◌∙◌, append-nil, append_assoc, arith}
use Rattle.std.specs.Prelude.{Contains}
use Rattle.std.specs.Str.{bytes_eq}
use Rattle.std.proofs.Math.Seq.{drop-cons}
use Rattle.std.proofs.lemmas.List.{take_more, take-take}
use Rattle.std.proofs.lemmas.Grind.{flat_map-append}
use Rattle.tuple_text.specs.Tuples.{TupleValue}
use Rattle.tuple_text.specs.declared.users.User.{User}
use Rattle.tuple_text.specs.declared.users.User.TheVariants.{Id, Set}
use Rattle.namespaces.specs.Declaration.{Declaration}
use Rattle.strata.specs.declared.edge.Edge.{Edge}
use Rattle.strata.specs.Edges.{userset_edges, user_edges, tuple_edges, edges_of_tuples, first_broken}
use Rattle.strata.proofs.Lists.{Contains-cons_cases, not_in_nil}
use Rattle.strata.proofs.Walks.{both, edges_joined}
use Rattle.rewrites.proofs.Names.{and_true, one_name}
use Rattle.edge_checks.specs.Faults.{Answers}
use Rattle.edge_checks.specs.Sampled.{is_of_relation, is_user_of_kind, is_of_kind, IsSomeOfKind, Represents}
use Rattle.edge_checks.specs.declared.fault.EdgeFault.{EdgeFault}
use Rattle.edge_checks.specs.declared.fault.EdgeFault.TheVariants.{Broken, OutOfMemory}

pub tuples_joined : (ds : List Declaration) (ts us : List TupleValue)
    → first_broken ds (edges_of_tuples ds (ts ++ us)) ≡ both (first_broken ds (edges_of_tuples ds ts)) (first_broken ds (edges_of_tuples ds us))
tuples_joined ds ts us = ap (first_broken ds) (flat_map-append (tuple_edges ds) ts us) ∙ edges_joined ds (edges_of_tuples ds ts) (edges_of_tuples ds us)

-- ---- kinds

-- the edges of a tuple do not turn on its object, nor on the object of its user
edges_of_kind : (ds : List Declaration) (t u : TupleValue) → is_of_kind t u ≡ true → tuple_edges ds t ≡ tuple_edges ds u
edges_of_kind ds t u h =
    let k = and_true (is_of_relation t.set u.set) (is_user_of_kind t.user u.user) h in
    let r = and_true (bytes_eq t.set.namespace u.set.namespace) (bytes_eq t.set.relation u.set.relation) k.0 in
    by_user t.user u.user (one_name t.set.namespace u.set.namespace r.0) (one_name t.set.relation u.set.relation r.1) k.1
  where
    by_user : (x y : User) → t.set.namespace ≡ u.set.namespace → t.set.relation ≡ u.set.relation → is_user_of_kind x y ≡ true
        → user_edges ds t.set x ≡ user_edges ds u.set y
    by_user (Id k) y n r g = cc
    by_user (Set a) (Id k) n r g = cc
    by_user (Set a) (Set b) n r g =
        let p = and_true (bytes_eq a.namespace b.namespace) (bytes_eq a.relation b.relation) g in
        let namespace = one_name a.namespace b.namespace p.0 in
        let relation = one_name a.relation b.relation p.1 in
        λ i. userset_edges ds (record { namespace = n i; id = []; relation = r i }) (record { namespace = namespace i; id = []; relation = relation i })

both_ok : (a b : Result (Unit {0}) Edge) → both a b ≡ Ok (tt {0}) → (a ≡ Ok (tt {0})) × (b ≡ Ok (tt {0}))
both_ok (Ok u) b h = (refl, h)
both_ok (Err e) b h = cc

one_unbroken : (ds : List Declaration) (t : TupleValue) → first_broken ds (edges_of_tuples ds (t ∷ [])) ≡ first_broken ds (tuple_edges ds t)
one_unbroken ds t = ap (first_broken ds) (append-nil (tuple_edges ds t))

-- where no edge of the tuples is broken, none is of one of them
each_unbroken : (ds : List Declaration) (ts : List TupleValue) (t : TupleValue) → Contains ts t → first_broken ds (edges_of_tuples ds ts) ≡ Ok (tt {0})
    → first_broken ds (tuple_edges ds t) ≡ Ok (tt {0})
each_unbroken ds [] t c h = absurd (not_in_nil t c)
each_unbroken ds (x ∷ xs) t c h =
    let parts = both_ok (first_broken ds (tuple_edges ds x)) (first_broken ds (edges_of_tuples ds xs)) (sym (edges_joined ds (tuple_edges ds x) (edges_of_tuples ds xs)) ∙ h) in
    by_cases parts.0 (λ i. each_unbroken ds xs t i parts.1) (Contains-cons_cases x xs t c)
  where
    by_cases : first_broken ds (tuple_edges ds x) ≡ Ok (tt {0}) → (Contains xs t → first_broken ds (tuple_edges ds t) ≡ Ok (tt {0}))
        → (x ≡ t) ⊎ Contains xs t → first_broken ds (tuple_edges ds t) ≡ Ok (tt {0})
    by_cases here step (inl e) = subst (λ (y : TupleValue). first_broken ds (tuple_edges ds y) ≡ Ok (tt {0})) e here
    by_cases here step (inr i) = step i

-- a tuple whose kind is there is as little broken as the sample
pub kind_unbroken : (ds : List Declaration) (sample : List TupleValue) (t : TupleValue) → IsSomeOfKind t sample
    → first_broken ds (edges_of_tuples ds sample) ≡ Ok (tt {0}) → first_broken ds (tuple_edges ds t) ≡ Ok (tt {0})
kind_unbroken ds sample t (u, c, k) h = ap (first_broken ds) (sym (edges_of_kind ds u t k)) ∙ each_unbroken ds sample u c h

-- ---- what a sample stands for

-- a tuple that is never broken before the sample is may be left out
pub left_out : (sample : List TupleValue) (t : TupleValue)
    → ((ds : List Declaration) → first_broken ds (edges_of_tuples ds sample) ≡ Ok (tt {0}) → first_broken ds (tuple_edges ds t) ≡ Ok (tt {0}))
    → Represents sample (sample ++ t ∷ [])
left_out sample t covered ds =
    by (first_broken ds (edges_of_tuples ds sample)) refl ∙ sym (tuples_joined ds sample (t ∷ []))
  where
    by : (r : Result (Unit {0}) Edge) → first_broken ds (edges_of_tuples ds sample) ≡ r → r ≡ both r (first_broken ds (edges_of_tuples ds (t ∷ [])))
    by (Ok u) h = sym (one_unbroken ds t ∙ covered ds h)
    by (Err e) h = refl

pub represents_then : (a b c : List TupleValue) → Represents a (b ++ c) → (d : List TupleValue) → Represents b d → Represents a (d ++ c)
represents_then a b c one d two ds = one ds ∙ tuples_joined ds b c ∙ ap (λ r. both r (first_broken ds (edges_of_tuples ds c))) (two ds) ∙ sym (tuples_joined ds d c)

-- ---- checks, tuple by tuple

-- what the first of two checks refuses, both refuse
pub answers_both : (f : EdgeFault) (r : Result (Unit {0}) EdgeFault) (a b : Result (Unit {0}) Edge) → r ≡ Err f → Answers (Err f) a → Answers r (both a b)
answers_both f r a b is h = subst (λ (x : Result (Unit {0}) EdgeFault). Answers x (both a b)) (sym is) (by f h)
  where
    by : (g : EdgeFault) → Answers (Err g) a → Answers (Err g) (both a b)
    by (Broken e) k = ap (λ (x : Result (Unit {0}) Edge). both x b) k
    by OutOfMemory k = tt

-- without rules there is no edge
no_edge : (ts : List TupleValue) → edges_of_tuples [] ts ≡ []
no_edge [] = refl
no_edge (t ∷ ts) = ap (λ es. es ++ edges_of_tuples [] ts) (none t.user) ∙ no_edge ts
  where
    none : (u : User) → user_edges [] t.set u ≡ []
    none (Id n) = refl
    none (Set g) = refl

pub unbroken_without_rules : (ts : List TupleValue) → first_broken [] (edges_of_tuples [] ts) ≡ Ok (tt {0})
unbroken_without_rules ts = ap (first_broken []) (no_edge ts)

-- where no edge of the tuples is broken, none is of tuple t among them
pub unbroken_at : (ds : List Declaration) (ts : List TupleValue) (i : ℕ) (t : TupleValue) → i < length ts → t ≡ get_or ts i t → first_broken ds (edges_of_tuples ds ts) ≡ Ok (tt {0})
    → first_broken ds (tuple_edges ds t) ≡ Ok (tt {0})
unbroken_at ds [] i t lt is h = absurd (omega (arith, lt))
unbroken_at ds (x ∷ xs) zero t lt is h =
    let parts = both_ok (first_broken ds (tuple_edges ds x)) (first_broken ds (edges_of_tuples ds xs)) (sym (edges_joined ds (tuple_edges ds x) (edges_of_tuples ds xs)) ∙ h) in
    subst (λ (y : TupleValue). first_broken ds (tuple_edges ds y) ≡ Ok (tt {0})) (sym is) parts.0
unbroken_at ds (x ∷ xs) (suc i) t lt is h =
    let parts = both_ok (first_broken ds (tuple_edges ds x)) (first_broken ds (edges_of_tuples ds xs)) (sym (edges_joined ds (tuple_edges ds x) (edges_of_tuples ds xs)) ∙ h) in
    let less : i < length xs = omega (arith, lt) in
    unbroken_at ds xs i t less is parts.1

-- a walk over the tuples, at tuple t
module _ (ds : List Declaration) (ts : List TupleValue) (i : ℕ) (t : TupleValue) (lt : i < length ts) (is : t ≡ get_or ts i t) where
  pub edges_step : first_broken ds (edges_of_tuples ds (drop i ts)) ≡ both (first_broken ds (tuple_edges ds t)) (first_broken ds (edges_of_tuples ds (drop (i + 1) ts)))
  edges_step =
      ap (λ xs. first_broken ds (edges_of_tuples ds xs)) (drop-cons ts i t lt ∙ ap (λ (x : TupleValue). x ∷ drop (suc i) ts) (sym is))
      ∙ edges_joined ds (tuple_edges ds t) (edges_of_tuples ds (drop (suc i) ts))
      ∙ ap (λ (n : ℕ). both (first_broken ds (tuple_edges ds t)) (first_broken ds (edges_of_tuples ds (drop n ts)))) (sym (add-one i))

  pub taken_step : (first sample now : List TupleValue) → Represents sample (first ++ take i ts) → Represents now (sample ++ t ∷ []) → Represents now (first ++ take (i + 1) ts)
  taken_step first sample now had new =
      let more : take (i + 1) ts ≡ take i ts ++ t ∷ [] = take_more ts i t lt ∙ ap (λ (x : TupleValue). take i ts ++ x ∷ []) (sym is) in
      subst (Represents now) (append_assoc first (take i ts) (t ∷ []) ∙ ap (λ xs. first ++ xs) (sym more)) (represents_then now sample (t ∷ []) new (first ++ take i ts) had)

pub unbroken_step : (ds : List Declaration) (sample now : List TupleValue) (t : TupleValue) → first_broken ds (edges_of_tuples ds sample) ≡ Ok (tt {0})
    → first_broken ds (tuple_edges ds t) ≡ Ok (tt {0}) → Represents now (sample ++ t ∷ []) → first_broken ds (edges_of_tuples ds now) ≡ Ok (tt {0})
unbroken_step ds sample now t was fine new =
    new ds ∙ tuples_joined ds sample (t ∷ []) ∙ rw (was, one_unbroken ds t, fine) refl

short_take : (n : ℕ) (xs : List TupleValue) → length (take n xs) ≤ length xs
short_take zero xs = omega arith
short_take (suc n) [] = omega arith
short_take (suc n) (x ∷ xs) = let less = short_take n xs in omega (arith, less)

pub kept_step : (first sample now : List TupleValue) → take (length first) sample ≡ first → take (length sample) now ≡ sample → take (length first) now ≡ first
kept_step first sample now had new =
    let short : length first ≤ length sample = let n = short_take (length first) sample in let m = ap length had in omega (arith, n, m) in
    sym (take-take (length first) (length sample) now short) ∙ ap (take (length first)) new ∙ had
