-- A search for the cone, fact by fact.
use Rattle.std.proofs.Common.{◌≡◌, ℕ, zero, suc, ◌+◌, ◌≤◌, ◌<◌, List, [], ◌∷◌, ◌++◌, length, take, drop, slice_get, None, Some, ◌⊎◌, inl, inr, refl, subst, sym, ◌∙◌, ap, length-append, arith}
use Rattle.std.specs.Prelude.{Contains, sum_by}
use Rattle.std.proofs.lemmas.List.{drop-append-le, drop_all, take-append-le}
use Rattle.std.proofs.lemmas.List.Elements.{Contains-append_left, Contains-append_right}
use Rattle.std.proofs.lemmas.List.Sums.{sum_by_push, sum_by-take-le}
use Rattle.tuple_text.specs.Tuples.{TupleValue, FactValue}
use Rattle.namespaces.specs.Lookup.{Lookup}
use Rattle.strata.proofs.Lists.{Contains-cons_cases, Contains-here, Contains-there, not_in_nil}
use Rattle.goal_cone.specs.Bounds.{links_of, IsOutgrown}
use Rattle.goal_cone.specs.Cone.{IsMet, HasPremisesOf, HasItsPremises, IsCone, IsExploring, LosesOnly, AreDistinct}
use Rattle.goal_cone.specs.Pass.{IsRead, IsSearching}
use Rattle.goal_cone.specs.Premises.{Reads, ReadsPlainly, ReadsStrictly}
use Rattle.goal_cone.specs.Seen.{Sees, IsStuck}
use Rattle.goal_cone.proofs.Exploring.{exploring_start, exploring_step, exploring_done, premise_needed}
use Rattle.goal_cone.proofs.PremiseLemmas.{some_premise-map, from_reads}
use Rattle.goal_cone.proofs.Weights.{no_heavier, no_longer}

-- what stands at a place
record IsAt (xs : List FactValue) (i : ℕ) (x : FactValue) : Type 0 where
  inside : Contains xs x
  within : suc i ≤ length xs
  rest : drop i xs ≡ x ∷ drop (suc i) xs
  front : take (suc i) xs ≡ take i xs ++ x ∷ []

is_at : (xs : List FactValue) (i : ℕ) (x : FactValue) → slice_get xs i ≡ Some x → IsAt xs i x
is_at [] i x h = absurd (cc)
is_at (y ∷ ys) zero x h =
    let there : Some y ≡ Some x = h in
    let e : y ≡ x = cc in
    record {
      inside = subst (Contains (y ∷ ys)) e (Contains-here y ys);
      within = omega arith;
      rest = ap (λ (z : FactValue). z ∷ ys) e;
      front = ap (λ (z : FactValue). z ∷ []) e;
    }
is_at (y ∷ ys) (suc i) x h = let t = is_at ys i x h in record {
  inside = Contains-there y ys x t.inside;
  within = (let le = t.within in omega arith);
  rest = t.rest;
  front = ap (λ (zs : List FactValue). y ∷ zs) t.front;
}

none_left : (xs : List FactValue) (i : ℕ) → slice_get xs i ≡ None → drop i xs ≡ []
none_left [] i h = drop_all i [] (omega arith)
none_left (y ∷ ys) zero h = absurd (cc)
none_left (y ∷ ys) (suc i) h = none_left ys i h

first_stays : (xs more : List FactValue) (x : FactValue) → slice_get xs 0 ≡ Some x → slice_get (xs ++ more) 0 ≡ Some x
first_stays [] more x h = absurd (cc)
first_stays (y ∷ ys) more x h = h

module _ (rules : Lookup) (store : List TupleValue) where
  -- a rule whose premises are all seen
  met_premises : (f : FactValue) (old new : List FactValue) → Sees rules (IsRead rules store f) old new → HasPremisesOf rules store new f
  met_premises f old new seen r e =
      from_reads store (IsMet rules new) (IsMet rules new) f r.expression
      (λ p s. seen.met p (r, e, plainly p s)) (λ p s. seen.met p (r, e, strictly p s))
    where
      plainly : (p : FactValue) → ReadsPlainly store f r.expression p → Reads store f r.expression p
      plainly p = some_premise-map store (λ q. q ≡ p) (λ _. ⊥) (λ q. q ≡ p) (λ q. q ≡ p) (λ q h. h) (λ q h. absurd h) f r.expression

      strictly : (p : FactValue) → ReadsStrictly store f r.expression p → Reads store f r.expression p
      strictly p = some_premise-map store (λ _. ⊥) (λ q. q ≡ p) (λ q. q ≡ p) (λ q. q ≡ p) (λ q h. absurd h) (λ q h. h) f r.expression

  module _ (most_links : ℕ) (goal : FactValue) where
    pub searching_start : IsSearching most_links rules store goal (goal ∷ []) 0 most_links
    searching_start = record {
      exploring = exploring_start rules store goal;
      first = refl;
      distinct = (not_in_nil goal, tt);
      within = omega arith;
      links = omega arith;
    }

    module _ (seen : List FactValue) (next room : ℕ) (h : IsSearching most_links rules store goal seen next room) where
      pub searching_done : slice_get seen next ≡ None → IsCone rules store goal seen
      searching_done none =
          exploring_done rules store goal seen
          (subst (λ (todo : List FactValue). IsExploring rules store goal seen todo) (none_left seen next none) h.exploring)

      -- a goal whose search goes on has outgrown the bounds
      needed : (D : List FactValue) → Contains D goal → HasItsPremises rules store D → (f : FactValue) → Contains seen f → Contains D f
      needed D holds closed f c = h.exploring.least f c D holds closed

      pub searching_full : (most_facts : ℕ) → most_facts < next → IsOutgrown most_facts most_links rules store goal
      searching_full most_facts lt D facts holds closed = inl (
          let long = no_longer seen D h.distinct (needed D holds closed) in
          let le = h.within in
          omega arith)

      module _ (f : FactValue) (there : slice_get seen next ≡ Some f) where
        pub searching_stuck : (most_facts : ℕ) → (room < links_of rules store f) ⊎ IsStuck most_facts most_links rules store (IsRead rules store f) seen
            → IsOutgrown most_facts most_links rules store goal
        searching_stuck most_facts (inl lt) D facts holds closed = inr (
            let front : sum_by (links_of rules store) (take (suc next) seen) ≡ sum_by (links_of rules store) (take next seen) + links_of rules store f =
            ap (λ (xs : List FactValue). sum_by (links_of rules store) xs) (is_at seen next f there).front ∙ sum_by_push (links_of rules store) (take next seen) f in
            let part = sum_by-take-le (links_of rules store) seen (suc next) in
            let whole = no_heavier (links_of rules store) seen D h.distinct (needed D holds closed) in
            let most = h.links in
            omega arith)
        searching_stuck most_facts (inr stuck) D facts holds closed =
            stuck goal h.distinct h.exploring.least
            (λ p declared read. premise_needed rules store goal f p (h.exploring.least f (is_at seen next f there).inside) (declared, read)) D facts holds closed

        pub searching_step : (new : List FactValue) (later : ℕ) → Sees rules (IsRead rules store f) seen new → room ≤ later + links_of rules store f
            → IsSearching most_links rules store goal new (next + 1) later
        searching_step new later sees le = subst (λ (n : ℕ). IsSearching most_links rules store goal new n later) (let e : suc next ≡ next + 1 = omega arith in e)
            (subst (λ (xs : List FactValue). IsSearching most_links rules store goal xs (suc next) later) (sym sees.split) (record {
              exploring = subst (λ (todo : List FactValue). IsExploring rules store goal (seen ++ sees.more) todo) (sym (drop-append-le (suc next) seen sees.more at.within))
                  (exploring_step rules store goal seen (drop next seen) h.exploring f at.inside sees.more (drop (suc next) seen ++ sees.more)
                  (λ p c. (sees.each p c, Contains-append_right (drop (suc next) seen) sees.more p c))
                  (subst (λ (xs : List FactValue). HasPremisesOf rules store xs f) sees.split (met_premises f seen new sees)) loses);
              first = first_stays seen sees.more goal h.first;
              distinct = subst (λ (xs : List FactValue). AreDistinct xs) sees.split (sees.distinct h.distinct);
              within = (let long = length-append seen sees.more in let w = at.within in omega arith);
              links = links_kept;
            }))
          where
            at : IsAt seen next f
            at = is_at seen next f there

            loses : LosesOnly f (drop next seen) (drop (suc next) seen ++ sees.more)
            loses g c = elim (Contains-cons_cases f (drop (suc next) seen) g (subst (λ (xs : List FactValue). Contains xs g) at.rest c)) [
              | inl e ↦ inl e
              | inr d ↦ inr (Contains-append_left (drop (suc next) seen) sees.more g d)
            ]

            links_kept : most_links ≤ later + sum_by (links_of rules store) (take (suc next) (seen ++ sees.more))
            links_kept =
                let front : sum_by (links_of rules store) (take (suc next) (seen ++ sees.more)) ≡ sum_by (links_of rules store) (take next seen) + links_of rules store f =
                ap (λ (xs : List FactValue). sum_by (links_of rules store) xs) (take-append-le (suc next) seen sees.more at.within ∙ at.front)
                ∙ sum_by_push (links_of rules store) (take next seen) f in
                let most = h.links in
                omega arith
