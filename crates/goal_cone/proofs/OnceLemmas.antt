-- The leaves of rules, where these stand.
use Rattle.std.proofs.Common.{◌≡◌, refl, ℕ, zero, suc, ◌<◌, ◌≤◌, List, length, slice_get, sym, ap, [], ◌∷◌, ◌++◌, Option, None, Some, inl, inr, subst, true, ◌&&◌, nat_eq, arith}
use Rattle.std.proofs.lemmas.Bool.{eqb-true}
use Rattle.std.proofs.lemmas.List.Elements.{Contains-append_cases}
use Rattle.std.proofs.lemmas.Option.{get_or_from_slice_get, slice_get_within}
use Rattle.std.specs.Prelude.{Contains, map}
use Rattle.namespaces.specs.Declaration.{Declaration}
use Rattle.rewrites.specs.Expression.{Expression}
use Rattle.rewrites.specs.Leaves.{AreLeavesOf, leaves_in}
use Rattle.rewrites.specs.Plain.{IsThinned, leaves}
use Rattle.rewrites.proofs.ThinnedLemmas.{thinned_then}
use Rattle.namespaces.specs.Lookup.{expression_in}
use Rattle.namespaces.specs.declared.number.RulePlace.{RulePlace}
use Rattle.rewrites.proofs.Names.{and_true}
use Rattle.strata.proofs.Lists.{Contains-cons_cases}
use Rattle.goal_cone.specs.Leaves.{ArePlaced, HaveLeavesOf, IsNoted, IsPlaced, numbered, read_shown}
use Rattle.goal_cone.specs.declared.leaves.PlacedLeaves.{PlacedLeaves}
use Rattle.goal_cone.specs.declared.leaves.ReadPart.{ReadPart}

pub numbered_at : (placed : List PlacedLeaves) (n : ℕ) (p : PlacedLeaves) → slice_get placed n ≡ Some p
    → numbered n (map (λ p. read_shown p.parts.items) placed) ≡ read_shown p.parts.items
numbered_at [] n p at = absurd cc
numbered_at (q ∷ qs) zero p at = let both : Some q ≡ Some p = at in let same : q ≡ p = cc in ap (λ (x : PlacedLeaves). read_shown x.parts.items) same
numbered_at (q ∷ qs) (suc n) p at = numbered_at qs n p at

pub numbered_nowhere : (placed : List PlacedLeaves) (n : ℕ) → length placed ≤ n → numbered n (map (λ p. read_shown p.parts.items) placed) ≡ []
numbered_nowhere [] n few = refl
numbered_nowhere (q ∷ qs) zero few = absurd (omega (arith, few))
numbered_nowhere (q ∷ qs) (suc n) few = numbered_nowhere qs n (omega (arith, few))

-- those that stand at a number are the leaves of the rule at their place
pub found_leaves : (ds : List Declaration) (placed : List PlacedLeaves) (n : ℕ) (p : PlacedLeaves) (place : RulePlace)
    → ArePlaced ds placed → slice_get placed n ≡ Some p → p.place ≡ place
    → HaveLeavesOf (numbered n (map (λ p. read_shown p.parts.items) placed)) (expression_in place ds)
found_leaves ds placed n p place are at stands =
    let within : n < length placed = slice_get_within placed n p at in
    subst (λ (es : List Expression). HaveLeavesOf es (expression_in place ds)) (sym (numbered_at placed n p at))
    (subst (λ (x : RulePlace). HaveLeavesOf (read_shown p.parts.items) (expression_in x ds)) stands
    (are p (n, within, get_or_from_slice_get placed n p p at)).leaves)

pub same_place : (p q : RulePlace) → nat_eq p.line q.line && nat_eq p.relation q.relation ≡ true → p ≡ q
same_place p q h =
    let both = and_true (nat_eq p.line q.line) (nat_eq p.relation q.relation) h in
    λ i. record { line = eqb-true p.line q.line both.0 i; relation = eqb-true p.relation q.relation both.1 i }

pub one_placed_more : (ds : List Declaration) (placed : List PlacedLeaves) (p : PlacedLeaves) → ArePlaced ds placed
    → IsPlaced ds p → ArePlaced ds (placed ++ p ∷ [])
one_placed_more ds placed p are is q there =
    elim (Contains-append_cases placed (p ∷ []) q there) [
      | inl before ↦ are q before
      | inr last ↦ subst (IsPlaced ds) (only q last) is
    ]
  where
    only : (q : PlacedLeaves) → Contains (p ∷ []) q → p ≡ q
    only q last = elim (Contains-cons_cases p [] q last) [ inl is ↦ is | inr none ↦ absurd (omega (arith, none.1)) ]

pub grouped : (ps es : List Expression) (o : Option Expression) → IsThinned (leaves_in ps) (leaves_in es) → AreLeavesOf es o → HaveLeavesOf ps o
grouped ps es None thin are = subst (λ (xs : List Expression). IsThinned (leaves_in ps) (leaves_in xs)) are thin
grouped ps es (Some e) thin are = thinned_then (leaves_in ps) (leaves_in es) (leaves e) thin are

-- what is noted of parts, and of one more
pub one_noted_more : (ds : List Declaration) (rs : List ReadPart) (r : ReadPart) → ((x : ReadPart) → Contains rs x → IsNoted ds x) → IsNoted ds r
    → (x : ReadPart) → Contains (rs ++ r ∷ []) x → IsNoted ds x
one_noted_more ds rs r are is x there =
    elim (Contains-append_cases rs (r ∷ []) x there) [
      | inl before ↦ are x before
      | inr last ↦ elim (Contains-cons_cases r [] x last) [ inl same ↦ subst (IsNoted ds) same is | inr none ↦ absurd (omega (arith, none.1)) ]
    ]
