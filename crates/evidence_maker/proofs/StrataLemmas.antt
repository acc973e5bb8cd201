-- The stratum of a rule in force is that of its relation, at any time.
use Rattle.std.proofs.Common.{◌≡◌, ℕ, zero, suc, ◌≤◌, ◌<◌, List, [], ◌∷◌, Option, None, Some, option_map, slice_get, get_or, map, length, refl, sym, ◌∙◌, ap, subst, arith, ◌↔◌}
use Rattle.std.specs.Prelude.{Contains}
use Rattle.std.specs.List.{AllByRecursion}
use Rattle.std.proofs.lemmas.List.{length-map}
use Rattle.tuple_text.specs.Tuples.{FactValue}
use Rattle.namespaces.specs.Declaration.{Relation, Declaration}
use Rattle.rewrites.specs.Expression.{Expression}
use Rattle.namespaces.specs.Lookup.{Rule, Lookup, rule_of, relation_of, relation_at, as_rule, rule_at, history}
use Rattle.namespaces.specs.WellFormed.{IsWellFormed}
use Rattle.strata.specs.Strata.{IsAtMost}
use Rattle.namespaces.proofs.Declared.{one_stratum, in_force_placed, stays_declared}
use Rattle.evidence_maker.specs.Making.{HasStratum, stratum_of}

at_place : {X : Type 0} (P : X → Type 0) (xs : List X) (i : ℕ) (x : X) → AllByRecursion P xs → slice_get xs i ≡ Some x → P x
at_place {X} P [] i x all h = absurd (cc)
at_place {X} P (y ∷ ys) zero x all h = let there : Some y ≡ Some x = h in let e : y ≡ x = cc in subst P e all.0
at_place {X} P (y ∷ ys) (suc i) x all h = at_place P ys i x all.1 h

pub stratum_kept : (ds : List Declaration) → IsWellFormed ds → (at : ℕ) (q r : List ℕ) (rule : Rule) → rule_at ds at q r ≡ Some rule
    → option_map (λ (x : Relation). x.stratum) (relation_of q r ds) ≡ Some rule.stratum
stratum_kept ds formed at q r rule found = by_relation (relation_at ds at q r) refl found
  where
    by_relation : (o : Option Relation) → relation_at ds at q r ≡ o → option_map as_rule o ≡ Some rule
        → option_map (λ (x : Relation). x.stratum) (relation_of q r ds) ≡ Some rule.stratum
    by_relation None e h = absurd (cc)
    by_relation (Some y) e h =
        let same : as_rule y ≡ rule = cc in
        let placed = in_force_placed ds at q r y e in
        let last = stays_declared ds q r y formed placed in
        let one : y.stratum ≡ last.0.stratum = at_place (λ (z : Relation). z.stratum ≡ last.0.stratum) (history q r ds) placed.place y (one_stratum ds q r last.0 formed last.1) placed.there in
        ap (λ (o : Option Relation). option_map (λ (x : Relation). x.stratum) o) last.1
        ∙ ap (λ (n : ℕ). Some n) (sym one ∙ ap (λ (z : Rule). z.stratum) same)

-- where a rule is in force, the stratum of the relation is its own
pub stratum_in_force : (ds : List Declaration) → IsWellFormed ds → (at : ℕ) (q r : List ℕ) (x : Expression) (s : Option ℕ)
    → Some x ≡ option_map (λ (rule : Rule). rule.expression) (rule_at ds at q r) → s ≡ option_map (λ (y : Relation). y.stratum) (relation_of q r ds)
    → s ≡ option_map (λ (rule : Rule). rule.stratum) (rule_at ds at q r)
stratum_in_force ds formed at q r x s there same = by_rule (rule_at ds at q r) refl there
  where
    by_rule : (o : Option Rule) → rule_at ds at q r ≡ o → Some x ≡ option_map (λ (rule : Rule). rule.expression) o
        → s ≡ option_map (λ (rule : Rule). rule.stratum) o
    by_rule None e h = absurd (cc)
    by_rule (Some rule) e h = same ∙ stratum_kept ds formed at q r rule e

-- ---- strata of a list

-- what stands at a place of a list's image
image_at : (g : FactValue → Option ℕ) (fs : List FactValue) (i : ℕ) (x : FactValue) → i < length fs → x ≡ get_or fs i x → slice_get (map g fs) i ≡ Some (g x)
image_at g [] i x within at = absurd (omega arith)
image_at g (f ∷ fs) zero x within at = let e : x ≡ f = at in rw e refl
image_at g (f ∷ fs) (suc i) x within at = image_at g fs i x (omega arith) at

module _ (rules : Lookup) (fs : List FactValue) (strata : List (Option ℕ)) (all : strata ≡ map (stratum_of rules) fs) where
  -- the fact at a place is of the stratum that stands there
  pub stands_there : (i : ℕ) (x : FactValue) → i < length fs → x ≡ get_or fs i x → (k : ℕ) → (slice_get strata i ≡ Some (Some k)) ↔ HasStratum rules k x
  stands_there i x within at k = (λ e. there (rule_of rules x.set) refl (sym here ∙ e), λ h. back h)
    where
      here : slice_get strata i ≡ Some (stratum_of rules x)
      here = rw all (image_at (stratum_of rules) fs i x within at)

      there : (o : Option Rule) → rule_of rules x.set ≡ o → Some (option_map (λ (r : Rule). r.stratum) o) ≡ Some (Some k) → HasStratum rules k x
      there None e h = absurd (cc)
      there (Some r) e h = (r, e, let s : r.stratum ≡ k = cc in s)

      back : HasStratum rules k x → slice_get strata i ≡ Some (Some k)
      back h = here ∙ ap (λ (o : Option Rule). Some (option_map (λ (r : Rule). r.stratum) o)) h.1 ∙ ap (λ (n : ℕ). Some (Some n)) h.2

  pub all_at_most : (top : ℕ) → ((k s : ℕ) → k < length strata → slice_get strata k ≡ Some (Some s) → s ≤ top) → (f : FactValue) → Contains fs f → IsAtMost rules top f
  all_at_most top within f c r e =
      within c.0 r.stratum (rw (all, length-map fs (stratum_of rules)) c.1)
      (rw all (image_at (stratum_of rules) fs c.0 f c.1 (sym c.2)) ∙ ap (λ (o : Option Rule). Some (option_map (λ (q : Rule). q.stratum) o)) e)
