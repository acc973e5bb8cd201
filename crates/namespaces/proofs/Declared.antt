-- What callers may draw from the declarations: a relation keeps its stratum, stays declared, and has a number.
use Rattle.std.proofs.Common.{◌≡◌, ℕ, zero, suc, ◌+◌, ◌-◌, ◌≤◌, ◌==◌, nat_le, true, false, List, [], ◌∷◌, length, slice_get, Bool, find, position, nat_lt, Option, None, Some, option_and_then, is_some, refl, sym, ap, ◌∙◌, arith}
use Rattle.std.proofs.lemmas.Option.{slice_get_within}
use Rattle.std.proofs.lemmas.List.Folds.{find_at}
use Rattle.std.proofs.lemmas.Bool.Decides.{nat_tests}
use Rattle.std.specs.Str.{bytes_eq}
use Rattle.std.specs.Option.{option_or}
use Rattle.std.specs.List.{AllByRecursion, cons_option, list_any, position_or_len}
use Rattle.std.specs.Cmp.{unsigned_Decides}
use Rattle.namespaces.specs.Declaration.{Relation, Declaration}
use Rattle.namespaces.specs.Lookup.{relation_named, declared_in, history, history_numbered, relations_of, relation_of, in_force, relation_at, namespace_names, namespace_numbered, relation_numbered, relation_names, number_of, item_at}
use Rattle.namespaces.specs.Adding.{is_declared}
use Rattle.namespaces.specs.Changing.{keeps_names, keeps_strata}
use Rattle.namespaces.specs.WellFormed.{IsWellFormed}
use Rattle.namespaces.specs.declared.number.RelNo.{RelNo}
use Rattle.rewrites.proofs.Names.{by_bool, one_name, and_true}
use Rattle.namespaces.proofs.Kept.{absent_before}
use Rattle.namespaces.proofs.Times.{IsKeptIn, newest_keeps, not_named}
use Rattle.namespaces.proofs.Growth.{is_declared-names}
use Rattle.namespaces.proofs.Numbering.{item_at-place}
use Rattle.namespaces.proofs.Indexes.{position-map}

-- x stands somewhere in the list
pub record IsPlaced {X : Type 0} (xs : List X) (x : X) : Type 0 where
  pub place : ℕ
  pub there : slice_get xs place ≡ Some x

-- ---- one stratum

same_stratum : (r : List ℕ) (old new : List Relation) (y x : Relation) → keeps_names old new ≡ true → keeps_strata old new ≡ true → relation_named r old ≡ Some y → relation_named r new ≡ Some x → y.stratum ≡ x.stratum
same_stratum r [] new y x names strata was is = cc
same_stratum r (o ∷ os) [] y x names strata was is = cc
same_stratum r (o ∷ os) (s ∷ ss) y x names strata was is =
    let n = and_true (bytes_eq o.name s.name) (keeps_names os ss) names in
    let t = and_true (o.stratum == s.stratum) (keeps_strata os ss) strata in
    by_bool (bytes_eq r o.name)
    (λ u.
    let same : bytes_eq r s.name ≡ true = rw (← one_name o.name s.name n.0) u in
    let old_one : o ≡ y = let e : Some o ≡ Some y = rw u at was in cc in
    let new_one : s ≡ x = let e : Some s ≡ Some x = rw same at is in cc in
    rw (← old_one, ← new_one) ((unsigned_Decides o.stratum s.stratum).0 t.0))
    (λ u.
    let other : bytes_eq r s.name ≡ false = rw (← one_name o.name s.name n.0) u in
    same_stratum r os ss y x n.1 t.1 (rw u at was) (rw other at is))

rule_known : (q r : List ℕ) (rs : List Relation) (x : Relation) (d : Declaration) (o : Option Relation) (ys : List Relation) → (bytes_eq q d.name ≡ true → IsKeptIn rs d) → relation_named r rs ≡ Some x → declared_in q r d ≡ o
    → AllByRecursion (λ y. y.stratum ≡ x.stratum) ys → AllByRecursion (λ y. y.stratum ≡ x.stratum) (cons_option o ys)
rule_known q r rs x d None ys kept found here later = later
rule_known q r rs x d (Some y) ys kept found here later = (
  by_bool (bytes_eq q d.name)
      (λ t. same_stratum r d.relations rs y x (kept t).names (kept t).strata (rw t at here) found)
      (λ f. let none : None ≡ Some y = rw f at here in cc),
  later,
)

-- each rule of a relation, at any time, has the stratum of the last one
pub one_stratum : (ds : List Declaration) (q r : List ℕ) (x : Relation) → IsWellFormed ds → relation_of q r ds ≡ Some x → AllByRecursion (λ y. y.stratum ≡ x.stratum) (history q r ds)
one_stratum ds q r x w found = by (relations_of q ds) refl found
  where
    all : (rs : List Relation) (es : List Declaration) → AllByRecursion (λ e. bytes_eq q e.name ≡ true → IsKeptIn rs e) es → relation_named r rs ≡ Some x → AllByRecursion (λ y. y.stratum ≡ x.stratum) (history q r es)
    all rs [] kept named = tt
    all rs (e ∷ es) kept named = rule_known q r rs x e (declared_in q r e) (history q r es) kept.0 named refl (all rs es kept.1 named)

    by : (o : Option (List Relation)) → relations_of q ds ≡ o → option_and_then (relation_named r) o ≡ Some x → AllByRecursion (λ y. y.stratum ≡ x.stratum) (history q r ds)
    by None e f = cc
    by (Some rs) e f = all rs ds (newest_keeps q rs ds w.continued e) f

-- ---- the rule in force

further : (o : Option Relation) (ys : List Relation) (x : Relation) → IsPlaced ys x → IsPlaced (cons_option o ys) x
further None ys x p = p
further (Some y) ys x p = record { place = suc p.place; there = p.there }

first : (o : Option Relation) (ys : List Relation) (x : Relation) → o ≡ Some x → IsPlaced (cons_option o ys) x
first None ys x h = cc
first (Some y) ys x h = record { place = 0; there = h }

pub one_of : (o p : Option Relation) (x : Relation) (A : Type 0) → option_or o p ≡ Some x → (o ≡ Some x → A) → (p ≡ Some x → A) → A
one_of None p x A h later here = here h
one_of (Some y) p x A h later here = later h

-- it is one of those that were declared of the relation
pub in_force_placed : (ds : List Declaration) (at : ℕ) (q r : List ℕ) (x : Relation) → relation_at ds at q r ≡ Some x → IsPlaced (history q r ds) x
in_force_placed [] at q r x h = cc
in_force_placed (d ∷ ds) at q r x h =
    one_of (relation_at ds at q r) (in_force at q r d) x (IsPlaced (history q r (d ∷ ds)) x) h
    (λ later. further (declared_in q r d) (history q r ds) x (in_force_placed ds at q r x later))
    (λ here. first (declared_in q r d) (history q r ds) x (by_bool (nat_le d.at at) (λ t. rw t at here) (λ f. let none : None ≡ Some x = rw f at here in cc)))

-- ---- once declared, for good

pub named_since : (r : List ℕ) (old new : List Relation) (y : Relation) (o : Option Relation) → keeps_names old new ≡ true → relation_named r old ≡ Some y → relation_named r new ≡ o → (x : Relation) × (o ≡ Some x)
named_since r old new y (Some x) names was is = (x, refl)
named_since r old new y None names was is = let none = absent_before r old new names is in let no : None ≡ Some y = sym none ∙ was in cc

module _ (q r : List ℕ) (rs : List Relation) (y : Relation) where
  since_step : (e : Declaration) (ys : List Relation) (k : ℕ) (o : Option Relation) → (bytes_eq q e.name ≡ true → IsKeptIn rs e) → declared_in q r e ≡ o → ((j : ℕ) → slice_get ys j ≡ Some y → (x : Relation) × (relation_named r rs ≡ Some x))
      → slice_get (cons_option o ys) k ≡ Some y → (x : Relation) × (relation_named r rs ≡ Some x)
  since_step e ys k None kept here later at = later k at
  since_step e ys (suc k) (Some z) kept here later at = later k at
  since_step e ys zero (Some z) kept here later at = by_bool (bytes_eq q e.name)
      (λ t. named_since r e.relations rs z (relation_named r rs) (kept t).names (rw t at here) refl)
      (λ f. let none : None ≡ Some z = rw f at here in cc)

  since : (es : List Declaration) (k : ℕ) → AllByRecursion (λ e. bytes_eq q e.name ≡ true → IsKeptIn rs e) es → slice_get (history q r es) k ≡ Some y → (x : Relation) × (relation_named r rs ≡ Some x)
  since [] k kept at = cc
  since (e ∷ es) k kept at = since_step e (history q r es) k (declared_in q r e) kept.0 refl (λ j h. since es j kept.1 h) at

-- a relation of which something was declared is in the last declaration of its namespace
pub stays_declared : (ds : List Declaration) (q r : List ℕ) (y : Relation) → IsWellFormed ds → IsPlaced (history q r ds) y → (x : Relation) × (relation_of q r ds ≡ Some x)
stays_declared ds q r y w placed = by (relations_of q ds) refl
  where
    by : (o : Option (List Relation)) → relations_of q ds ≡ o → (x : Relation) × (option_and_then (relation_named r) o ≡ Some x)
    by None e = let no = since q r [] y ds placed.place (not_named q [] ds e) placed.there in let none : None ≡ Some no.0 = no.1 in cc
    by (Some rs) e = since q r rs y ds placed.place (newest_keeps q rs ds w.continued e) placed.there

-- ---- numbers

-- what a search finds stands at the first place that passes
found_place : {X : Type 0} (p : X → Bool) (xs : List X) (x : X) → find p xs ≡ Some x → (i : ℕ) × (position p xs ≡ Some i) × (slice_get xs i ≡ Some x)
found_place p xs x h =
    let there : slice_get xs (position_or_len p xs) ≡ Some x = sym (find_at p xs) ∙ h in
    let within : nat_lt (position_or_len p xs) (length xs) ≡ true = (let below = slice_get_within xs (position_or_len p xs) x there in grind (arith, nat_tests)) in
    (position_or_len p xs, rw within refl, there)

found_name : (q : List ℕ) (ns : List (List ℕ)) → list_any (bytes_eq q) ns ≡ true → find (bytes_eq q) ns ≡ Some q
found_name q [] h = cc
found_name q (n ∷ ns) h = by_bool (bytes_eq q n)
    (λ t. rw t (ap Some (sym (one_name q n t))))
    (λ f. rw f (found_name q ns (rw f at h)))

-- a relation that is declared, with its number
pub record IsNumbered (ds : List Declaration) (q r : List ℕ) (x : Relation) : Type 0 where
  pub number : RelNo
  pub is : number_of q r ds ≡ Some number
  pub namespace : namespace_numbered number.namespace ds ≡ Some q
  pub relation : relation_numbered number ds ≡ Some x

at_place : {X : Type 0} (n : ℕ) (xs : List X) → item_at (n + 1) xs ≡ slice_get xs n
at_place n xs = let least : 1 ≤ n + 1 = omega arith in let before : n + 1 - 1 ≡ n = omega arith in item_at-place (n + 1) n xs least before

number_at : (ds : List Declaration) (q r : List ℕ) (rs : List Relation) (i j : ℕ)
    → position (bytes_eq q) (namespace_names ds) ≡ Some i → relations_of q ds ≡ Some rs → position (bytes_eq r) (relation_names rs) ≡ Some j
    → number_of q r ds ≡ Some (record { namespace = i + 1; relation = j + 1 })
number_at ds q r rs i j namespace here relation = rw (namespace, here, relation) refl

pub numbered : (ds : List Declaration) (q r : List ℕ) (x : Relation) → relation_of q r ds ≡ Some x → IsNumbered ds q r x
numbered ds q r x found = by (relations_of q ds) refl found
  where
    by : (o : Option (List Relation)) → relations_of q ds ≡ o → option_and_then (relation_named r) o ≡ Some x → IsNumbered ds q r x
    by None e f = cc
    by (Some rs) e f =
        let declared : is_declared q ds ≡ true = ap is_some e in
        let n = found_place (bytes_eq q) (namespace_names ds) q (found_name q (namespace_names ds) (is_declared-names q ds ∙ declared)) in
        let p = found_place (λ (y : Relation). bytes_eq r y.name) rs x f in
        let named : namespace_numbered (n.0 + 1) ds ≡ Some q = at_place n.0 (namespace_names ds) ∙ n.2 in
        let place : position (bytes_eq r) (relation_names rs) ≡ Some p.0 = position-map (bytes_eq r) (λ (y : Relation). y.name) rs ∙ p.1 in
        record {
          number = record { namespace = n.0 + 1; relation = p.0 + 1 };
          is = number_at ds q r rs n.0 p.0 n.1 e place;
          namespace = named;
          relation = rw (named, e) (at_place p.0 rs ∙ p.2);
        }

placed_relation : (r : List ℕ) (rs : List Relation) (x : Relation) → relation_named r rs ≡ Some x → x.name ≡ r
placed_relation r [] x h = cc
placed_relation r (s ∷ ss) x h = by_bool (bytes_eq r s.name)
    (λ t. let same : s ≡ x = let e : Some s ≡ Some x = rw t at h in cc in rw (← same) (sym (one_name r s.name t)))
    (λ f. placed_relation r ss x (rw f at h))

named_so : (q r : List ℕ) (x : Relation) (o : Option (List Relation)) → option_and_then (relation_named r) o ≡ Some x → x.name ≡ r
named_so q r x None h = cc
named_so q r x (Some rs) h = placed_relation r rs x h

-- what was declared of a relation is what was declared of its number
pub history_of_number : (ds : List Declaration) (q r : List ℕ) (x : Relation) (number : RelNo) → relation_of q r ds ≡ Some x → namespace_numbered number.namespace ds ≡ Some q → relation_numbered number ds ≡ Some x → history_numbered number ds ≡ history q r ds
history_of_number ds q r x number found namespace relation = rw (relation, namespace, named_so q r x (relations_of q ds) found) refl
