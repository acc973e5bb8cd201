-- Names and numbers, and what was declared of the relation that has a number.
use Rattle.std.proofs.Common.{◌≡◌, ℕ, zero, suc, ◌-◌, ◌≤◌, ◌==◌, nat_lt, true, false, List, [], ◌∷◌, length, slice_get, filter, Option, None, Some, option_map, option_and_then, unwrap_or, refl, sym, ◌∙◌, arith}
use Rattle.std.proofs.lemmas.Bool.Decides.{nat_tests}
use Rattle.std.specs.Str.{bytes_eq}
use Rattle.std.specs.List.{AllByRecursion}
use Rattle.namespaces.specs.Declaration.{Relation, Declaration}
use Rattle.namespaces.specs.Lookup.{relation_named, relation_names, relations_of, history, item_at, namespace_numbered, history_numbered}
use Rattle.namespaces.specs.Adding.{has_repeats}
use Rattle.namespaces.specs.WellFormed.{IsFit, IsWellFormed}
use Rattle.namespaces.specs.Index.{revisions_of}
use Rattle.namespaces.specs.declared.index.Revision.{Revision}
use Rattle.namespaces.specs.declared.number.RelNo.{RelNo}
use Rattle.rewrites.proofs.Names.{by_bool}
use Rattle.namespaces.proofs.Times.{IsKeptIn, newest_keeps, not_named, from_one}
use Rattle.namespaces.proofs.Kept.{named_before, keeps_names-length}
use Rattle.namespaces.proofs.Revisions.{picked, revisions_lead}

get_past : {X : Type 0} (xs : List X) (i : ℕ) → nat_lt i (length xs) ≡ false → slice_get xs i ≡ None
get_past [] i h = refl
get_past (x ∷ xs) zero h = let no : nat_lt 0 (length (x ∷ xs)) ≡ false = h in absurd (grind (arith, nat_tests))
get_past (x ∷ xs) (suc i) h = let no : nat_lt (suc i) (length (x ∷ xs)) ≡ false = h in let later : nat_lt i (length xs) ≡ false = grind (arith, nat_tests) in get_past xs i later

get_within : {X : Type 0} (xs : List X) (i : ℕ) → nat_lt i (length xs) ≡ true → (x : X) × (slice_get xs i ≡ Some x)
get_within [] i h = let no : nat_lt i 0 ≡ true = h in absurd (grind (arith, nat_tests))
get_within (x ∷ xs) zero h = (x, refl)
get_within (x ∷ xs) (suc i) h = let no : nat_lt (suc i) (length (x ∷ xs)) ≡ true = h in let later : nat_lt i (length xs) ≡ true = grind (arith, nat_tests) in get_within xs i later

-- What was declared of a relation is what stands at its place, in each declaration that reaches so far.
module _ (q : List ℕ) (r : Relation) (rs : List Relation) (i : ℕ) (once : has_repeats (relation_names rs) ≡ false) (place : slice_get rs i ≡ Some r) where
  one_more : (x : Relation) (hs : List Relation) (d : Declaration) (ds : List Declaration) (k : ℕ) → slice_get d.relations i ≡ Some x
      → ((j : ℕ) → slice_get hs j ≡ option_and_then (λ c. slice_get c.relations i) (slice_get ds j)) → slice_get (x ∷ hs) k ≡ option_and_then (λ c. slice_get c.relations i) (slice_get (d ∷ ds) k)
  one_more x hs d ds zero here later = sym here
  one_more x hs d ds (suc k) here later = later k

  history-placed : (ds : List Declaration) (k : ℕ) → AllByRecursion (λ e. bytes_eq q e.name ≡ true → IsKeptIn rs e) ds
      → slice_get (history q r.name ds) k ≡ option_and_then (λ d. slice_get d.relations i) (slice_get (picked (λ a n. nat_lt i n) q ds) k)
  history-placed [] k kept = refl
  history-placed (d ∷ ds) k kept = by_bool (bytes_eq q d.name)
      (λ t.
      let here = named_before r d.relations rs i (kept.0 t).names once place in
      by_bool (nat_lt i (length d.relations))
      (λ u.
      let found = get_within d.relations i u in
      let named : relation_named r.name d.relations ≡ Some found.0 = here ∙ found.1 in
      rw (t, u, named) (one_more found.0 (history q r.name ds) d (picked (λ a n. nat_lt i n) q ds) k found.1 (λ j. history-placed ds j kept.1)))
      (λ u. let named : relation_named r.name d.relations ≡ None = here ∙ get_past d.relations i u in rw (t, u, named) (history-placed ds k kept.1)))
      (λ f. rw f (history-placed ds k kept.1))

-- where the last declaration does not reach so far, none does
beyond : (q : List ℕ) (rs : List Relation) (i : ℕ) (ds : List Declaration) → slice_get rs i ≡ None → AllByRecursion (λ e. bytes_eq q e.name ≡ true → IsKeptIn rs e) ds → picked (λ a n. nat_lt i n) q ds ≡ []
beyond q rs i [] none kept = refl
beyond q rs i (d ∷ ds) none kept =
    let later = beyond q rs i ds none kept.1 in
    by_bool (bytes_eq q d.name)
    (λ t.
    let longest : nat_lt i (length rs) ≡ false = by_bool (nat_lt i (length rs)) (λ u. let found = get_within rs i u in let no : None ≡ Some found.0 = sym none ∙ found.1 in cc) (λ u. u) in
    let longer = keeps_names-length d.relations rs (kept.0 t).names in
    let short : nat_lt i (length d.relations) ≡ false = grind (arith, nat_tests) in
    rw (t, short) later)
    (λ f. rw f later)

then_map : {X Y Z : Type 0} (f : X → Y) (g : Y → Option Z) (o : Option X) → option_and_then (λ x. g (f x)) o ≡ option_and_then g (option_map f o)
then_map f g None = refl
then_map f g (Some x) = refl

-- what stands at a place of the declarations to which the revisions lead that reach so far
abbrev pub placed : List ℕ → ℕ → ℕ → List Declaration → Option Relation
placed q i k ds =
    option_and_then (λ v. option_and_then (λ rs. slice_get rs i) (option_map (λ (d : Declaration). d.relations) (slice_get ds v.line)))
    (slice_get (filter (λ (v : Revision). nat_lt i v.relations) (revisions_of q ds)) k)

led : (i : ℕ) (f : Revision → Option Declaration) (o : Option Revision)
    → option_and_then (λ d. slice_get d.relations i) (option_and_then f o) ≡ option_and_then (λ v. option_and_then (λ rs. slice_get rs i) (option_map (λ (d : Declaration). d.relations) (f v))) o
led i f None = refl
led i f (Some v) = then_map (λ (d : Declaration). d.relations) (λ rs. slice_get rs i) (f v)

picked-placed : (q : List ℕ) (i k : ℕ) (ds : List Declaration) → option_and_then (λ d. slice_get d.relations i) (slice_get (picked (λ a n. nat_lt i n) q ds) k) ≡ placed q i k ds
picked-placed q i k ds = rw (revisions_lead (λ a n. nat_lt i n) q ds k) (led i (λ v. slice_get ds v.line) (slice_get (filter (λ (v : Revision). nat_lt i v.relations) (revisions_of q ds)) k))

nothing-placed : (q : List ℕ) (rs : List Relation) (i k : ℕ) (ds : List Declaration) → slice_get rs i ≡ None → AllByRecursion (λ e. bytes_eq q e.name ≡ true → IsKeptIn rs e) ds → None ≡ placed q i k ds
nothing-placed q rs i k ds none kept = rw (beyond q rs i ds none kept) at (picked-placed q i k ds)

-- by the place of a relation in the last declaration of its namespace
by_place : (q : List ℕ) (i k : ℕ) (ds : List Declaration) (o : Option (List Relation)) (p : Option Relation) → IsWellFormed ds → relations_of q ds ≡ o → option_and_then (λ rs. slice_get rs i) o ≡ p
    → slice_get (unwrap_or (option_map (λ r. history q r.name ds) p) []) k ≡ placed q i k ds
by_place q i k ds None None w found place = nothing-placed q [] i k ds refl (not_named q [] ds found)
by_place q i k ds None (Some r) w found place = cc
by_place q i k ds (Some rs) None w found place = nothing-placed q rs i k ds place (newest_keeps q rs ds w.continued found)
by_place q i k ds (Some rs) (Some r) w found place =
    let one = from_one IsFit q rs ds w.fit found in
    let once : has_repeats (relation_names rs) ≡ false = rw one.shown at one.has.distinct in
    history-placed q r rs i once place ds k (newest_keeps q rs ds w.continued found) ∙ picked-placed q i k ds

-- a number from 1 on is the place after the one counted from 0
pub item_at-place : {X : Type 0} (n i : ℕ) (xs : List X) → 1 ≤ n → n - 1 ≡ i → item_at n xs ≡ slice_get xs i
item_at-place n i xs h is = let away : (n == 0) ≡ false = grind (arith, nat_tests) in rw (away, is) refl

pub same_then : (f g : List Relation → Option Relation) → ((xs : List Relation) → f xs ≡ g xs) → (o : Option (List Relation)) → option_and_then f o ≡ option_and_then g o
same_then f g same None = refl
same_then f g same (Some xs) = same xs

-- what was declared of the relation that has a number
pub history-numbered : (ds : List Declaration) (number : RelNo) (q : List ℕ) (i k : ℕ) → IsWellFormed ds → namespace_numbered number.namespace ds ≡ Some q → 1 ≤ number.relation → number.relation - 1 ≡ i
    → slice_get (history_numbered number ds) k ≡ placed q i k ds
history-numbered ds number q i k w named least is =
    let place = same_then (λ rs. slice_get rs i) (item_at number.relation) (λ xs. sym (item_at-place number.relation i xs least is)) (relations_of q ds) in
    rw named (by_place q i k ds (relations_of q ds) (option_and_then (item_at number.relation) (relations_of q ds)) w refl place)
