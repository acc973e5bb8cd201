-- Rules in force at a timestamp, where each declaration continues those before it.
use Rattle.std.proofs.Common.{◌≡◌, ℕ, zero, suc, ◌+◌, ◌<◌, ◌≤◌, nat_le, Bool, true, false, ◌&&◌, cond, List, [], ◌∷◌, length, get_or, Option, None, Some, option_and_then, refl, sym, ◌∙◌, arith}
use Rattle.std.specs.Str.{bytes_eq}
use Rattle.std.specs.Option.{option_or}
use Rattle.std.specs.List.{AllByRecursion}
use Rattle.std.specs.List.Sorted.{IsNonDecreasingBy}
use Rattle.namespaces.specs.Declaration.{Relation, Declaration}
use Rattle.namespaces.specs.Lookup.{relation_named, in_force, relation_at, relations_of}
use Rattle.namespaces.specs.Changing.{keeps_names, keeps_strata}
use Rattle.namespaces.specs.WellFormed.{Continues, AreContinued}
use Rattle.namespaces.specs.Index.{revision, revisions_from, relations_at}
use Rattle.namespaces.specs.declared.index.Revision.{Revision}
use Rattle.rewrites.proofs.Names.{by_bool, clash, one_name, and_true}
use Rattle.namespaces.proofs.Kept.{absent_before, keeps_names-same, keeps_strata-same, keeps_names-length}

-- a declaration of this namespace, with these relations, of which P holds
pub record IsOf (P : Declaration → Type 0) (q : List ℕ) (rs : List Relation) : Type 0 where
  pub which : Declaration
  pub has : P which
  pub named : bytes_eq q which.name ≡ true
  pub shown : which.relations ≡ rs

module _ (P : Declaration → Type 0) (q : List ℕ) (rs : List Relation) where
  from_step : (o : Option (List Relation)) (b : Bool) (d : Declaration) → (o ≡ Some rs → IsOf P q rs) → P d → (b ≡ true → bytes_eq q d.name ≡ true) → option_or o (cond b (Some d.relations) None) ≡ Some rs → IsOf P q rs
  from_step (Some ss) b d later p named found = later found
  from_step None true d later p named found = record { which = d; has = p; named = named refl; shown = cc }
  from_step None false d later p named found = cc

  -- the relations of a namespace are those of one of its declarations
  pub from_one : (ds : List Declaration) → AllByRecursion P ds → relations_of q ds ≡ Some rs → IsOf P q rs
  from_one [] all found = cc
  from_one (d ∷ ds) all found = from_step (relations_of q ds) (bytes_eq q d.name) d (from_one ds all.1) all.0 (λ t. t) found

  -- and so are those in force at a timestamp
  pub from_one_at : (at : ℕ) (ds : List Declaration) → AllByRecursion P ds → relations_at at q ds ≡ Some rs → IsOf P q rs
  from_one_at at [] all found = cc
  from_one_at at (d ∷ ds) all found = from_step (relations_at at q ds) (bytes_eq q d.name && nat_le d.at at) d (from_one_at at ds all.1) all.0 (λ t. (and_true (bytes_eq q d.name) (nat_le d.at at) t).0) found

-- a later declaration of the namespace keeps the names of an earlier one
pub kept_later : (q : List ℕ) (rs : List Relation) (d : Declaration) → bytes_eq q d.name ≡ true → IsOf (λ e. d.name ≡ e.name → Continues d e) q rs → keeps_names d.relations rs ≡ true
kept_later q rs d named found =
    let same : d.name ≡ found.which.name = sym (one_name q d.name named) ∙ one_name q found.which.name found.named in
    rw (← found.shown) (found.has same).names

-- a list of relations has those of a declaration, each with its stratum
pub record IsKeptIn (rs : List Relation) (d : Declaration) : Type 0 where
  pub names : keeps_names d.relations rs ≡ true
  pub strata : keeps_strata d.relations rs ≡ true

kept_in_later : (q : List ℕ) (rs : List Relation) (d : Declaration) → bytes_eq q d.name ≡ true → IsOf (λ e. d.name ≡ e.name → Continues d e) q rs → IsKeptIn rs d
kept_in_later q rs d named found =
    let same : d.name ≡ found.which.name = sym (one_name q d.name named) ∙ one_name q found.which.name found.named in
    rw (← found.shown) (record { names = (found.has same).names; strata = (found.has same).strata })

pub none_or : (o : Option (List Relation)) (b : Bool) (rs : List Relation) → option_or o (cond b (Some rs) None) ≡ None → (o ≡ None) × (b ≡ false)
none_or None true rs h = cc
none_or None false rs h = (refl, refl)
none_or (Some x) b rs h = cc

-- of a namespace that is not declared there is nothing to keep
pub not_named : (q : List ℕ) (rs : List Relation) (ds : List Declaration) → relations_of q ds ≡ None → AllByRecursion (λ e. bytes_eq q e.name ≡ true → IsKeptIn rs e) ds
not_named q rs [] none = tt
not_named q rs (d ∷ ds) none =
    let parts = none_or (relations_of q ds) (bytes_eq q d.name) d.relations none in
    (λ t. clash (bytes_eq q d.name) t parts.1, not_named q rs ds parts.0)

itself : (q : List ℕ) (rs : List Relation) (d : Declaration) → cond (bytes_eq q d.name) (Some d.relations) None ≡ Some rs → bytes_eq q d.name ≡ true → IsKeptIn rs d
itself q rs d found t =
    let some : Some d.relations ≡ Some rs = rw t at found in
    let same : d.relations ≡ rs = cc in
    record { names = rw same (keeps_names-same rs); strata = rw same (keeps_strata-same rs) }

newest_step : (q : List ℕ) (rs : List Relation) (d : Declaration) (ds : List Declaration) (o : Option (List Relation)) → relations_of q ds ≡ o → AllByRecursion (λ e. d.name ≡ e.name → Continues d e) ds
    → (relations_of q ds ≡ Some rs → AllByRecursion (λ e. bytes_eq q e.name ≡ true → IsKeptIn rs e) ds) → option_or o (cond (bytes_eq q d.name) (Some d.relations) None) ≡ Some rs
    → AllByRecursion (λ e. bytes_eq q e.name ≡ true → IsKeptIn rs e) (d ∷ ds)
newest_step q rs d ds None is all rest found = (λ t. itself q rs d found t, not_named q rs ds is)
newest_step q rs d ds (Some ss) is all rest found =
    let there = is ∙ found in
    (λ t. kept_in_later q rs d t (from_one (λ e. d.name ≡ e.name → Continues d e) q rs ds all there), rest there)

-- the last declaration of a namespace has the relations of each
pub newest_keeps : (q : List ℕ) (rs : List Relation) (ds : List Declaration) → AreContinued ds → relations_of q ds ≡ Some rs → AllByRecursion (λ e. bytes_eq q e.name ≡ true → IsKeptIn rs e) ds
newest_keeps q rs [] all found = tt
newest_keeps q rs (d ∷ ds) all found = newest_step q rs d ds (relations_of q ds) refl all.0 (λ there. newest_keeps q rs ds all.1 there) found

-- the last declaration by then has every relation that an earlier one has
at_step : (at : ℕ) (q r : List ℕ) (d : Declaration) (o : Option (List Relation)) → ((rs : List Relation) → o ≡ Some rs → bytes_eq q d.name ≡ true → keeps_names d.relations rs ≡ true)
    → option_or (option_and_then (relation_named r) o) (in_force at q r d) ≡ option_and_then (relation_named r) (option_or o (cond (bytes_eq q d.name && nat_le d.at at) (Some d.relations) None))
at_step at q r d None keeps = by_bool (nat_le d.at at)
    (λ t. by_bool (bytes_eq q d.name) (λ u. rw (t, u) refl) (λ u. rw (t, u) refl))
    (λ f. by_bool (bytes_eq q d.name) (λ u. rw (f, u) refl) (λ u. rw (f, u) refl))
at_step at q r d (Some rs) keeps = by (relation_named r rs) refl
  where
    by : (o : Option Relation) → relation_named r rs ≡ o → option_or o (in_force at q r d) ≡ o
    by (Some x) e = refl
    by None e = by_bool (nat_le d.at at)
        (λ t. by_bool (bytes_eq q d.name) (λ u. rw (t, u) (absent_before r d.relations rs (keeps rs refl u) e)) (λ u. rw (t, u) refl))
        (λ f. rw f refl)

pub relation_at-relations_at : (ds : List Declaration) (at : ℕ) (q r : List ℕ) → AreContinued ds → relation_at ds at q r ≡ option_and_then (relation_named r) (relations_at at q ds)
relation_at-relations_at [] at q r all = refl
relation_at-relations_at (d ∷ ds) at q r all =
    rw (relation_at-relations_at ds at q r all.1)
    (at_step at q r d (relations_at at q ds) (λ rs found named. kept_later q rs d named (from_one_at (λ e. d.name ≡ e.name → Continues d e) q rs at ds all.0 found)))

-- ---- revisions rise

get_all : {X : Type 0} (P : X → Type 0) (xs : List X) (j : ℕ) (d : X) → AllByRecursion P xs → j < length xs → P (get_or xs j d)
get_all P [] j d all h = absurd (omega arith)
get_all P (x ∷ xs) zero d all h = all.0
get_all P (x ∷ xs) (suc j) d all h = get_all P xs j d all.1 (omega arith)

rises : {X : Type 0} (n : X → ℕ) (x : X) (xs : List X) → AllByRecursion (λ y. n x ≤ n y) xs → IsNonDecreasingBy n xs → IsNonDecreasingBy n (x ∷ xs)
rises n x xs all rest zero zero d h k = omega arith
rises n x xs all rest zero (suc j) d h k = get_all (λ y. n x ≤ n y) xs j d all (omega arith)
rises n x xs all rest (suc i) zero d h k = absurd (omega arith)
rises n x xs all rest (suc i) (suc j) d h k = rest i j d (omega arith) (omega arith)

module _ (n : Revision → ℕ) (grows : (d e : Declaration) (i j : ℕ) → Continues d e → n (revision i d) ≤ n (revision j e)) where
  revisions_above : (q : List ℕ) (d : Declaration) (i line : ℕ) (ds : List Declaration) → bytes_eq q d.name ≡ true → AllByRecursion (λ e. d.name ≡ e.name → Continues d e) ds → AllByRecursion (λ v. n (revision i d) ≤ n v) (revisions_from line q ds)
  revisions_above q d i line [] named all = tt
  revisions_above q d i line (e ∷ ds) named all =
      let rest = revisions_above q d i (line + 1) ds named all.1 in
      by_bool (bytes_eq q e.name)
      (λ t. rw t (grows d e i line (all.0 (sym (one_name q d.name named) ∙ one_name q e.name t)), rest))
      (λ f. rw f rest)

  revisions_rise : (q : List ℕ) (line : ℕ) (ds : List Declaration) → AreContinued ds → IsNonDecreasingBy n (revisions_from line q ds)
  revisions_rise q line [] all = λ i j d h k. absurd (omega arith)
  revisions_rise q line (d ∷ ds) all =
      let rest = revisions_rise q (line + 1) ds all.1 in
      by_bool (bytes_eq q d.name)
      (λ t. rw t (rises n (revision line d) (revisions_from (line + 1) q ds) (revisions_above q d line (line + 1) ds t all.0) rest))
      (λ f. rw f rest)

-- in their timestamps
pub revisions_rise_in_time : (q : List ℕ) (ds : List Declaration) → AreContinued ds → IsNonDecreasingBy (λ (v : Revision). v.at) (revisions_from 0 q ds)
revisions_rise_in_time q ds all = revisions_rise (λ v. v.at) (λ d e i j c. c.at) q 0 ds all

-- and in their numbers of relations
pub revisions_grow : (q : List ℕ) (ds : List Declaration) → AreContinued ds → IsNonDecreasingBy (λ (v : Revision). v.relations) (revisions_from 0 q ds)
revisions_grow q ds all = revisions_rise (λ v. v.relations) (λ d e i j c. keeps_names-length d.relations e.relations c.names) q 0 ds all
