-- Which namespaces declare a relation, when one more declaration comes.
use Rattle.std.proofs.Common.{◌≡◌, ℕ, zero, suc, ◌+◌, ◌<◌, ◌≤◌, ◌%◌, true, false, ◌⊎◌, inl, inr, cond, List, [], ◌∷◌, ◌++◌, length, slice_get, position, Option, None, Some, option_map, option_and_then, unwrap_or, is_some, String, Global, string_bytes, refl, sym, ap, ◌∙◌, subst, arith, get_or}
use Rattle.std.specs.Prelude.{Contains}
use Rattle.std.specs.Str.{bytes_eq}
use Rattle.std.specs.List.{AllByRecursion, list_any}
use Rattle.std.proofs.lemmas.Bool.{cases_eq}
use Rattle.std.proofs.lemmas.Option.{slice_get_within, slice_get_read, slice_get-get_or}
use Rattle.std.proofs.lemmas.List.Quantifiers.{position-Some}
use Rattle.names.specs.Names.{is_named, place_of, value_of, with_value}
use Rattle.names.proofs.NamesLemmas.{position_cons, position_first, found_there}
use Rattle.namespaces.specs.Declaration.{Relation, Declaration}
use Rattle.namespaces.specs.Declaring.{declares, AreAllDeclarers, HasUnder, SameUnder, numbers_under}
use Rattle.namespaces.specs.Lookup as lookup
use Rattle.namespaces.specs.Lookup.{item_at, namespace_names, namespace_numbered, relation_named, relation_names, relation_of, relations_of, with_name}
use Rattle.namespaces.specs.Adding.{has_repeats}
use Rattle.namespaces.specs.Numbers.{Has}
use Rattle.namespaces.specs.Shown.{show_relations}
use Rattle.namespaces.specs.WellFormed.{IsWellFormed}
use Rattle.namespaces.specs.declared.number_set.Numbers.{Numbers}
use Rattle.namespaces.proofs.Declared.{named_since}
use Rattle.namespaces.proofs.Growth.{names_after-push}
use Rattle.namespaces.proofs.InForceLemmas.{named_in}
use Rattle.namespaces.proofs.NumberSets.{none_has}
use Rattle.namespaces.proofs.Numbering.{item_at-place}
use Rattle.namespaces.proofs.Tables.{Entry}
use Rattle.namespaces.proofs.Times.{IsKeptIn, from_one, newest_keeps}
use Rattle.rewrites.proofs.Names.{by_bool, clash, one_name, or_false, other_name, same_name}

-- ---- a table of names

abbrev pub Place : Type 0
Place = String Global × Numbers

-- a value more under one name
pub value-with_value : (q n : List ℕ) (w : Numbers) (es : List Place) (i : ℕ) → place_of n es ≡ Some i
    → value_of q (with_value i w es) ≡ cond (bytes_eq q n) (Some w) (value_of q es)
value-with_value q n w [] i at = cc
value-with_value q n w (e ∷ es) i at = by_bool (is_named n e.0)
    (λ t. first i (sym (position_cons (λ (x : Place). is_named n x.0) e es ∙ rw t refl) ∙ at) t)
    (λ f. behind (place_of n es) refl (sym (position_cons (λ (x : Place). is_named n x.0) e es ∙ rw f refl) ∙ at) f (value-with_value q n w es))
  where
    first : (k : ℕ) → Some 0 ≡ Some k → is_named n e.0 ≡ true → value_of q (with_value k w (e ∷ es)) ≡ cond (bytes_eq q n) (Some w) (value_of q (e ∷ es))
    first (suc k) is t = cc
    first zero is t = rw (one_name n (string_bytes e.0) t) (by_bool (is_named q e.0) (λ u. rw u refl) (λ u. rw u refl))

    behind : (o : Option ℕ) → place_of n es ≡ o → option_map suc (place_of n es) ≡ Some i → is_named n e.0 ≡ false
        → ((k : ℕ) → place_of n es ≡ Some k → value_of q (with_value k w es) ≡ cond (bytes_eq q n) (Some w) (value_of q es))
        → value_of q (with_value i w (e ∷ es)) ≡ cond (bytes_eq q n) (Some w) (value_of q (e ∷ es))
    behind None is later f further = let c : option_map suc None ≡ Some i = rw is at later in cc
    behind (Some k) is later f further =
        let place : suc k ≡ i = let c : option_map suc (Some k) ≡ Some i = rw is at later in cc in
        rw (← place) (by_bool (is_named q e.0)
        (λ t.
        let same : q ≡ string_bytes e.0 = one_name q (string_bytes e.0) t in
        let apart : bytes_eq q n ≡ false = rw same (other_name n (string_bytes e.0) f) in
        rw (t, apart) refl)
        (λ u. rw u (further k is)))

-- a name more, with nothing under it
pub value-put : (q : List ℕ) (w : Numbers) (es : List Place) (k : String Global) → is_some (value_of (string_bytes k) es) ≡ false
    → value_of q (es ++ (k, w) ∷ []) ≡ cond (bytes_eq q (string_bytes k)) (Some w) (value_of q es)
value-put q w [] k new = refl
value-put q w (e ∷ es) k new = by_bool (is_named (string_bytes k) e.0)
    (λ t. let some : true ≡ false = rw t at new in cc)
    (λ f. by_bool (is_named q e.0)
    (λ t.
    let same : q ≡ string_bytes e.0 = one_name q (string_bytes e.0) t in
    let apart : bytes_eq q (string_bytes k) ≡ false = rw same (other_name (string_bytes k) (string_bytes e.0) f) in
    rw (t, apart) refl)
    (λ u. rw u (value-put q w es k (rw f at new))))

abbrev pub nothing : Numbers
nothing = record { low = 0; high = 0 }

absent_value : (o : Option Numbers) → is_some o ≡ false → unwrap_or o nothing ≡ nothing
absent_value None h = refl
absent_value (Some x) h = cc

-- a place is made: what is said of each name stays
pub same_put : (w : Numbers) (es : List Place) (k : String Global) → ((n : ℕ) → Has w n → ⊥) → is_some (value_of (string_bytes k) es) ≡ false
    → SameUnder es (es ++ (k, w) ∷ [])
same_put w es k none new q n = by_bool (bytes_eq q (string_bytes k))
    (λ t.
    let now : numbers_under (es ++ (k, w) ∷ []) q ≡ w = ap (λ o. unwrap_or o nothing) (value-put q w es k new) ∙ rw t refl in
    let before : numbers_under es q ≡ nothing = rw (one_name q (string_bytes k) t) (absent_value (value_of (string_bytes k) es) new) in (
      λ h. absurd (none n (subst (λ s. Has s n) now h)),
      λ h. absurd (none_has n (subst (λ s. Has s n) before h)),
    ))
    (λ f.
    let same : numbers_under (es ++ (k, w) ∷ []) q ≡ numbers_under es q = ap (λ o. unwrap_or o nothing) (value-put q w es k new) ∙ rw f refl in (
      λ h. subst (λ s. Has s n) same h,
      λ h. subst (λ s. Has s n) (sym same) h,
    ))

pub kept_put : (q : List ℕ) (w : Numbers) (es : List Place) (k : String Global) → is_some (value_of (string_bytes k) es) ≡ false
    → is_some (value_of q es) ≡ true → is_some (value_of q (es ++ (k, w) ∷ [])) ≡ true
kept_put q w es k new there = ap is_some (value-put q w es k new) ∙ by_bool (bytes_eq q (string_bytes k)) (λ t. rw t refl) (λ f. rw f there)

pub there_put : (w : Numbers) (es : List Place) (k : String Global) → is_some (value_of (string_bytes k) es) ≡ false
    → is_some (value_of (string_bytes k) (es ++ (k, w) ∷ [])) ≡ true
there_put w es k new = ap is_some (value-put (string_bytes k) w es k new) ∙ rw (same_name (string_bytes k)) refl

-- ---- a number more under a name

value_there : (n : List ℕ) (es : List Place) (i : ℕ) (was : Numbers) → place_of n es ≡ Some i → option_map (λ e. e.1) (slice_get es i) ≡ Some was
    → value_of n es ≡ Some was
value_there n [] i was at is = cc
value_there n (e ∷ es) i was at is = by_bool (is_named n e.0)
    (λ t. first i (sym (position_cons (λ (x : Place). is_named n x.0) e es ∙ rw t refl) ∙ at) is t)
    (λ f. behind (place_of n es) refl (sym (position_cons (λ (x : Place). is_named n x.0) e es ∙ rw f refl) ∙ at) f (λ k. value_there n es k was))
  where
    first : (k : ℕ) → Some 0 ≡ Some k → option_map (λ e. e.1) (slice_get (e ∷ es) k) ≡ Some was → is_named n e.0 ≡ true → value_of n (e ∷ es) ≡ Some was
    first (suc k) is there t = cc
    first zero is there t = rw t there

    behind : (o : Option ℕ) → place_of n es ≡ o → option_map suc (place_of n es) ≡ Some i → is_named n e.0 ≡ false
        → ((k : ℕ) → place_of n es ≡ Some k → option_map (λ e. e.1) (slice_get es k) ≡ Some was → value_of n es ≡ Some was) → value_of n (e ∷ es) ≡ Some was
    behind None has later f further = let c : option_map suc None ≡ Some i = rw has at later in cc
    behind (Some k) has later f further =
        let place : suc k ≡ i = let c : option_map suc (Some k) ≡ Some i = rw has at later in cc in
        rw f (further k has (rw (← place) at is))

-- the numbers under one name are others
module _ (n : List ℕ) (number : ℕ) (es fs : List Place) (i : ℕ) (was more : Numbers) (at : place_of n es ≡ Some i)
    (there : option_map (λ e. e.1) (slice_get es i) ≡ Some was) (new : fs ≡ with_value i more es)
    (has : Has more number) (kept : (k : ℕ) → Has was k → Has more k)
    (only : (k : ℕ) → Has more k → Has was k ⊎ (k % 256 ≡ number % 256)) where
  value : (q : List ℕ) → value_of q fs ≡ cond (bytes_eq q n) (Some more) (value_of q es)
  value q = ap (value_of q) new ∙ value-with_value q n more es i at

  under : (q : List ℕ) → numbers_under fs q ≡ unwrap_or (cond (bytes_eq q n) (Some more) (value_of q es)) nothing
  under q = ap (λ o. unwrap_or o nothing) (value q)

  before : numbers_under es n ≡ was
  before = ap (λ o. unwrap_or o nothing) (value_there n es i was at there)

  pub noted_has : HasUnder fs n number
  noted_has = rw (under n, same_name n) has

  pub noted_kept : (q : List ℕ) (k : ℕ) → HasUnder es q k → HasUnder fs q k
  noted_kept q k h = by_bool (bytes_eq q n)
      (λ t. rw (under q, t) (kept k (subst (λ s. Has s k) (ap (numbers_under es) (one_name q n t) ∙ before) h)))
      (λ f. rw (under q, f) h)

  pub noted_only : (q : List ℕ) (k : ℕ) → HasUnder fs q k → HasUnder es q k ⊎ ((q ≡ n) × (k % 256 ≡ number % 256))
  noted_only q k h = by_bool (bytes_eq q n)
      (λ t.
      let same : q ≡ n = one_name q n t in
      elim (only k (rw (under q, t) at h)) [
        | inl was_there ↦ inl (subst (λ s. Has s k) (sym before ∙ ap (numbers_under es) (sym same)) was_there)
        | inr slot ↦ inr (same, slot)
      ])
      (λ f. inl (rw (under q, f) at h))

  pub noted_there : (q : List ℕ) → is_some (value_of q es) ≡ true → is_some (value_of q fs) ≡ true
  noted_there q h = rw (value q) (by_bool (bytes_eq q n) (λ t. rw t refl) (λ f. rw f h))

-- a name without a place has nothing under it
pub no_place : (n : List ℕ) (es : List Place) → place_of n es ≡ None → is_some (value_of n es) ≡ true → ⊥
no_place n es none there = let no : false ≡ true = ap is_some (sym none) ∙ found_there n es ∙ there in cc

-- ---- elements by their places

pub named_at : (es : List Entry) (k : ℕ) (e : Entry) → slice_get es k ≡ Some e → Contains (relation_names (show_relations es)) (string_bytes e.0)
named_at [] k e at = cc
named_at (x ∷ es) zero e at = let same : x ≡ e = cc in (0, omega arith, rw same refl)
named_at (x ∷ es) (suc k) e at = let rest = named_at es k e at in (suc rest.0, omega (arith, rest.1), rest.2)

entry_named_at : (es : List Entry) (k : ℕ) (q : List ℕ) → slice_get (relation_names (show_relations es)) k ≡ Some q
    → (e : Entry) × (slice_get es k ≡ Some e) × (string_bytes e.0 ≡ q) × (k < length es)
entry_named_at [] k q at = cc
entry_named_at (x ∷ es) zero q at = (x, refl, let same : string_bytes x.0 ≡ q = cc in same, omega arith)
entry_named_at (x ∷ es) (suc k) q at = let rest = entry_named_at es k q at in (rest.0, rest.1, rest.2, omega (arith, rest.3))

pub place_of_name : (names : List (List ℕ)) (q : List ℕ) → Contains names q → (k : ℕ) × (k < length names) × (slice_get names k ≡ Some q)
place_of_name names q (k, within, is) = (k, within, slice_get_read names (length names) k q refl within (sym is))

-- where each entry was looked at, so was each name
pub each_name : (P : List ℕ → Type 0) (es : List Entry) (n : ℕ) → length es ≤ n → ((k : ℕ) (e : Entry) → k < n → slice_get es k ≡ Some e → P (string_bytes e.0))
    → (q : List ℕ) → Contains (relation_names (show_relations es)) q → P q
each_name P es n all each q named =
    let p = place_of_name (relation_names (show_relations es)) q named in
    let e = entry_named_at es p.0 q p.2 in
    subst P e.2 (each p.0 e.0 (omega (arith, e.3, all)) e.1)

-- one entry more
pub next_entry : (P : Entry → Type 0) (es : List Entry) (i : ℕ) (x : Entry) → slice_get es i ≡ Some x → P x
    → ((k : ℕ) (e : Entry) → k < i → slice_get es k ≡ Some e → P e) → (k : ℕ) (e : Entry) → k < i + 1 → slice_get es k ≡ Some e → P e
next_entry P es i x at p before k e less there = elim (cases_eq k i) [
  | inl same ↦ (let is : x ≡ e = let both : Some x ≡ Some e = sym at ∙ ap (slice_get es) (sym same) ∙ there in cc in subst P is p)
  | inr other ↦ before k e (omega (arith, less, other)) there
]

-- ---- numbers of names

in_front : (ns ms : List (List ℕ)) (k : ℕ) (x : List ℕ) → slice_get ns k ≡ Some x → slice_get (ns ++ ms) k ≡ Some x
in_front [] ms k x h = cc
in_front (n ∷ ns) ms zero x h = h
in_front (n ∷ ns) ms (suc k) x h = in_front ns ms k x h

behind : (ns : List (List ℕ)) (q : List ℕ) (k : ℕ) (x : List ℕ) → slice_get (ns ++ q ∷ []) k ≡ Some x → (slice_get ns k ≡ Some x) ⊎ (x ≡ q)
behind [] q zero x h = let same : q ≡ x = cc in inr (sym same)
behind [] q (suc k) x h = cc
behind (n ∷ ns) q zero x h = inl h
behind (n ∷ ns) q (suc k) x h = behind ns q k x h

stays_numbered : (ns : List (List ℕ)) (q : List ℕ) (k : ℕ) (x : List ℕ) → slice_get ns k ≡ Some x → slice_get (with_name ns q) k ≡ Some x
stays_numbered ns q k x h = by_bool (list_any (bytes_eq q) ns) (λ t. rw t h) (λ f. rw f (in_front ns (q ∷ []) k x h))

was_numbered : (ns : List (List ℕ)) (q : List ℕ) (k : ℕ) (x : List ℕ) → slice_get (with_name ns q) k ≡ Some x → (slice_get ns k ≡ Some x) ⊎ (x ≡ q)
was_numbered ns q k x h = by_bool (list_any (bytes_eq q) ns) (λ t. inl (rw t at h)) (λ f. behind ns q k x (rw f at h))

name_among : (ns : List (List ℕ)) (k : ℕ) (q : List ℕ) → slice_get ns k ≡ Some q → list_any (bytes_eq q) ns ≡ true
name_among [] k q h = cc
name_among (n ∷ ns) zero q h = let same : n ≡ q = cc in rw (same, same_name q) refl
name_among (n ∷ ns) (suc k) q h = by_bool (bytes_eq q n) (λ t. rw t refl) (λ f. rw f (name_among ns k q h))

-- a name that stands once stands at its first place
one_place : (ns : List (List ℕ)) (q : List ℕ) (k i : ℕ) → has_repeats ns ≡ false → slice_get ns k ≡ Some q → position (bytes_eq q) ns ≡ Some i → k ≡ i
one_place [] q k i once there first = cc
one_place (n ∷ ns) q zero i once there first =
    let same : n ≡ q = cc in
    let is : Some 0 ≡ Some i = sym (position_cons (bytes_eq q) n ns ∙ rw (same, same_name q) refl) ∙ first in cc
one_place (n ∷ ns) q (suc k) i once there first =
    let apart = or_false (list_any (bytes_eq n) ns) (has_repeats ns) once in
    by_bool (bytes_eq q n)
    (λ t. clash (list_any (bytes_eq n) ns) (rw (one_name q n t) at (name_among ns k q there)) apart.0)
    (λ f. later (position (bytes_eq q) ns) refl (sym (position_cons (bytes_eq q) n ns ∙ rw f refl) ∙ first) (λ j. one_place ns q k j apart.1 there))
  where
    later : (o : Option ℕ) → position (bytes_eq q) ns ≡ o → option_map suc (position (bytes_eq q) ns) ≡ Some i
        → ((j : ℕ) → position (bytes_eq q) ns ≡ Some j → k ≡ j) → suc k ≡ i
    later None is h further = let c : option_map suc None ≡ Some i = rw is at h in cc
    later (Some j) is h further =
        let last : suc j ≡ i = let c : option_map suc (Some j) ≡ Some i = rw is at h in cc in
        ap suc (further j is) ∙ last

first_place : (ns : List (List ℕ)) (q : List ℕ) (i : ℕ) → position (bytes_eq q) ns ≡ Some i → slice_get ns i ≡ Some q
first_place ns q i h =
    let p = position-Some (bytes_eq q) ns i [] h in
    slice_get-get_or ns i [] p.0 ∙ ap Some (sym (one_name q (get_or ns i []) p.1))

-- the place of a name, counted from 1, is one more than that counted from 0
from_one_on : (o : Option ℕ) (number : ℕ) → option_map (λ i. i + 1) o ≡ Some number → (i : ℕ) × (o ≡ Some i) × (number ≡ suc i)
from_one_on None number h = cc
from_one_on (Some i) number h = (i, refl, let is : i + 1 ≡ number = cc in omega (arith, is))

number_of_item : {X : Type 0} (k : ℕ) (xs : List X) → item_at (suc k) xs ≡ slice_get xs k
number_of_item k xs = item_at-place (suc k) k xs (omega arith) (omega arith)

-- ---- the number of a namespace, or the next one

pub number_kept : (ns : List (List ℕ)) (q : List ℕ) (number : ℕ) → lookup.place_of q ns ≡ Some number → lookup.place_of q (with_name ns q) ≡ Some number
number_kept ns q number h =
    let i = from_one_on (position (bytes_eq q) ns) number h in
    rw (name_among ns i.0 q (first_place ns q i.0 i.1)) h

none_before : (ns : List (List ℕ)) (q : List ℕ) → lookup.place_of q ns ≡ None → position (bytes_eq q) ns ≡ None
none_before ns q h = by (position (bytes_eq q) ns) h
  where
    by : (o : Option ℕ) → option_map (λ i. i + 1) o ≡ None → o ≡ None
    by None h = refl
    by (Some i) h = cc

not_among : (ns : List (List ℕ)) (q : List ℕ) → position (bytes_eq q) ns ≡ None → list_any (bytes_eq q) ns ≡ false
not_among [] q h = refl
not_among (n ∷ ns) q h = by_bool (bytes_eq q n)
    (λ t. let some : Some 0 ≡ None = sym (position_cons (bytes_eq q) n ns ∙ rw t refl) ∙ h in cc)
    (λ f. rw f (not_among ns q (unmapped (position (bytes_eq q) ns) (sym (position_cons (bytes_eq q) n ns ∙ rw f refl) ∙ h))))
  where
    unmapped : (o : Option ℕ) → option_map suc o ≡ None → o ≡ None
    unmapped None h = refl
    unmapped (Some k) h = cc

pub with_name-new : (ns : List (List ℕ)) (q : List ℕ) → lookup.place_of q ns ≡ None → with_name ns q ≡ ns ++ q ∷ []
with_name-new ns q none = rw (not_among ns q (none_before ns q none)) refl

pub number_next : (ns : List (List ℕ)) (q : List ℕ) → lookup.place_of q ns ≡ None → lookup.place_of q (with_name ns q) ≡ Some (length ns + 1)
number_next ns q none = rw (with_name-new ns q none, position_first (bytes_eq q) ns q (none_before ns q none) (same_name q)) refl

-- ---- a declaration more

relations_of-push : (q : List ℕ) (ds : List Declaration) (d : Declaration)
    → relations_of q (ds ++ d ∷ []) ≡ cond (bytes_eq q d.name) (Some d.relations) (relations_of q ds)
relations_of-push q [] d = refl
relations_of-push q (c ∷ ds) d = rw (relations_of-push q ds d) (by_bool (bytes_eq q d.name) (λ t. rw t refl) (λ f. rw f refl))

all_before : (P : Declaration → Type 0) (ds es : List Declaration) → AllByRecursion P (ds ++ es) → AllByRecursion P ds
all_before P [] es all = tt
all_before P (d ∷ ds) es all = (all.0, all_before P ds es all.1)

some_then : {X Y : Type 0} (f : X → Option Y) (o : Option X) → is_some (option_and_then f o) ≡ true → (x : X) × (o ≡ Some x) × (is_some (f x) ≡ true)
some_then f None h = cc
some_then f (Some x) h = (x, refl, h)

some_is : {X : Type 0} (o : Option X) → is_some o ≡ true → (x : X) × (o ≡ Some x)
some_is None h = cc
some_is (Some x) h = (x, refl)

named_there : (rs : List Relation) (q : List ℕ) (k : ℕ) → slice_get (relation_names rs) k ≡ Some q → is_some (relation_named q rs) ≡ true
named_there [] q k h = cc
named_there (r ∷ rs) q zero h = let same : r.name ≡ q = cc in rw (same, same_name q) refl
named_there (r ∷ rs) q (suc k) h = by_bool (bytes_eq q r.name) (λ t. rw t refl) (λ f. rw f (named_there rs q k h))

module _ (ds : List Declaration) (d : Declaration) (well : IsWellFormed (ds ++ d ∷ [])) (number : ℕ)
    (placed : lookup.place_of d.name (with_name (namespace_names ds) d.name) ≡ Some number) where
  names_now : namespace_names (ds ++ d ∷ []) ≡ with_name (namespace_names ds) d.name
  names_now = names_after-push [] ds d

  place : (i : ℕ) × (position (bytes_eq d.name) (with_name (namespace_names ds) d.name) ≡ Some i) × (number ≡ suc i)
  place = from_one_on (position (bytes_eq d.name) (with_name (namespace_names ds) d.name)) number placed

  numbered_now : (k : ℕ) → namespace_numbered (suc k) (ds ++ d ∷ []) ≡ slice_get (with_name (namespace_names ds) d.name) k
  numbered_now k = number_of_item k (namespace_names (ds ++ d ∷ [])) ∙ ap (λ ns. slice_get ns k) names_now

  numbered_then : (k : ℕ) → namespace_numbered (suc k) ds ≡ slice_get (namespace_names ds) k
  numbered_then k = number_of_item k (namespace_names ds)

  -- what was declared stays declared
  kept_relation : (namespace q : List ℕ) → is_some (relation_of namespace q ds) ≡ true → is_some (relation_of namespace q (ds ++ d ∷ [])) ≡ true
  kept_relation namespace q h =
      let rs = some_then (relation_named q) (relations_of namespace ds) h in
      let x = some_is (relation_named q rs.0) rs.2 in
      by_bool (bytes_eq namespace d.name)
      (λ t.
      let now : relations_of namespace (ds ++ d ∷ []) ≡ Some d.relations = relations_of-push namespace ds d ∙ rw t refl in
      let keeps = all_before (λ e. bytes_eq namespace e.name ≡ true → IsKeptIn d.relations e) ds (d ∷ []) (newest_keeps namespace d.relations (ds ++ d ∷ []) well.continued now) in
      let one = from_one (λ e. bytes_eq namespace e.name ≡ true → IsKeptIn d.relations e) namespace rs.0 ds keeps rs.1 in
      let names = rw one.shown at (one.has one.named).names in
      let since = named_since q rs.0 d.relations x.0 (relation_named q d.relations) names x.1 refl in
      rw (now, since.1) refl)
      (λ f. ap (λ o. is_some (option_and_then (relation_named q) o)) (relations_of-push namespace ds d) ∙ rw f h)

  declared_before : (k : ℕ) (q : List ℕ) → declares (suc k) q ds ≡ true → declares (suc k) q (ds ++ d ∷ []) ≡ true
  declared_before k q h =
      let n = some_then (λ namespace. relation_of namespace q ds) (namespace_numbered (suc k) ds) h in
      let there = stays_numbered (namespace_names ds) d.name k n.0 (sym (numbered_then k) ∙ n.1) in
      rw (numbered_now k, there) (kept_relation n.0 q n.2)

  declared_by_it : (k : ℕ) (q : List ℕ) → suc k ≡ number → Contains (relation_names d.relations) q → declares (suc k) q (ds ++ d ∷ []) ≡ true
  declared_by_it k q is named =
      let same : k ≡ place.0 = omega (arith, is, place.2) in
      let there : slice_get (with_name (namespace_names ds) d.name) k ≡ Some d.name =
      rw same (first_place (with_name (namespace_names ds) d.name) d.name place.0 place.1) in
      let p = place_of_name (relation_names d.relations) q named in
      rw (numbered_now k, there, relations_of-push d.name ds d, same_name d.name) (named_there d.relations q p.0 p.2)

  declared_now : (k : ℕ) (q : List ℕ) → declares (suc k) q (ds ++ d ∷ []) ≡ true
      → (declares (suc k) q ds ≡ true) ⊎ ((suc k ≡ number) × Contains (relation_names d.relations) q)
  declared_now k q h =
      let n = some_then (λ namespace. relation_of namespace q (ds ++ d ∷ [])) (namespace_numbered (suc k) (ds ++ d ∷ [])) h in
      let there : slice_get (with_name (namespace_names ds) d.name) k ≡ Some n.0 = sym (numbered_now k) ∙ n.1 in
      by_bool (bytes_eq n.0 d.name)
      (λ t.
      let same : n.0 ≡ d.name = one_name n.0 d.name t in
      let once : has_repeats (with_name (namespace_names ds) d.name) ≡ false = rw names_now at well.distinct in
      let first : k ≡ place.0 = one_place (with_name (namespace_names ds) d.name) d.name k place.0 once (rw same at there) place.1 in
      let named : is_some (relation_named q d.relations) ≡ true = rw (relations_of-push n.0 ds d, t) at n.2 in
      let x = some_is (relation_named q d.relations) named in
      inr (omega (arith, first, place.2), named_in q d.relations x.0 x.1))
      (λ f.
      let before : is_some (relation_of n.0 q ds) ≡ true = rw (relations_of-push n.0 ds d, f) at n.2 in
      elim (was_numbered (namespace_names ds) d.name k n.0 there) [
        | inl was ↦ inl (rw (numbered_then k, was) before)
        | inr same ↦ absurd (clash (bytes_eq n.0 d.name) (rw same (same_name d.name)) f)
      ])

  -- the numbers of one slot, of 256 at most
  number_few : number ≤ 256
  number_few =
      let few : length (with_name (namespace_names ds) d.name) ≤ 256 = rw names_now at well.namespaces in
      let within = slice_get_within (with_name (namespace_names ds) d.name) place.0 d.name (first_place (with_name (namespace_names ds) d.name) d.name place.0 place.1) in
      omega (arith, few, within, place.2)

  one_slot : (k : ℕ) → k < 256 → suc k % 256 ≡ number % 256 → suc k ≡ number
  one_slot k small slot = omega (arith, small, slot, number_few, place.2)

  pub declarers_put : (es fs gs : List Place) → AreAllDeclarers es ds → SameUnder es fs
      → ((q : List ℕ) → Contains (relation_names d.relations) q → HasUnder gs q number)
      → ((q : List ℕ) (n : ℕ) → HasUnder fs q n → HasUnder gs q n)
      → ((q : List ℕ) (n : ℕ) → HasUnder gs q n → HasUnder fs q n ⊎ (Contains (relation_names d.relations) q × (n % 256 ≡ number % 256)))
      → AreAllDeclarers gs (ds ++ d ∷ [])
  declarers_put es fs gs were same has kept only q k small = (
    λ h. elim (only q (suc k) h) [
      | inl was ↦ declared_before k q ((were q k small).0 ((same q (suc k)).0 was))
      | inr new ↦ declared_by_it k q (one_slot k small new.1) new.0
    ],
    λ h. elim (declared_now k q h) [
      | inl was ↦ kept q (suc k) ((same q (suc k)).1 ((were q k small).1 was))
      | inr new ↦ rw new.0 (has q new.1)
    ],
  )
