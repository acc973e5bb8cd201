-- What relations give through a tupleset, as it is gathered.
use Rattle.std.proofs.Common.{◌≡◌, ℕ, suc, ◌+◌, ◌<◌, ◌≤◌, ◌^◌, List, [], ◌∷◌, ◌++◌, length, inl, inr, Option, None, Some, refl, sym, ◌∙◌, ap, subst, arith}
use Rattle.std.proofs.lemmas.Bool.{cases_eq}
use Rattle.std.proofs.lemmas.List.{length-append}
use Rattle.std.proofs.lemmas.List.Elements.{Contains-append_cases, Contains-append_left, Contains-append_right}
use Rattle.std.proofs.lemmas.List.Sums.{sum_by-cons}
use Rattle.std.proofs.lemmas.Option.{get_or_from_slice_get, slice_get-get_or, slice_get_within}
use Rattle.std.specs.Str.{bytes_eq}
use Rattle.std.specs.List.{IsDistinct}
use Rattle.std.specs.Prelude.{Contains, IfSome, IsSomeAnd, option_map, position, slice_get, sum_by}
use Rattle.tuple_text.specs.Sets.{SetValue}
use Rattle.namespaces.specs.Lookup.{Rule, namespace_names, place_of}
use Rattle.strata.proofs.Lists.{Contains-cons_cases, Contains-here, Contains-there, not_in_nil}
use Rattle.strata.specs.Meaning.{with_relation}
use Rattle.namespaces.specs.Numbers.{Has}
use Rattle.namespaces.specs.declared.number_set.Numbers.{Numbers}
use Rattle.snapshots.specs.Leading.{AreAll, AreLeadingThrough, AreStored, IsNumbered}
use Rattle.snapshots.specs.Snapshots.{rules_in, tuples_in}
use Rattle.snapshots.specs.declared.snapshot.Snapshot.{Snapshot}
use Rattle.snapshots.proofs.FoundLemmas.{numbered}
use Rattle.judgement.specs.StoredIn.{HaveStored}
use Rattle.wide_rules.specs.Declaring.{HaveDeclaring}
use Rattle.goal_cone.specs.Bounds.{stored_sets}
use Rattle.goal_cone.specs.Targets.{AreObjects, AreRead, AreReadBefore, AreTargeted, AreTargets, AreWanted, Matters, targets_under}
use Rattle.goal_cone.proofs.StoredLemmas.{no_more}

-- ---- names

pub if_not_some : {X : Type 0} (o : Option X) → ((¬ (o ≡ None)) → ⊥) → o ≡ None
if_not_some None h = refl
if_not_some (Some x) h = absurd (h (λ e. cc))

pub at_item : {X : Type 0} (xs : List X) (i : ℕ) (x : X) → slice_get xs i ≡ Some x → Contains xs x
at_item xs i x at = (i, slice_get_within xs i x at, get_or_from_slice_get xs i x x at)

at_place : {X : Type 0} (xs : List X) (x : X) → Contains xs x → (i : ℕ) × (i < length xs) × (slice_get xs i ≡ Some x)
at_place xs x (i, within, is) = (i, within, slice_get-get_or xs i x within ∙ ap (λ (y : _). Some y) is)

module _ (source names : List (List ℕ)) (P : List ℕ → Type 0) where
  pub none_before : AreReadBefore source names P 0 []
  none_before = record {
    few = omega arith;
    read = λ c there. absurd (not_in_nil c there);
    wanted = λ i c less at wanted. absurd (omega (arith, less));
  }

  pub pushed : (k : ℕ) (ks : List (List ℕ)) (c : List ℕ) → slice_get source k ≡ Some c → Contains names c → AreReadBefore source names P k ks
      → AreReadBefore source names P (k + 1) (ks ++ c ∷ [])
  pushed k ks c at there before = record {
    few = let few = before.few in let more = length-append ks (c ∷ []) in let one : length (c ∷ []) ≡ 1 = refl in omega (arith, few, more, one);
    read = λ x in_both. elim (Contains-append_cases ks (c ∷ []) x in_both) [
      | inl old ↦ before.read x old
      | inr new ↦ elim (Contains-cons_cases c [] x new) [ inl same ↦ subst (Contains names) same there | inr none ↦ absurd (not_in_nil x none) ]
    ];
    wanted = λ i x less place wanted. elim (cases_eq i k) [
      | inl here ↦
          let same : c ≡ x = (let both : Some c ≡ Some x = sym at ∙ ap (slice_get source) (sym here) ∙ place in cc) in
          Contains-append_right ks (c ∷ []) x (subst (Contains (c ∷ [])) same (Contains-here c []))
      | inr other ↦ Contains-append_left ks (c ∷ []) x (before.wanted i x (omega (arith, less, other)) place wanted)
    ];
  }

  pub passed : (k : ℕ) (ks : List (List ℕ)) → ((c : List ℕ) → slice_get source k ≡ Some c → ¬ P c) → AreReadBefore source names P k ks
      → AreReadBefore source names P (k + 1) ks
  passed k ks unwanted before = record {
    few = let few = before.few in omega (arith, few);
    read = before.read;
    wanted = λ i x less place wanted. elim (cases_eq i k) [
      | inl here ↦ absurd (unwanted x (ap (slice_get source) (sym here) ∙ place) wanted)
      | inr other ↦ before.wanted i x (omega (arith, less, other)) place wanted
    ];
  }

pub all_declared : (rules : List ℕ → Option Rule) (names ks : List (List ℕ)) (k : ℕ) → k ≡ length names
    → AreReadBefore names names (λ c. ¬ (rules c ≡ None)) k ks → AreRead rules names ks
all_declared rules names ks k all before = record {
  few = let few = before.few in omega (arith, few, all);
  read = before.read;
  declared = λ c there declared. let w = at_place names c there in before.wanted w.0 c (let less = w.1 in omega (arith, less, all)) w.2 declared;
}

pub all_read : (rules : List ℕ → Option Rule) (source names ks : List (List ℕ)) (k : ℕ) → k ≡ length source → length source ≤ length names
    → ((c : List ℕ) → ¬ (rules c ≡ None) → Contains source c) → AreReadBefore source names (Contains names) k ks → AreRead rules names ks
all_read rules source names ks k all short whole before = record {
  few = let few = before.few in omega (arith, few, all, short);
  read = before.read;
  declared = λ c there declared. let w = at_place source c (whole c declared) in before.wanted w.0 c (let less = w.1 in omega (arith, less, all)) w.2 there;
}

-- ---- namespaces

no_zero : (p : List ℕ) (names : List (List ℕ)) → ¬ (place_of p names ≡ Some 0)
no_zero p names is = by_position (position (bytes_eq p) names) is
  where
    by_position : (o : Option ℕ) → ¬ (option_map (λ i. i + 1) o ≡ Some 0)
    by_position None e = absurd cc
    by_position (Some i) e = let both : i + 1 ≡ 0 = cc in absurd (omega (arith, both))

module _ (s : Snapshot) (tupleset : SetValue) (names : List (List ℕ)) where
  pub none_wanted : (w : Numbers) → AreWanted s tupleset names 0 w
  none_wanted w k g c few is read matters =
      let none : k ≡ 0 = omega (arith, few) in
      absurd (no_zero g.namespace (namespace_names s.timeline.declarations) (subst (IsNumbered s g) none is))

  -- one more number, of which something matters only if it is there
  pub next_wanted : (n : ℕ) (old new : Numbers) → AreWanted s tupleset names n old → ((k : ℕ) → Has old k → Has new k)
      → ((g : SetValue) (c : List ℕ) → IsNumbered s g (n + 1) → Contains names c → Matters s tupleset g c → Has new (n + 1))
      → AreWanted s tupleset names (n + 1) new
  next_wanted n old new before kept here k g c few is read matters = elim (cases_eq k (n + 1)) [
    | inl same ↦ subst (Has new) (sym same) (here g c (subst (IsNumbered s g) same is) read matters)
    | inr other ↦ kept k (before k g c (omega (arith, few, other)) is read matters)
  ]

  -- what matters is of a namespace that declares a relation at some time
  pub has_declaring : s.at < 2 ^ 64 → (w : Numbers) → HaveDeclaring s.timeline.declarations names w → (n : ℕ) (g : SetValue) (c : List ℕ) → IsNumbered s g n
      → Contains names c → ¬ (rules_in s g.namespace c ≡ None) → Has w n
  has_declaring small w (numbers, are, kept) n g c is named declared =
      let k = numbered s.timeline.declarations s.at g.namespace c declared are.few in
      let both : Some (suc k.0) ≡ Some n = sym k.2 ∙ is in
      let same : suc k.0 ≡ n = cc in
      kept n (subst (Contains numbers) same (are.all k.0 s.at g.namespace c k.1 small k.3 named declared))

  -- ---- usersets

  -- where nothing is stored of such a namespace
  pub no_objects : s.at < 2 ^ 64 → (w : Numbers) → HaveDeclaring s.timeline.declarations names w → (stored : Option Numbers)
      → IfSome stored (HaveStored s tupleset) → IsSomeAnd stored (λ m. (n : ℕ) → Has m n → Has w n → ⊥) → AreObjects s tupleset names []
  unfolding IsDistinct
  no_objects small w declaring None have apart = absurd apart
  no_objects small w declaring (Some m) have apart = record {
    stored = record { distinct = _; each = λ g there. absurd (not_in_nil g there) };
    matter = λ g c named matters.
        let k = numbered s.timeline.declarations s.at g.namespace c matters.1 declaring.1.few in
        absurd (apart (suc k.0) (have (suc k.0) g matters.0 k.2) (has_declaring small w declaring (suc k.0) g c k.2 named matters.1));
  }

  pub all_objects : (gs : List SetValue) → AreAll s tupleset gs → AreObjects s tupleset names gs
  all_objects gs are = record { stored = are.stored; matter = λ g c read matters. (g, are.all g matters.0, record { namespace = refl; id = refl }) }

  pub wanted_objects : length (namespace_names s.timeline.declarations) ≤ 256 → (w : Numbers) (gs : List SetValue) → AreWanted s tupleset names 256 w
      → AreLeadingThrough s tupleset (Has w) gs → AreObjects s tupleset names gs
  wanted_objects few w gs wanted are = record {
    stored = are.stored;
    matter = λ g c read matters.
        let n = numbered s.timeline.declarations s.at g.namespace c matters.1 few in
        are.through (suc n.0) g matters.0 n.2 (wanted (suc n.0) g c (let less = n.1 in omega (arith, less)) n.2 read matters);
  }

  -- ---- targets

  pub none_targeted : (gs : List SetValue) → AreTargeted s tupleset names gs gs []
  none_targeted gs = record {
    each = λ t there. absurd (not_in_nil t there);
    within = λ g there. there;
    led = λ g c there read declared. inr there;
    few = omega arith;
  }

  under_cases : (g : SetValue) (ks : List (List ℕ)) (t : SetValue) → Contains (targets_under g ks) t → (c : List ℕ) × Contains ks c × (t ≡ with_relation g c)
  under_cases g [] t there = absurd (not_in_nil t there)
  under_cases g (k ∷ ks) t there = elim (Contains-cons_cases (with_relation g k) (targets_under g ks) t there) [
    | inl same ↦ (k, Contains-here k ks, sym same)
    | inr later ↦ let w = under_cases g ks t later in (w.0, Contains-there k ks w.0 w.1, w.2)
  ]

  under_there : (g : SetValue) (ks : List (List ℕ)) (c : List ℕ) → Contains ks c → Contains (targets_under g ks) (with_relation g c)
  under_there g [] c there = absurd (not_in_nil c there)
  under_there g (k ∷ ks) c there = elim (Contains-cons_cases k ks c there) [
    | inl same ↦ subst (λ (x : List ℕ). Contains (targets_under g (k ∷ ks)) (with_relation g x)) same (Contains-here (with_relation g k) (targets_under g ks))
    | inr later ↦ Contains-there (with_relation g k) (targets_under g ks) (with_relation g c) (under_there g ks c later)
  ]

  as_many : (g : SetValue) (ks : List (List ℕ)) → length (targets_under g ks) ≡ length ks
  as_many g [] = refl
  as_many g (k ∷ ks) = ap suc (as_many g ks)

  pub next_targeted : (gs left ts : List SetValue) (g : SetValue) (ks : List (List ℕ)) → AreStored s tupleset gs → AreRead (rules_in s g.namespace) names ks
      → AreTargeted s tupleset names gs (g ∷ left) ts → AreTargeted s tupleset names gs left (ts ++ targets_under g ks)
  next_targeted gs left ts g ks stored read are = record {
    each = λ t there. elim (Contains-append_cases ts (targets_under g ks) t there) [
      | inl before ↦ are.each t before
      | inr here ↦
          let w = under_cases g ks t here in
          record { set = g; relation = w.0; stored = stored.each g (are.within g (Contains-here g left)); read = read.read w.0 w.1; is = w.2 }
    ];
    within = λ h there. are.within h (Contains-there g left h there);
    led = λ h c there named declared. elim (are.led h c there named declared) [
      | inl before ↦ inl (Contains-append_left ts (targets_under g ks) (with_relation h c) before)
      | inr rest ↦ elim (Contains-cons_cases g left h rest) [
        | inl same ↦
            let known = subst (λ (x : SetValue). ¬ (rules_in s x.namespace c ≡ None)) (sym same) declared in
            inl (Contains-append_right ts (targets_under g ks) (with_relation h c)
            (subst (λ (x : SetValue). Contains (targets_under g ks) (with_relation x c)) same (under_there g ks c (read.declared c named known))))
        | inr later ↦ inr later
      ]
    ];
    few =
        let before = are.few in
        let first = sum_by-cons (λ (_ : SetValue). length names) g left in
        let more = length-append ts (targets_under g ks) in
        let most = read.few in
        omega (arith, before, first, more, as_many g ks, most);
  }

-- so many times as many
no_names : (gs : List SetValue) → sum_by (λ _. 0) gs ≡ 0
no_names [] = refl
no_names (g ∷ gs) = let first = sum_by-cons (λ (_ : SetValue). 0) g gs in omega (arith, first, no_names gs)

one_name_more : (m : ℕ) (gs : List SetValue) → sum_by (λ _. suc m) gs ≡ length gs + sum_by (λ _. m) gs
one_name_more m [] = refl
one_name_more m (g ∷ gs) =
    let first = sum_by-cons (λ (_ : SetValue). suc m) g gs in
    let last = sum_by-cons (λ (_ : SetValue). m) g gs in
    omega (arith, first, last, one_name_more m gs)

each_under_each : (gs : List SetValue) (most : ℕ) → length gs ≤ most → (names : List (List ℕ)) → sum_by (λ _. length names) gs ≤ sum_by (λ _. most) names
each_under_each gs most few [] = let none = no_names gs in omega (arith, none)
each_under_each gs most few (c ∷ names) =
    let next = one_name_more (length names) gs in
    let first = sum_by-cons (λ (_ : List ℕ). most) c names in
    omega (arith, next, first, few, each_under_each gs most few names)

pub all_targeted : (s : Snapshot) (tupleset : SetValue) (names : List (List ℕ)) (gs ts : List SetValue) → AreObjects s tupleset names gs
    → AreTargeted s tupleset names gs [] ts → AreTargets s tupleset names ts
all_targeted s tupleset names gs ts objects are = record {
  each = are.each;
  led = λ g c named matters.
      let w = objects.matter g c named matters in
      let same : with_relation w.0 c ≡ with_relation g c = (λ i. record { namespace = w.2.namespace i; id = w.2.id i; relation = c }) in
      let declared : ¬ (rules_in s w.0.namespace c ≡ None) = subst (λ (x : List ℕ). ¬ (rules_in s x c ≡ None)) (sym w.2.namespace) matters.1 in
      elim (are.led w.0 c w.1 named declared) [
        | inl there ↦ subst (Contains ts) same there
        | inr left ↦ absurd (not_in_nil w.0 left)
      ];
  few =
      let before = are.few in
      let swap = each_under_each gs (length (stored_sets (tuples_in s) tupleset)) (no_more s tupleset gs objects.stored) names in
      omega (arith, before, swap);
}

-- where nothing matters that is stored, nothing is given
pub no_targets : (s : Snapshot) (tupleset : SetValue) (names : List (List ℕ)) → AreObjects s tupleset names [] → AreTargets s tupleset names []
no_targets s tupleset names objects = all_targeted s tupleset names [] [] objects (none_targeted s tupleset names [])

-- of a namespace that declares none of some names
pub none_read : (rules : List ℕ → Option Rule) (names : List (List ℕ)) → ((c : List ℕ) → Contains names c → rules c ≡ None) → AreRead rules names []
none_read rules names none = record {
  few = omega arith;
  read = λ c there. absurd (not_in_nil c there);
  declared = λ c there declared. absurd (declared (none c there));
}
