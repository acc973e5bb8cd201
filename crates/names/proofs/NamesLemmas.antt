-- Where names stand, and what is kept under them.
use Rattle.std.proofs.Common.{◌≡◌, ℕ, zero, suc, ◌+◌, ◌<◌, nat_lt, Bool, true, false, cond, List, [], ◌∷◌, ◌++◌, length, slice_get, slice_set, slice_index_or, position, Option, None, Some, option_map, is_some, String, Global, string_bytes, refl, sym, ap, ◌∙◌, arith, true≢false}
use Rattle.std.specs.BTreeMap as tree
use Rattle.std.specs.List.{position_or_len}
use Rattle.std.specs.Str.{bytes_eq}
use Rattle.std.specs.String.{string_cmp}
use Rattle.std.specs.BTreeMap.{BTreeMap}
use Rattle.std.proofs.lemmas.Bool.Decides.{nat_tests}
use Rattle.std.proofs.lemmas.Slice.Eq.{bytes_eq-Decides}
use Rattle.std.proofs.lemmas.Map.Text.{btree_map_updates_text}
use Rattle.names.specs.Names.{is_named, place_of, value_of, with_value, ArePlaces, StandOnce}

pub by_bool : {A : Type 0} (b : Bool) → (b ≡ true → A) → (b ≡ false → A) → A
by_bool true t f = t refl
by_bool false t f = f refl

clash : {A : Type 0} (b : Bool) → b ≡ true → b ≡ false → A
clash b t f = absurd (true≢false (sym t ∙ f))

pub position_cons : {X : Type 0} (p : X → Bool) (x : X) (xs : List X) → position p (x ∷ xs) ≡ cond (p x) (Some 0) (option_map suc (position p xs))
position_cons p x xs = by_bool (p x) (λ t. let some : nat_lt 0 (suc (length xs)) ≡ true = grind (arith, nat_tests) in rw (t, some) refl) (λ f. rw f (further (position_or_len p xs) (length xs)))
  where
    further : (i n : ℕ) → cond (nat_lt (1 + i) (suc n)) (Some (1 + i)) None ≡ option_map suc (cond (nat_lt i n) (Some i) None)
    further i n = by_bool (nat_lt i n)
        (λ t. let less : nat_lt (1 + i) (suc n) ≡ true = grind (arith, nat_tests) in let one : 1 + i ≡ suc i = omega arith in rw (t, less) (ap Some one))
        (λ f. let past : nat_lt (1 + i) (suc n) ≡ false = grind (arith, nat_tests) in rw (f, past) refl)

module _ {X : Type 0} (p : X → Bool) where
  -- one item more that does not pass
  pub position_more : (xs : List X) (y : X) → p y ≡ false → position p (xs ++ y ∷ []) ≡ position p xs
  position_more [] y f = position_cons p y [] ∙ rw f refl
  position_more (x ∷ xs) y f = position_cons p x (xs ++ y ∷ []) ∙ rw (position_more xs y f) (sym (position_cons p x xs))

  -- one more behind the first that passes
  position_kept : (xs : List X) (y : X) (i : ℕ) → position p xs ≡ Some i → position p (xs ++ y ∷ []) ≡ Some i
  position_kept [] y i h = cc
  position_kept (x ∷ xs) y i h = by_bool (p x)
      (λ t. position_cons p x (xs ++ y ∷ []) ∙ rw t (sym (position_cons p x xs ∙ rw t refl) ∙ h))
      (λ f. position_cons p x (xs ++ y ∷ []) ∙ rw f (later (position p xs) refl (position_kept xs y) (sym (position_cons p x xs ∙ rw f refl) ∙ h)))
    where
      later : (o : Option ℕ) → position p xs ≡ o → ((k : ℕ) → position p xs ≡ Some k → position p (xs ++ y ∷ []) ≡ Some k) → option_map suc (position p xs) ≡ Some i → option_map suc (position p (xs ++ y ∷ [])) ≡ Some i
      later None is further g = let c : option_map suc None ≡ Some i = rw is at g in cc
      later (Some k) is further g = ap (option_map suc) (further k is) ∙ (rw is at g)

  -- one more that is the first to pass
  pub position_first : (xs : List X) (y : X) → position p xs ≡ None → p y ≡ true → position p (xs ++ y ∷ []) ≡ Some (length xs)
  position_first [] y none t = position_cons p y [] ∙ rw t refl
  position_first (x ∷ xs) y none t = by_bool (p x)
      (λ h. let some : Some 0 ≡ None = rw (position_cons p x xs, h) at none in cc)
      (λ f. position_cons p x (xs ++ y ∷ []) ∙ rw (f, position_first xs y (unmapped (position p xs) (rw (position_cons p x xs, f) at none)) t) refl)
    where
      unmapped : (o : Option ℕ) → option_map suc o ≡ None → o ≡ None
      unmapped None h = refl
      unmapped (Some k) h = cc

position-with_value : {V : Type 0} (p : String Global → Bool) (i : ℕ) (w : V) (es : List (String Global × V)) → position (λ e. p e.0) (with_value i w es) ≡ position (λ e. p e.0) es
position-with_value p i w [] = refl
position-with_value p zero w (e ∷ es) = position_cons (λ x. p x.0) (e.0, w) es ∙ sym (position_cons (λ x. p x.0) e es)
position-with_value p (suc i) w (e ∷ es) =
    position_cons (λ x. p x.0) e (with_value i w es) ∙ rw (position-with_value p i w es) (sym (position_cons (λ x. p x.0) e es))

module _ {V : Type 0} where
  -- what a name is led to
  pub record Stands (name : List ℕ) (es : List (String Global × V)) (i : ℕ) : Type 0 where
    pub entry : String Global × V
    pub there : slice_get es i ≡ Some entry
    pub value : value_of name es ≡ Some entry.1
    pub within : i < length es

  placed_later : (name : List ℕ) (e : String Global × V) (es : List (String Global × V)) (i : ℕ) → is_named name e.0 ≡ false
      → ((k : ℕ) → place_of name es ≡ Some k → Stands name es k) → option_map suc (place_of name es) ≡ Some i → Stands name (e ∷ es) i
  placed_later name e es i f later h = by (place_of name es) refl
    where
      by : (o : Option ℕ) → place_of name es ≡ o → Stands name (e ∷ es) i
      by None is = let c : option_map suc None ≡ Some i = rw is at h in cc
      by (Some k) is =
          let at : suc k ≡ i = let c : option_map suc (Some k) ≡ Some i = rw is at h in cc in
          let s = later k is in
          rw (← at) (record { entry = s.entry; there = s.there; value = rw f s.value; within = let w = s.within in omega arith })

  pub stands : (name : List ℕ) (es : List (String Global × V)) (i : ℕ) → place_of name es ≡ Some i → Stands name es i
  stands name [] i h = cc
  stands name (e ∷ es) i h = by_bool (is_named name e.0)
      (λ t. let zero_is : 0 ≡ i = let g : Some 0 ≡ Some i = sym (position_cons (λ x. is_named name x.0) e es ∙ rw t refl) ∙ h in cc in
      rw (← zero_is) (record { entry = e; there = refl; value = rw t refl; within = omega arith }))
      (λ f. placed_later name e es i f (stands name es) (sym (position_cons (λ x. is_named name x.0) e es ∙ rw f refl) ∙ h))

  -- where it stands nowhere, nothing is kept under it
  pub stands_nowhere : (name : List ℕ) (es : List (String Global × V)) → place_of name es ≡ None → value_of name es ≡ None
  stands_nowhere name [] h = refl
  stands_nowhere name (e ∷ es) h = by_bool (is_named name e.0)
      (λ t. let some : Some 0 ≡ None = rw (position_cons (λ x. is_named name x.0) e es, t) at h in cc)
      (λ f. rw f (stands_nowhere name es (unmapped (place_of name es) (rw (position_cons (λ x. is_named name x.0) e es, f) at h))))
    where
      unmapped : (o : Option ℕ) → option_map suc o ≡ None → o ≡ None
      unmapped None h = refl
      unmapped (Some k) h = cc

  pub found_there : (name : List ℕ) (es : List (String Global × V)) → is_some (place_of name es) ≡ is_some (value_of name es)
  found_there name es = by (place_of name es) refl
    where
      by : (o : Option ℕ) → place_of name es ≡ o → is_some (place_of name es) ≡ is_some (value_of name es)
      by None is = rw (is, stands_nowhere name es is) refl
      by (Some i) is = rw (is, (stands name es i is).value) refl

  there_in_front : (es : List (String Global × V)) (e : String Global × V) (i : ℕ) (y : String Global × V) → slice_get es i ≡ Some y → slice_get (es ++ e ∷ []) i ≡ Some y
  there_in_front [] e i y h = cc
  there_in_front (x ∷ es) e zero y h = h
  there_in_front (x ∷ es) e (suc i) y h = there_in_front es e i y h

  there_behind : (es : List (String Global × V)) (e : String Global × V) (i : ℕ) (y : String Global × V) → slice_get es i ≡ None → slice_get (es ++ e ∷ []) i ≡ Some y → (i ≡ length es) × (y ≡ e)
  there_behind [] e zero y none h = (refl, let same : y ≡ e = cc in same)
  there_behind [] e (suc i) y none h = cc
  there_behind (x ∷ es) e zero y none h = cc
  there_behind (x ∷ es) e (suc i) y none h = let last = there_behind es e i y none h in (ap suc last.0, last.1)

  pub there_at : (es : List (String Global × V)) (i : ℕ) (e : String Global × V) → i < length es → e ≡ slice_index_or es i e → slice_get es i ≡ Some e
  there_at [] i e within at = absurd (omega arith)
  there_at (x ∷ es) zero e within at = ap Some (sym at)
  there_at (x ∷ es) (suc i) e within at = there_at es i e (omega arith) at

  pub there_tested : (es : List (String Global × V)) (i : ℕ) (e : String Global × V) → true ≡ nat_lt i (length es) → e ≡ slice_index_or es i e → slice_get es i ≡ Some e
  there_tested es i e less at = let within : nat_lt i (length es) ≡ true = sym less in there_at es i e (grind (arith, nat_tests)) at

  nowhere : (e : String Global × V) (es : List (String Global × V)) → is_some (value_of (string_bytes e.0) es) ≡ false → place_of (string_bytes e.0) es ≡ None
  nowhere e es absent = none (place_of (string_bytes e.0) es) (found_there (string_bytes e.0) es ∙ absent)
    where
      none : (o : Option ℕ) → is_some o ≡ false → o ≡ None
      none None h = refl
      none (Some x) h = cc

  -- each name is led to its place after one more was put
  pub places_put : (old new : BTreeMap (String Global) ℕ) (es : List (String Global × V)) (e : String Global × V) (k : String Global) → string_bytes k ≡ string_bytes e.0 → ArePlaces old es
      → is_some (value_of (string_bytes e.0) es) ≡ false
      → tree.Updates string_cmp old new k (Some (length es)) → ArePlaces new (es ++ e ∷ [])
  places_put old new es e k copied places absent updates name =
      btree_map_updates_text (string_bytes k) old new (Some (length es)) updates name
      ∙ ap (λ n. cond (bytes_eq n name) (Some (length es)) (tree.get_by_text old name)) copied
      ∙ by_bool (bytes_eq (string_bytes e.0) name)
      (λ t. rw (t, ← one t) (sym (position_first (λ x. is_named (string_bytes e.0) x.0) es e (nowhere e es absent) ((bytes_eq-Decides (string_bytes e.0) (string_bytes e.0)).1 refl))))
      (λ f. rw f (places name ∙ sym (position_more (λ x. is_named name x.0) es e (other f))))
    where
      one : bytes_eq (string_bytes e.0) name ≡ true → string_bytes e.0 ≡ name
      one t = (bytes_eq-Decides (string_bytes e.0) name).0 t

      other : bytes_eq (string_bytes e.0) name ≡ false → bytes_eq name (string_bytes e.0) ≡ false
      other f = by_bool (bytes_eq name (string_bytes e.0))
          (λ t. clash (bytes_eq (string_bytes e.0) name) ((bytes_eq-Decides (string_bytes e.0) name).1 (sym ((bytes_eq-Decides name (string_bytes e.0)).0 t))) f)
          (λ g. g)

  -- what is kept under a name says nothing of where names stand
  pub places_kept : (places : BTreeMap (String Global) ℕ) (i : ℕ) (w : V) (es : List (String Global × V)) → ArePlaces places es → ArePlaces places (with_value i w es)
  places_kept places i w es led name = led name ∙ sym (position-with_value (is_named name) i w es)

  pub set_there : (es : List (String Global × V)) (i : ℕ) (e : String Global × V) (w : V) → i < length es → e ≡ slice_index_or es i e → slice_set es i (e.0, w) ≡ with_value i w es
  set_there [] i e w within at = absurd (omega arith)
  set_there (x ∷ es) zero e w within at = rw (← at) refl
  set_there (x ∷ es) (suc i) e w within at = ap (λ r. x ∷ r) (set_there es i e w (omega arith) at)

  -- the name of each, when one more was put
  pub once_put : (es : List (String Global × V)) (e : String Global × V) → StandOnce es → is_some (value_of (string_bytes e.0) es) ≡ false → StandOnce (es ++ e ∷ [])
  once_put es e once absent i x at = by_place (slice_get es i) refl
    where
      by_place : (o : Option (String Global × V)) → slice_get es i ≡ o → place_of (string_bytes x.0) (es ++ e ∷ []) ≡ Some i
      by_place (Some y) is =
          let same : y ≡ x = let both : Some y ≡ Some x = sym (there_in_front es e i y is) ∙ at in cc in
          rw (← same) (position_kept (λ k. is_named (string_bytes y.0) k.0) es e i (once i y is))
      by_place None is =
          let last = there_behind es e i x is at in
          rw (last.0, last.1) (position_first (λ k. is_named (string_bytes e.0) k.0) es e (nowhere e es absent) ((bytes_eq-Decides (string_bytes e.0) (string_bytes e.0)).1 refl))

  -- and when what is kept under one is another
  pub once_kept : (i : ℕ) (w : V) (es : List (String Global × V)) → StandOnce es → StandOnce (with_value i w es)
  once_kept i w es once k e at =
      let was = entry_before i w es k e at in
      position-with_value (is_named (string_bytes e.0)) i w es ∙ rw was.2 (once k was.0 was.1)
    where
      entry_before : (i : ℕ) (w : V) (es : List (String Global × V)) (k : ℕ) (e : String Global × V) → slice_get (with_value i w es) k ≡ Some e
          → (x : String Global × V) × (slice_get es k ≡ Some x) × (e.0 ≡ x.0)
      entry_before i w [] k e at = cc
      entry_before zero w (x ∷ es) zero e at = let same : (x.0, w) ≡ e = cc in (x, refl, ap (λ p. p.0) (sym same))
      entry_before zero w (x ∷ es) (suc k) e at = (e, at, refl)
      entry_before (suc i) w (x ∷ es) zero e at = let same : x ≡ e = cc in (x, refl, ap (λ p. p.0) (sym same))
      entry_before (suc i) w (x ∷ es) (suc k) e at = entry_before i w es k e at

  -- what stands at a place is what is kept under its name
  pub value_there : (es : List (String Global × V)) (i : ℕ) (e : String Global × V) → StandOnce es → slice_get es i ≡ Some e → value_of (string_bytes e.0) es ≡ Some e.1
  value_there es i e once at =
      let s = stands (string_bytes e.0) es i (once i e at) in
      let same : s.entry ≡ e = let both : Some s.entry ≡ Some e = sym s.there ∙ at in cc in
      s.value ∙ ap (λ x. Some x.1) same
