-- Links of the arena, read as facts of its touches.
use Rattle.std.proofs.Common.{◌≡◌, ◌≢◌, ℕ, zero, suc, ◌<◌, ◌≤◌, Bool, true, false, cond, List, [], ◌∷◌, ◌++◌, length, map, refl, sym, ◌∙◌, ap, subst, Option, None, Some, ◌⊎◌, inl, inr, arith, nat_eq, ne_eqb}
use Rattle.std.specs.Prelude.{slice_get, slice_set, unwrap_or, option_map}
use Rattle.std.proofs.lemmas.List.{length-map, map-append}
use Rattle.std.proofs.lemmas.Option.{slice_get_within, slice_get_cases, slice_get-map}
use Rattle.std.proofs.lemmas.Bool.{eqb-true, eq-eqb}
use Rattle.tuple_text.specs.Tuples.{TupleValue}
use Rattle.tuple_text.specs.Order.{tuple_eq}
use Rattle.tuple_text.specs.OrderLaws.{tuple_equiv}
use Rattle.tuple_text.proofs.ValueLemmas.{tuple_eq-same, tuple_eq-itself}
use Rattle.version_chains.specs.Commits.{Touch}
use Rattle.marks.specs.Placed.{indices_of, last_place, passes}
use Rattle.marks.specs.Marks.{held_mark, tuple_mark}
use Rattle.version_chains.specs.Arena.{Held, IsLinked, touch_of, nobody, AreApartAt, AreUpTo}
use Rattle.version_chains.specs.Given.{AreTouchesKnown, FindsNumber, IsUnnumbered}
use Rattle.version_chains.specs.Jumps.{AreJumps, IsBack}
use Rattle.version_chains.specs.declared.node.Node.{Node}
use Rattle.marks.proofs.LeftLemmas.{AreLeft, left_none, tuples_left}
use Rattle.marks.proofs.PlacedLemmas.{last_place-here, last_place-same, last_place-front, last_place-more, last_place-none, last_place-map, at_last_place, slice_get-cases, slice_get-kept, slice_get-next, slice_get-set, slice_get-front, length-more, length-set, map-same_items}

-- an item within a list
pub item_within : {X : Type 0} (xs : List X) (i : ℕ) → i < length xs → (x : X) × (slice_get xs i ≡ Some x)
item_within xs i h = elim (slice_get_cases xs i).1 [
  | inl w ↦ (w.0, w.2)
  | inr past ↦ absurd (let p = past.0 in omega (arith, h, p))
]

-- a tuple that has no number has no touch
pub finds_none : (h : Held) (t : TupleValue) → AreTouchesKnown h → IsUnnumbered h t → FindsNumber h t None
finds_none h t known none = record {
  found = none;
  untouched = λ _ i x at. let w = known i x at in none w.0 x.tuple w.1;
}

-- what an item is to a function
pub item_of : {X Y : Type 0} (f : X → Y) (xs : List X) (i : ℕ) (x : X) → slice_get xs i ≡ Some x → slice_get (map f xs) i ≡ Some (f x)
item_of f xs i x at = slice_get-map f xs i ∙ ap (option_map f) at

-- a mark that stands at no place
no_indices : (mark : ℕ) (marks : List ℕ) (n : ℕ) → last_place (nat_eq mark) marks n ≡ 0 → indices_of mark marks n ≡ []
no_indices mark marks zero e = refl
no_indices mark marks (suc n) e = pick (passes (nat_eq mark) (slice_get marks n)) e (no_indices mark marks n)
  where
    pick : (b : Bool) → cond b (suc n) (last_place (nat_eq mark) marks n) ≡ 0 → (last_place (nat_eq mark) marks n ≡ 0 → indices_of mark marks n ≡ [])
        → cond b (n ∷ indices_of mark marks n) (indices_of mark marks n) ≡ []
    pick true bad none = absurd cc
    pick false e none = none e

-- is that of no tuple
pub unmarked : (t : TupleValue) (tuples : List TupleValue) (named : List ℕ) → named ≡ map tuple_mark tuples → last_place (nat_eq (tuple_mark t)) named (length named) ≡ 0
    → (i : ℕ) (u : TupleValue) → slice_get tuples i ≡ Some u → tuple_eq u t ≡ false
unmarked t tuples named are none = left_none (λ u. tuple_eq u t) tuples
    (subst (AreLeft (λ u. tuple_eq u t) tuples) (no_indices (tuple_mark t) named (length named) none) (tuples_left t tuples named are))

-- tuples are equal where their numbers are
pub tuples_by_number : (tuples : List TupleValue) → AreApartAt tuples → (a b : ℕ) (t u : TupleValue) → slice_get tuples a ≡ Some t → slice_get tuples b ≡ Some u → nat_eq a b ≡ tuple_eq t u
tuples_by_number tuples apart a b t u at bt = by_tests (nat_eq a b) (tuple_eq t u) refl refl
  where
    by_tests : (p q : Bool) → nat_eq a b ≡ p → tuple_eq t u ≡ q → p ≡ q
    by_tests true true e f = refl
    by_tests false false e f = refl
    by_tests true false e f =
        let s : Some t ≡ Some u = sym at ∙ subst (λ (j : ℕ). slice_get tuples j ≡ Some u) (sym (eqb-true a b e)) bt in
        let same : t ≡ u = cc in
        sym (tuple_eq-itself t) ∙ subst (λ (v : TupleValue). tuple_eq t v ≡ false) (sym same) f
    by_tests false true e f =
        let same : a ≡ b = apart a b t at (subst (λ (v : TupleValue). slice_get tuples b ≡ Some v) (sym (tuple_eq-same t u f)) bt) in
        sym e ∙ eq-eqb a b same

-- no touch is after a timestamp, and so no node
pub up_to_nodes : (tuples : List TupleValue) (nodes : List Node) (at : ℕ) → AreUpTo at (map (touch_of tuples) nodes) → (i : ℕ) (n : Node) → slice_get nodes i ≡ Some n → n.at ≤ at
up_to_nodes tuples nodes at up i n here = up i (touch_of tuples n) (item_of (touch_of tuples) nodes i n here)

-- one more touch
pub touches-more : (tuples : List TupleValue) (nodes : List Node) (n : Node) (t : TupleValue) → slice_get tuples n.tuple ≡ Some t
    → map (touch_of tuples) (nodes ++ n ∷ []) ≡ map (touch_of tuples) nodes ++ record { at = n.at; live = n.live; tuple = t } ∷ []
touches-more tuples nodes n t at =
    map-append (touch_of tuples) nodes (n ∷ [])
    ∙ ap (λ (o : Option TupleValue). map (touch_of tuples) nodes ++ record { at = n.at; live = n.live; tuple = unwrap_or o nobody } ∷ []) at

module _ (tuples : List TupleValue) (latest named held : List ℕ) (nodes : List Node) (is : IsLinked tuples latest named held nodes) where
  -- a touch is one of this tuple where it has the tuple's number
  touch_by_number : (k : ℕ) (t : TupleValue) → slice_get tuples k ≡ Some t → (i : ℕ) (n : Node) → slice_get nodes i ≡ Some n → tuple_eq (touch_of tuples n).tuple t ≡ nat_eq k n.tuple
  touch_by_number k t at i n here =
      let w = item_within tuples n.tuple (is.known i n here) in
      ap (λ (o : Option TupleValue). tuple_eq (unwrap_or o nobody) t) w.1
      ∙ tuple_equiv.symm w.0 t
      ∙ sym (tuples_by_number tuples is.apart k n.tuple t w.0 at w.1)

  -- the last place of a touch of this tuple
  pub last_touch : (k : ℕ) (t : TupleValue) → slice_get tuples k ≡ Some t → (n : ℕ) → last_place (λ x. tuple_eq x.tuple t) (map (touch_of tuples) nodes) n ≡ last_place (λ m. nat_eq k m.tuple) nodes n
  last_touch k t at n =
      last_place-map (touch_of tuples) (λ x. tuple_eq x.tuple t) nodes n
      ∙ last_place-same (λ m. tuple_eq (touch_of tuples m).tuple t) (λ m. nat_eq k m.tuple) nodes (touch_by_number k t at) n

  -- which is the last place where the touch there is of the tuple, and else the last place of one before it
  pub last_touch_here : (k : ℕ) (t : TupleValue) → slice_get tuples k ≡ Some t → (m : ℕ) (n : Node) → slice_get nodes m ≡ Some n → n.tuple ≡ k → suc m ≡ last_place (λ x. tuple_eq x.tuple t) (map (touch_of tuples) nodes) (suc m)
  last_touch_here k t at m n here same = sym (last_touch k t at (suc m) ∙ last_place-here (λ (x : Node). nat_eq k x.tuple) nodes m n here (eq-eqb k n.tuple (sym same)))

  pub last_touch_before : (k : ℕ) (t : TupleValue) → slice_get tuples k ≡ Some t → (m : ℕ) (n : Node) → slice_get nodes m ≡ Some n → n.tuple ≢ k
      → last_place (λ x. tuple_eq x.tuple t) (map (touch_of tuples) nodes) m ≡ last_place (λ x. tuple_eq x.tuple t) (map (touch_of tuples) nodes) (suc m)
  last_touch_before k t at m n here other =
      let apart : nat_eq k n.tuple ≡ false = ne_eqb k n.tuple (λ e. other (sym e)) in
      last_touch k t at m ∙ rw (here, apart) refl ∙ sym (last_touch k t at (suc m))

  pub newest_touch : (k p : ℕ) (t : TupleValue) → slice_get tuples k ≡ Some t → slice_get latest k ≡ Some p → p ≡ last_place (λ x. tuple_eq x.tuple t) (map (touch_of tuples) nodes) (length (map (touch_of tuples) nodes))
  newest_touch k p t at here =
      is.newest k p here
      ∙ sym (last_touch k t at (length nodes))
      ∙ ap (last_place (λ x. tuple_eq x.tuple t) (map (touch_of tuples) nodes)) (sym (length-map nodes (touch_of tuples)))

  pub has_newest : {G : Type 0} (k : ℕ) (t : TupleValue) → slice_get tuples k ≡ Some t → length latest ≤ k → G
  has_newest k t at past =
      let h = slice_get_within tuples k t at in
      let e = is.counted in
      absurd (omega (arith, h, e, past))

  -- what a touch and its link say
  pub touch_at : (i : ℕ) (n : Node) → slice_get nodes i ≡ Some n
      → (x : Touch) × (slice_get (map (touch_of tuples) nodes) i ≡ Some x) × (n.at ≡ x.at) × (n.live ≡ x.live) × (n.older ≡ last_place (λ y. tuple_eq y.tuple x.tuple) (map (touch_of tuples) nodes) i)
  touch_at i n here =
      let w = item_within tuples n.tuple (is.known i n here) in
      let e : (touch_of tuples n).tuple ≡ w.0 = ap (λ (o : Option TupleValue). unwrap_or o nobody) w.1 in (
        touch_of tuples n,
        item_of (touch_of tuples) nodes i n here,
        refl,
        refl,
        is.earlier i n here ∙ sym (last_touch n.tuple w.0 w.1 i) ∙ ap (λ (t : TupleValue). last_place (λ y. tuple_eq y.tuple t) (map (touch_of tuples) nodes) i) (sym e),
      )

  -- each touch is of a tuple that is there
  pub touches_known : (i : ℕ) (x : Touch) → slice_get (map (touch_of tuples) nodes) i ≡ Some x → (k : ℕ) × (slice_get tuples k ≡ Some x.tuple)
  touches_known i x here = pick (slice_get nodes i) refl (sym (slice_get-map (touch_of tuples) nodes i) ∙ here)
    where
      pick : (o : Option Node) → slice_get nodes i ≡ o → option_map (touch_of tuples) o ≡ Some x → (k : ℕ) × (slice_get tuples k ≡ Some x.tuple)
      pick None e h = absurd cc
      pick (Some n) e h =
          let w = item_within tuples n.tuple (is.known i n e) in
          let same : touch_of tuples n ≡ x = cc in
          let tuple : w.0 ≡ x.tuple = sym (ap (λ (o : Option TupleValue). unwrap_or o nobody) w.1) ∙ ap (λ (y : Touch). y.tuple) same in
          (n.tuple, w.1 ∙ ap Some tuple)

  -- tuples by their marks
  pub sibling_by_mark : (k p : ℕ) (t : TupleValue) → slice_get tuples k ≡ Some t → ((mark : ℕ) → slice_get held k ≡ Some mark → p ≡ last_place (nat_eq mark) held k) → p ≡ last_place (λ u. nat_eq (held_mark t) (held_mark u)) tuples k
  sibling_by_mark k p t at older =
      older (held_mark t) (ap (λ (ms : List ℕ). slice_get ms k) is.sets ∙ slice_get-map held_mark tuples k ∙ ap (option_map held_mark) at)
      ∙ ap (λ (ms : List ℕ). last_place (nat_eq (held_mark t)) ms k) is.sets
      ∙ last_place-map held_mark (nat_eq (held_mark t)) tuples k

  -- the new touch jumps to itself, or to where the links of the touch before it lead
  abbrev pub JumpsOn : Node → Type 0
  JumpsOn n = (n.older ≡ 0 → n.jump ≡ suc (length nodes)) × (AreJumps nodes → (i : ℕ) (m : Node) → n.older ≡ suc i → slice_get nodes i ≡ Some m → IsBack nodes m.tuple i n.jump)

  -- with one more touch
  pub more_touches : (n : Node) → n.tuple < length tuples → slice_get latest n.tuple ≡ Some n.older → JumpsOn n → ((i : ℕ) (m : Node) → slice_get nodes i ≡ Some m → m.at ≤ n.at) → IsLinked tuples (slice_set latest n.tuple (suc (length nodes))) named held (nodes ++ n ∷ [])
  more_touches n known here on late = record {
    apart = is.apart;
    names = is.names;
    sets = is.sets;
    known = λ i m h. elim (slice_get-cases nodes n i m h) [
      | inl old ↦ is.known i m old
      | inr new ↦ subst (λ (x : Node). x.tuple < length tuples) new.1 known
    ];
    earlier = λ i m h. earlier i m (slice_get-cases nodes n i m h);
    counted = length-set latest n.tuple (suc (length nodes)) ∙ is.counted;
    jumps = λ i m h. jumps i m (slice_get-cases nodes n i m h);
    rising = λ i j m o h k l. rising i j m o h (slice_get-cases nodes n i m k) (slice_get-cases nodes n j o l);
    newest = λ k p h. newest k p (slice_get-set latest n.tuple k p (suc (length nodes)) h);
  }
    where
      before : (k i : ℕ) → i ≤ length nodes → last_place (λ m. nat_eq k m.tuple) nodes i ≡ last_place (λ m. nat_eq k m.tuple) (nodes ++ n ∷ []) i
      before k i h = sym (last_place-front (λ m. nat_eq k m.tuple) nodes (n ∷ []) i h)

      earlier : (i : ℕ) (m : Node) → (slice_get nodes i ≡ Some m) ⊎ ((i ≡ length nodes) × (n ≡ m)) → m.older ≡ last_place (λ o. nat_eq m.tuple o.tuple) (nodes ++ n ∷ []) i
      earlier i m (inl old) = let within = slice_get_within nodes i m old in is.earlier i m old ∙ before m.tuple i (omega (arith, within))
      earlier i m (inr new) =
          let all : length nodes ≤ length nodes = omega arith in
          subst (λ (x : Node). x.older ≡ last_place (λ o. nat_eq x.tuple o.tuple) (nodes ++ n ∷ []) i) new.1
          (subst (λ (j : ℕ). n.older ≡ last_place (λ o. nat_eq n.tuple o.tuple) (nodes ++ n ∷ []) j) (sym new.0) (is.newest n.tuple n.older here ∙ before n.tuple (length nodes) all))

      kept_back : (tuple i place : ℕ) → IsBack nodes tuple i place → (k : ℕ) → i ≤ k → IsBack (nodes ++ n ∷ []) tuple k place
      kept_back tuple i place b k h = let near = b.3 in (b.0, b.1, b.2, omega (arith, near, h), slice_get-kept nodes (n ∷ []) b.0 b.1 b.4, b.5)

      by_older : (older : ℕ) → n.older ≡ older → IsBack (nodes ++ n ∷ []) n.tuple (length nodes) n.jump
      by_older zero e = (length nodes, n, on.0 e, omega arith, slice_get-next nodes n, refl)
      by_older (suc k) e =
          let w = at_last_place (λ m. nat_eq n.tuple m.tuple) nodes (length nodes) k (sym (is.newest n.tuple n.older here) ∙ e) in
          let less = w.3 in
          let same : w.0.tuple ≡ n.tuple = sym (eqb-true n.tuple w.0.tuple w.2) in
          kept_back n.tuple k n.jump (subst (λ (t : ℕ). IsBack nodes t k n.jump) same (on.1 is.jumps k w.0 e w.1)) (length nodes) (omega (arith, less))

      jumps : (i : ℕ) (m : Node) → (slice_get nodes i ≡ Some m) ⊎ ((i ≡ length nodes) × (n ≡ m)) → IsBack (nodes ++ n ∷ []) m.tuple i m.jump
      jumps i m (inl old) = kept_back m.tuple i m.jump (is.jumps i m old) i (omega arith)
      jumps i m (inr new) =
          subst (λ (x : Node). IsBack (nodes ++ n ∷ []) x.tuple i x.jump) new.1
          (subst (λ (k : ℕ). IsBack (nodes ++ n ∷ []) n.tuple k n.jump) (sym new.0) (by_older n.older refl))

      rising : (i j : ℕ) (m o : Node) → i ≤ j → (slice_get nodes i ≡ Some m) ⊎ ((i ≡ length nodes) × (n ≡ m)) → (slice_get nodes j ≡ Some o) ⊎ ((j ≡ length nodes) × (n ≡ o)) → m.at ≤ o.at
      rising i j m o h (inl k) (inl l) = is.rising i j m o h k l
      rising i j m o h (inl k) (inr l) = subst (λ (x : Node). m.at ≤ x.at) l.1 (late i m k)
      rising i j m o h (inr k) (inl l) = let less = slice_get_within nodes j o l in let e = k.0 in absurd (omega (arith, h, less, e))
      rising i j m o h (inr k) (inr l) = let same = ap (λ (x : Node). x.at) (sym k.1 ∙ l.1) in omega (arith, same)

      newest : (k p : ℕ) → ((k ≡ n.tuple) × (suc (length nodes) ≡ p)) ⊎ ((k ≢ n.tuple) × (slice_get latest k ≡ Some p)) → p ≡ last_place (λ m. nat_eq k m.tuple) (nodes ++ n ∷ []) (length (nodes ++ n ∷ []))
      newest k p (inl new) = sym new.1 ∙ sym (last_place-more (λ m. nat_eq k m.tuple) nodes n ∙ ap (λ (b : Bool). cond b (suc (length nodes)) (last_place (λ m. nat_eq k m.tuple) nodes (length nodes))) (eq-eqb k n.tuple new.0))
      newest k p (inr old) = is.newest k p old.1 ∙ sym (last_place-more (λ m. nat_eq k m.tuple) nodes n ∙ ap (λ (b : Bool). cond b (suc (length nodes)) (last_place (λ m. nat_eq k m.tuple) nodes (length nodes))) (ne_eqb k n.tuple old.0))

  -- with one more tuple
  pub more_tuples : (t : TupleValue) → ((i : ℕ) (u : TupleValue) → slice_get tuples i ≡ Some u → tuple_eq u t ≡ false)
      → IsLinked (tuples ++ t ∷ []) (latest ++ 0 ∷ []) (named ++ tuple_mark t ∷ []) (held ++ held_mark t ∷ []) nodes
  more_tuples t absent = record {
    apart = λ i j u h k. apart i j u (slice_get-cases tuples t i u h) (slice_get-cases tuples t j u k);
    names = ap (λ (ms : List ℕ). ms ++ tuple_mark t ∷ []) is.names ∙ sym (map-append tuple_mark tuples (t ∷ []));
    sets = ap (λ (ms : List ℕ). ms ++ held_mark t ∷ []) is.sets ∙ sym (map-append held_mark tuples (t ∷ []));
    known = λ i n h. let less = is.known i n h in let e = length-more tuples t in omega (arith, less, e);
    earlier = is.earlier;
    jumps = is.jumps;
    rising = is.rising;
    counted = length-more latest 0 ∙ ap suc is.counted ∙ sym (length-more tuples t);
    newest = λ k p h. newest k p (slice_get-cases latest 0 k p h);
  }
    where
      twice : {G : Type 0} (i : ℕ) (u : TupleValue) → slice_get tuples i ≡ Some u → t ≡ u → G
      twice i u h same = absurd (let z : true ≡ false = sym (tuple_eq-itself t) ∙ subst (λ (v : TupleValue). tuple_eq v t ≡ false) (sym same) (absent i u h) in cc)

      apart : (i j : ℕ) (u : TupleValue) → (slice_get tuples i ≡ Some u) ⊎ ((i ≡ length tuples) × (t ≡ u)) → (slice_get tuples j ≡ Some u) ⊎ ((j ≡ length tuples) × (t ≡ u)) → i ≡ j
      apart i j u (inl h) (inl k) = is.apart i j u h k
      apart i j u (inl h) (inr k) = twice i u h k.1
      apart i j u (inr h) (inl k) = twice j u k h.1
      apart i j u (inr h) (inr k) = h.0 ∙ sym k.0

      newest : (k p : ℕ) → (slice_get latest k ≡ Some p) ⊎ ((k ≡ length latest) × (0 ≡ p)) → p ≡ last_place (λ m. nat_eq k m.tuple) nodes (length nodes)
      newest k p (inl h) = is.newest k p h
      newest k p (inr h) = sym h.1 ∙ sym (last_place-none (λ m. nat_eq k m.tuple) nodes (λ i n e. free i n e (nat_eq k n.tuple) refl) (length nodes))
        where
          free : (i : ℕ) (n : Node) → slice_get nodes i ≡ Some n → (b : Bool) → nat_eq k n.tuple ≡ b → b ≡ false
          free i n e false t = refl
          free i n e true t = absurd (let less = is.known i n e in let same = eqb-true k n.tuple t in let place = h.0 in let count = is.counted in omega (arith, less, same, place, count))

  -- and what the touches are then
  pub same_touches : (t : TupleValue) → map (touch_of (tuples ++ t ∷ [])) nodes ≡ map (touch_of tuples) nodes
  same_touches t =
      map-same_items (touch_of (tuples ++ t ∷ [])) (touch_of tuples) nodes
      (λ i n h. ap (λ (o : Option TupleValue). record { at = n.at; live = n.live; tuple = unwrap_or o nobody }) (slice_get-front tuples (t ∷ []) n.tuple (is.known i n h)))
