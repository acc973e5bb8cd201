-- A list of JSON that is read one item after the other.
use Rattle.std.proofs.Common.{◌≡◌, ℕ, ◌+◌, ◌<◌, ◌≤◌, List, [], ◌∷◌, ◌++◌, length, get_or, drop, drop-cons, add-one, Bool, true, false, Result, Ok, Err, refl, ap, sym, ◌∙◌}
use Rattle.std.proofs.lemmas.List.{append-nil, drop_all}
use Rattle.serde_json.specs.Data.{Data, Items, no_items, item}
use Rattle.serde_json.specs.View.{view, items_view}
use Rattle.serde_json.specs.declared.value.Value.{Value}
use Rattle.refusals.specs.Refusals.{◌>>=◌, Fails}
use Rattle.refusals.proofs.Fronts.{with_front}

module _ {X Y E : Type 0} (one : Data → Result X E) (put : X → List Y → List Y) (all : Items → Result (List Y) E) where
  -- all is what one reads of each item, put in front of what it reads of the rest
  pub record ReadsEach : Type 0 where
    pub none : all no_items ≡ Ok []
    pub some : (d : Data) (ds : Items) → all (item d ds) ≡ (one d >>= λ x. all ds >>= λ ys. Ok (put x ys))
    pub in_front : (x : X) (front rest : List Y) → front ++ put x rest ≡ (front ++ put x []) ++ rest

  -- what stands before item i was read
  abbrev pub IsReadTo : List Y → ℕ → List Value → Type 0
  IsReadTo front i vs = with_front front (all (items_view (drop i vs))) ≡ all (items_view vs)

  module _ (each : ReadsEach) (vs : List Value) where
    pub read_to_first : IsReadTo [] 0 vs
    read_to_first = same (all (items_view vs))
      where
        same : (r : Result (List Y) E) → with_front [] r ≡ r
        same (Ok ys) = refl
        same (Err e) = refl

    module _ (i : ℕ) (v : Value) (front : List Y) (within : i < length vs) (is : v ≡ get_or vs i v) (before : IsReadTo front i vs) where
      here : with_front front (one (view v) >>= λ x. all (items_view (drop (i + 1) vs)) >>= λ ys. Ok (put x ys)) ≡ all (items_view vs)
      here = rw (each.some (view v) (items_view (drop (i + 1) vs))) at
          (let left : drop i vs ≡ v ∷ drop (i + 1) vs = rw (drop-cons vs i v within, add-one, ← is) refl in rw left at before)

      pub read_to_next : (x : X) (gs : List Y) → one (view v) ≡ Ok x → gs ≡ front ++ put x [] → IsReadTo gs (i + 1) vs
      read_to_next x gs read more = rw more (regrouped (all (items_view (drop (i + 1) vs))) ∙ (rw read at here))
        where
          regrouped : (r : Result (List Y) E) → with_front (front ++ put x []) r ≡ with_front front (r >>= λ ys. Ok (put x ys))
          regrouped (Ok ys) = ap Ok (sym (each.in_front x front ys))
          regrouped (Err e) = refl

      pub read_fails : (is_open : E → Bool) (e : E) → Fails is_open e (one (view v)) → Fails is_open e (all (items_view vs))
      read_fails is_open e = unless (is_open e)
        where
          unless : (b : Bool) → Fails (λ _. b) e (one (view v)) → Fails (λ _. b) e (all (items_view vs))
          unless true told = tt
          unless false read = sym (rw read at here)

    pub all_read : (i : ℕ) (front : List Y) → length vs ≤ i → IsReadTo front i vs → all (items_view vs) ≡ Ok front
    all_read i front past before =
        sym (rw (drop_all i vs past, each.none) at before) ∙ ap Ok (append-nil front)
