-- A thief among others is handed a slice.
use Rattle.std.proofs.Common.{◌≡◌, ℕ, suc, ◌+◌, ◌<◌, List, [], ◌∷◌, ◌++◌, length, set, get_or, map, sym, ap, subst, arith}
use Rattle.std.specs.Prelude.{sum_by, Contains, Option, Some, None, IfSome}
use Rattle.std.proofs.Math.Seq.{map-set_same}
use Rattle.std.proofs.lemmas.List.Sums.{sum_by-set}
use Rattle.std.proofs.lemmas.List.Sums.{sum_by-append}
use Rattle.std.proofs.lemmas.List.{length-map, get_or-map}
use Rattle.slice_yard.specs.declared.slices.Slice.{Slice}
use Rattle.slice_yard.specs.declared.lane.Thief.{Thief}
use Rattle.slice_yard.specs.declared.rule.Hand.{Hand}
use Rattle.slice_yard.specs.Hands.{took}
use Rattle.slice_yard.specs.Lane.{ThiefPlace, thief_place, thief_hand_of}
use Rattle.audit_slices.specs.Members.{Places, openings, thief_openings, IsIn}
use Rattle.slice_yard.specs.Shared.{handed_sum, thieves_sum}
use Rattle.slice_core.proofs.Tables.{map_map}

pub handed_sum-took : (h : Slice → ℕ) (v w : Hand) (x : Slice) → w ≡ took v (x ∷ []) → handed_sum h w ≡ handed_sum h v + h x
handed_sum-took h v w x e = let a = sum_by-append h v.handed (x ∷ []) in let b : handed_sum h w ≡ sum_by h (v.handed ++ x ∷ []) = ap (handed_sum h) e in omega arith

-- t takes the place of the thief at i
module _ (ts : List Thief) (i : ℕ) (t d : Thief) (within : i < length ts) where
  pub places_kept : thief_place t ≡ thief_place (get_or ts i d) → map thief_place (set ts i t) ≡ map thief_place ts
  places_kept same = map-set_same thief_place ts i t d same

  pub sums_more : (x : Slice) → thief_hand_of t ≡ took (thief_hand_of (get_or ts i d)) (x ∷ []) → (h : Slice → ℕ) → thieves_sum h (set ts i t) ≡ thieves_sum h ts + h x
  sums_more x e h =
      let f : Thief → ℕ = λ u. handed_sum h (thief_hand_of u) in
      let s : thieves_sum h (set ts i t) + f (get_or ts i d) ≡ thieves_sum h ts + f t = sum_by-set f ts i t d within in
      let p : f t ≡ f (get_or ts i d) + h x = handed_sum-took h (thief_hand_of (get_or ts i d)) (thief_hand_of t) x e in
      omega arith

  pub sums_same : thief_hand_of t ≡ thief_hand_of (get_or ts i d) → (h : Slice → ℕ) → thieves_sum h (set ts i t) ≡ thieves_sum h ts
  sums_same e h =
      let f : Thief → ℕ = λ u. handed_sum h (thief_hand_of u) in
      let s : thieves_sum h (set ts i t) + f (get_or ts i d) ≡ thieves_sum h ts + f t = sum_by-set f ts i t d within in
      let p : f t ≡ f (get_or ts i d) = ap (handed_sum h) e in
      omega arith

pub inside : (ts : List Thief) (i : ℕ) (d : Thief) (x : Slice) → i < length ts → Contains (thief_hand_of (get_or ts i d)).opening x → IsIn (thief_openings (map thief_place ts)) x
inside ts i d x within c =
    let opening : Thief → List Slice = λ t. (thief_hand_of t).opening in
    let same : thief_openings (map thief_place ts) ≡ map opening ts = map_map (λ (p : ThiefPlace). p.2.opening) thief_place ts in
    let n = length-map ts opening in
    subst (λ ls. IsIn ls x) (sym same) (opening (get_or ts i d), (i, omega arith, get_or-map opening ts i d (opening (get_or ts i d)) within), c)

-- what was so of an equal list of places
pub inside_same : (places others : List ThiefPlace) (x : Slice) → places ≡ others → IsIn (thief_openings places) x → IsIn (thief_openings others) x
inside_same places others x e h = subst (λ (l : List ThiefPlace). IsIn (thief_openings l) x) e h

-- in a lane that it steals from
pub inside_other : (p : Places) (x : Slice) → IsIn (thief_openings p.1) x → IsIn (openings p) x
inside_other p x h = (h.0, (suc h.1.0, (let a = h.1.1 in omega arith), h.1.2), h.2)

pub on_some : {X : Type 0} (P Q : X → Type 0) (o : Option X) → ((x : X) → P x → Q x) → IfSome o P → IfSome o Q
on_some P Q None f h = h
on_some P Q (Some x) f h = f x h
