-- The workers of a yard, and what they hand in.
use Rattle.std.proofs.Common.{◌≡◌, ℕ, ◌+◌, List, [], ◌∷◌, ◌++◌, length, set, get_or, map, All, sym, refl, ap, ◌∙◌, subst, arith, append-nil, length-append}
use Rattle.std.specs.Prelude.{sum_by}
use Rattle.std.specs.List.{flat_map}
use Rattle.std.specs.declared.vec.Vec.{Vec}
use Rattle.std.specs.declared.alloc.Global.{Global}
use Rattle.std.proofs.lemmas.List.{map-append, length-map}
use Rattle.std.proofs.Math.Seq.{map-set_same}
use Rattle.std.proofs.lemmas.List.Sums.{sum_by-append, sum_by-cons, sum_by-set}
use Rattle.std.proofs.lemmas.List.Elements.{All-head, All-tail, All-push, All-contains}
use Rattle.std.proofs.lemmas.Grind.{flat_map-append}
use Rattle.slice_yard.specs.declared.slices.Slice.{Slice}
use Rattle.slice_yard.specs.declared.rule.Hand.{Hand}
use Rattle.slice_yard.specs.declared.lane.Thief.{Thief}
use Rattle.audit_slices.specs.declared.checks.SliceReport.{SliceReport}
use Rattle.audit_slices.specs.declared.members.Member.{Member}
use Rattle.slice_yard.specs.Hands.{owner_hand, handed_rest}
use Rattle.slice_yard.specs.Lane.{thief_place, thief_hand_of}
use Rattle.audit_slices.specs.Members.{member_places, IsNew}
use Rattle.audit_slices.specs.Run.{unspent, rest_sum}
use Rattle.slice_core.proofs.Tables.{All_along, empty}
use Rattle.slice_yard.specs.Shared.{handed_sum, thieves_sum, HandedLeft}

-- thieves that were handed nothing
pub nothing_handed : (h : Slice → ℕ) (ts : List Thief) → All (λ t. (thief_hand_of t).handed ≡ []) ts → thieves_sum h ts ≡ 0
nothing_handed h [] none = refl
nothing_handed h (t ∷ ts) none =
    let P : Thief → Type 0 = λ t. (thief_hand_of t).handed ≡ [] in
    let a = sum_by-cons (λ (t : Thief). handed_sum h (thief_hand_of t)) t ts in
    let b : handed_sum h (thief_hand_of t) ≡ 0 = ap (sum_by h) (All-head P t ts none) in
    let c = nothing_handed h ts (All-tail P t ts none) in
    omega arith

pub flat_map-more : {X A : Type 0} (f : X → List A) (xs : List X) (x : X) (old new : List A) → old ≡ flat_map f xs → new ≡ old ++ f x → new ≡ flat_map f (xs ++ x ∷ [])
flat_map-more f xs x old new e is = is ∙ ap (λ l. l ++ f x) e ∙ ap (λ l. flat_map f xs ++ l) (sym (append-nil (f x))) ∙ sym (flat_map-append f xs (x ∷ []))

pub map-more : {X A : Type 0} (f : X → A) (xs : List X) (x : X) (old new : List A) → old ≡ map f xs → new ≡ old ++ f x ∷ [] → new ≡ map f (xs ++ x ∷ [])
map-more f xs x old new e is = is ∙ ap (λ l. l ++ f x ∷ []) e ∙ sym (map-append f xs (x ∷ []))

-- one slice more was handed out of the closed lanes
pub drained_sum : {X : Type 0} (before new : List (SliceReport X)) (r : SliceReport X) (first now after : List Hand) (done : List (SliceReport X)) (x : Slice) → HandedLeft now after x → new ≡ before ++ r ∷ [] → r.slice ≡ x
    → ((h : Slice → ℕ) → sum_by (λ r. h r.slice) before + rest_sum h first ≡ sum_by (λ r. h r.slice) done + rest_sum h now)
    → (h : Slice → ℕ) → sum_by (λ r. h r.slice) new + rest_sum h first ≡ sum_by (λ r. h r.slice) done + rest_sum h after
drained_sum {X} before new r first now after done x left e is so_far h =
    let f : SliceReport X → ℕ = λ r. h r.slice in
    let g : Hand → ℕ = λ v. sum_by h v.rest in
    let old : Hand = get_or now left.lane owner_hand in
    let a : sum_by f new ≡ sum_by f (before ++ r ∷ []) = ap (sum_by f) e in
    let b = sum_by-append f before (r ∷ []) in
    let c = sum_by-cons f r [] in
    let d : rest_sum h after ≡ sum_by g (set now left.lane (handed_rest old (x ∷ []))) = ap (sum_by g) left.hand in
    let k = sum_by-set g now left.lane (handed_rest old (x ∷ [])) owner_hand left.is_lane in
    let m = sum_by-append h old.rest (x ∷ []) in
    let n = sum_by-cons h x [] in
    let i : h r.slice ≡ h x = ap h is in
    let s = so_far h in
    omega arith

pub drained_same : (first now after : List Hand) (x : Slice) → HandedLeft now after x → map unspent now ≡ map unspent first → map unspent after ≡ map unspent first
drained_same first now after x left so_far =
    ap (map unspent) left.hand ∙ map-set_same unspent now left.lane (handed_rest (get_or now left.lane owner_hand) (x ∷ [])) owner_hand refl ∙ so_far

-- the slice is one of a closed lane
pub drained_below : (P : Slice → Type 0) (first now : List Hand) (after : List Hand) (x : Slice) → HandedLeft now after x → map unspent now ≡ map unspent first → All (λ v. All P v.opening) first → P x
drained_below P first now after x left same all =
    let each : All (λ (v : Hand). All P v.opening) now = All_along (λ (v : Hand). All P v.opening) unspent first now same all in
    All-contains P (get_or now left.lane owner_hand).opening x (each left.lane owner_hand left.is_lane) left.put_in

-- one worker more
module _ {X : Type 0} (ms new : List (Member X)) (m : Member X) (e : new ≡ ms ++ m ∷ []) where
  pub staffed_more : {Y : Type 0} (g : Member X → Y) (before : List Y) (y : Y) → map g ms ≡ before → g m ≡ y → map g new ≡ before ++ y ∷ []
  staffed_more g before y so_far is = ap (map g) e ∙ map-append g ms (m ∷ []) ∙ ap (λ l. l ++ g m ∷ []) so_far ∙ ap (λ z. before ++ z ∷ []) is

  pub new_more : All IsNew ms → IsNew m → All IsNew new
  new_more all one = subst (All IsNew) (sym e) (All-push IsNew ms m all one)

-- all thieves were given to the workers
pub all_taken : {X : Type 0} (ms : List (Member X)) (thieves taken rest : List (Vec Thief Global)) → thieves ≡ taken ++ rest → map (λ m. (member_places m).1) ms ≡ map (λ v. map thief_place v.items) taken → length ms ≡ length thieves
    → map (λ m. (member_places m).1) ms ≡ map (λ v. map thief_place v.items) thieves
all_taken {X} ms thieves taken rest e is count =
    let a : length ms ≡ length taken = sym (length-map ms (λ (m : Member X). (member_places m).1)) ∙ ap length is ∙ length-map taken (λ (v : Vec Thief Global). map thief_place v.items) in
    let b = ap length e ∙ length-append taken rest in
    let none : rest ≡ [] = empty rest (omega arith) in
    is ∙ ap (map (λ (v : Vec Thief Global). map thief_place v.items)) (sym (append-nil taken) ∙ ap (λ l. taken ++ l) (sym none) ∙ sym e)
