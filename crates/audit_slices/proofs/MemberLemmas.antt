use Rattle.std.proofs.Common.{◌≡◌, ℕ, suc, ◌+◌, ◌<◌, ◌≤◌, List, [], ◌∷◌, ◌++◌, length, take, drop, map, sym, refl, ap, ◌∙◌, subst, arith}
use Rattle.std.specs.Prelude.{sum_by, All, slice_index_or}
use Rattle.std.proofs.lemmas.List.{length-map}
use Rattle.std.proofs.lemmas.List.Elements.{All-contains}
use Rattle.slice_core.proofs.Tables.{written_back}
use Rattle.slice_yard.specs.declared.slices.Slice.{Slice}
use Rattle.audit_slices.specs.declared.members.Member.{Member}
use Rattle.audit_slices.specs.Reports.{IsReported}
use Rattle.audit_slices.specs.Members.{member_sum, member_places, IsSettled, IsOneShort, HasWorked, HaveWorked, IsIn, AreBelow, Places, openings}

-- a slice that was put in has its entries below n, where all have
pub below : (n : ℕ) (before places : Places) (x : Slice) → places ≡ before → AreBelow n before → IsIn (openings places) x → x.from + x.count ≤ n
below n before places x e all c =
    let a : AreBelow n places = subst (λ (l : Places). AreBelow n l) (sym e) all in
    All-contains (λ (x : Slice). x.from + x.count ≤ n) c.0 x (All-contains (λ (l : List Slice). All (λ (x : Slice). x.from + x.count ≤ n) l) (openings places) c.0 a.each c.1) c.2

-- a worker that was handed x is short of its reports
pub short : {X : Type 0} (P : ℕ → X → Type 0) (old new : Member X) (x : Slice) → IsSettled P old → (new.done ≡ old.done) × (new.lost ≡ old.lost) → ((h : Slice → ℕ) → member_sum h new ≡ member_sum h old + h x) → IsOneShort P x new
short P old new x settled same more = record {
  given = subst (λ d. All (IsReported P) d.items) (sym same.0) settled.given;
  each = λ kept h. let a = settled.each (sym same.1 ∙ kept) h in let b = more h in let e = ap (λ d. sum_by (λ r. h r.slice) d.items) same.0 in omega arith;
}

-- workers of which each has its places
each_place : {X : Type 0} (before now : List (Member X)) → length now ≡ length before → ((i : ℕ) (d : Member X) → i < length before → member_places (slice_index_or now i d) ≡ member_places (slice_index_or before i d)) → map member_places now ≡ map member_places before
each_place [] [] e h = refl
each_place [] (m ∷ ms) e h = absurd (omega arith)
each_place (m ∷ ms) [] e h = absurd (omega arith)
each_place (m ∷ ms) (n ∷ ns) e h =
    let first = h 0 m (omega arith) in
    let rest = each_place ms ns (omega arith) (λ i d lt. h (suc i) d (omega arith)) in
    λ i. first i ∷ rest i

pub each_worked : {X : Type 0} (P : ℕ → X → Type 0) (before now : List (Member X)) → length now ≡ length before
    → ((i : ℕ) (d : Member X) → i < length before → HasWorked P (slice_index_or before i d) (slice_index_or now i d)) → HaveWorked P before now
each_worked P before now e h = record {
  after = λ i d lt. (h i d (omega arith)).after;
  places = each_place before now e (λ i d lt. (h i d lt).places);
}

pub worked_as : {X : Type 0} (P : ℕ → X → Type 0) {old before new after : Member X} → old ≡ before → new ≡ after → HasWorked P old new → HasWorked P before after
worked_as P {before = before} {new = new} e f worked = subst (HasWorked P before) f (subst (λ m. HasWorked P m new) e worked)

-- the workers of a vector, written back through its slice
pub worked_back : {X : Type 0} (P : ℕ → X → Type 0) (len : ℕ) (before slice new now : List (Member X)) → length before ≡ len → slice ≡ before
    → now ≡ take len (new ++ drop (length new) before) → HaveWorked P slice new → HaveWorked P before now
worked_back P len before slice new now count same is worked =
    let as_many : length new ≡ len = sym (length-map new member_places) ∙ ap length worked.places ∙ length-map slice member_places ∙ ap length same ∙ count in
    let e : now ≡ new = is ∙ written_back len before new as_many count in
    record {
      after = subst (All (IsSettled P)) (sym e) worked.after;
      places = ap (map member_places) e ∙ worked.places ∙ ap (map member_places) same;
    }
